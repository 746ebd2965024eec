-- What a separate core's test says, part by part.
use Rattle.std.proofs.Common.{◌≡◌, true, false, [], arith}
use Rattle.oscript.specs.Rows.{asks_shared}
use Rattle.osplan.specs.{declared.plans.Plan.Plan, declared.plans.Core.Core}
use Rattle.osplan.specs.Naming.{acts_on, has_operation, is_off, names_other}
use Rattle.osplan.proofs.Tests.{none-from}
use Rattle.osseparate.specs.Separate.{halts_somewhere, is_agreed_mode, is_named_elsewhere, is_separate_core, names_mode}

-- The core names a mode that no started core contradicts. It starts no core. Its scripts, alarms and tables name no
-- other core's object, and no other core names its own. Its scripts ask for nothing shared. No script halts all cores.
pub record SeparateParts (plan : Plan) (core : Core) : Type 0 where
  pub names : names_mode core.mode ≡ true
  pub agreed : is_agreed_mode plan core.mode ≡ true
  pub no_start : core.start ≡ []
  pub inward : has_operation (names_other core.id) core ≡ false
  pub acting : acts_on (is_off core.id) core ≡ false
  pub unnamed : is_named_elsewhere plan core.id ≡ false
  pub unshared : has_operation asks_shared core ≡ false
  pub unhalted : halts_somewhere plan ≡ false

pub separate-parts : (plan : Plan) (core : Core) → is_separate_core plan core ≡ true → SeparateParts plan core
separate-parts plan core separate = search (arith, none-from)
