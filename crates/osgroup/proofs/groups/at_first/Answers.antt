use Rattle.std.proofs.Common.{replicate, false, refl}
use Rattle.osbase.specs.declared.items.CoreSet.{CoreSet}
use Rattle.osplan.proofs.{Tests.is_some-copied, Numbered.configured-low}
use Rattle.osgroup.proofs.Least.{first-found, first-none}
use Rattle.osgroup.proofs.groups.at_first.Goals as goal

pub set_of-requires : goal.set_of-requires
set_of-requires c = configured-low c.args.plan.now c.args.core c.requires (cc (is_some-copied c.core.result))

pub returns-then-is_some : goal.returns-then-is_some
returns-then-is_some c = first-found c.args.plan.now c.requires c.args.core c.set_of.result c.set_of.ensures (cc (is_some-copied c.core.result))

pub returns-else-is_some : goal.returns-else-is_some
returns-else-is_some c =
    let none : CoreSet = record { members = replicate 16 false } in
    first-none c.args.plan.now c.requires c.args.core none refl (cc (is_some-copied c.core.result))
