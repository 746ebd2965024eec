use Rattle.std.proofs.Common.{is_some, ap, sym, ◌∙◌}
use Rattle.osplan.proofs.Tests.{is_some-copied}
use Rattle.osstate.proofs.Begun.{is_some-core_of}
use Rattle.osrun.proofs.requests.is_configured.Goals as goal

pub returns : goal.returns
returns c id = c.is_some.ensures ∙ sym (is_some-copied c.core.result) ∙ ap is_some c.core.ensures ∙ is_some-core_of c.args.core c.args.plan.now.cores
