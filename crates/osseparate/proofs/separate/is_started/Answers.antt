use Rattle.std.proofs.Common.{◌∙◌, sym}
use Rattle.osplan.proofs.Tests.{is_some-copied}
use Rattle.osseparate.proofs.Starting.{unstarted}
use Rattle.osseparate.proofs.separate.is_started.Goals as goal

pub returns-then-is_some : goal.returns-then-is_some
returns-then-is_some c = c.contains.ensures.value ∙ sym (c.requires c.args.id (rw (← c.core.ensures, is_some-copied, ← c.is_some.ensures) c.if-is_some.true))

pub returns-else-is_some : goal.returns-else-is_some
returns-else-is_some c = c.if-is_some.false ∙ sym (unstarted c.args.plan.now c.args.id (rw (← c.core.ensures, is_some-copied, ← c.is_some.ensures) c.if-is_some.false))
