use Rattle.std.proofs.Common.{refl, []}
use Rattle.osbase.specs.declared.marks.Mark.TheVariants as Mark
use Rattle.osbase.specs.History.{Printed}
use Rattle.osstate.proofs.Sounds.{same-jobs}
use Rattle.osstate.proofs.state.CoreState.leave.Goals as goal

pub invariant_of-self : goal.invariant_of-self
invariant_of-self g c = rw (c.leave.ensures, c.record.ensures.progress) (same-jobs [] (Printed (Mark.PostTaskHook c.args.task)) refl refl c.self.invariant)
