use Rattle.osbase.specs.History.{Printed}
use Rattle.osstate.proofs.Sounds.{plain-isrs, plain-jobs, same-jobs}
use Rattle.osstate.proofs.state.CoreState.print.Goals as goal
use Rattle.std.proofs.Common.{[]}

pub invariant_of-self : goal.invariant_of-self
invariant_of-self g c =
    rw (c.print.ensures, c.record.ensures.progress) (same-jobs [] (Printed c.args.mark) (plain-jobs c.args.mark 0 c.self.inside.jobs.jobs c.requires.plain) (plain-isrs c.args.mark 0 c.self.inside.jobs.isrs c.requires.plain) c.self.invariant)
