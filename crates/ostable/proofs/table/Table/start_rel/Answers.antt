use Rattle.std.proofs.Common.{arith}
use Rattle.ostable.proofs.Runs.{count-within}
use Rattle.ostable.proofs.table.Table.start_rel.Goals as goal

pub overflow_add-self : goal.overflow_add-self
overflow_add-self c = omega (arith, c.requires.turn, c.requires.timed.bounded, c.count_of_next.ensures, count-within c.args.plan.now c.requires.timed 0)
