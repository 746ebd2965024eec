use Rattle.std.proofs.Common.{ap, sym, ◌∙◌}
use Rattle.ostable.specs.{declared.table.Table.Table, Ahead.table_beyond}
use Rattle.ostable.proofs.Runs.{beyond-at}
use Rattle.ostable.proofs.table.Table.advance.Goals as goal

pub returns-in-Running-clause-counts : goal.returns-in-Running-clause-counts
returns-in-Running-clause-counts c state is =
    ap Table.Running c.beyond.ensures ∙ ap (table_beyond c.args.plan.now) (sym c.in-Running.is) ∙ beyond-at c.args.plan.now c.requires.timed c.args.self.now state is
