use Rattle.std.proofs.Common.{Some, ap, refl, sym, ◌∙◌}
use Rattle.std.proofs.lemmas.Bool.{le-leb, lt-leb}
use Rattle.ostable.specs.Ahead.{due_next}
use Rattle.ostable.proofs.Runs.{due-at}
use Rattle.ostable.proofs.table.Table.due_next.Goals as goal

pub returns-in-Running-clause-counts : goal.returns-in-Running-clause-counts
returns-in-Running-clause-counts c state is =
    ap Some c.due_of.ensures ∙ sym (ap (due_next c.args.plan.now) c.in-Running.is ∙ rw (le-leb c.in-Running.ahead.distance 1 c.if-ahead-le1.true) refl)
    ∙ due-at c.args.plan.now c.requires.timed c.args.self state is

pub returns-in_default-clause-counts : goal.returns-in_default-clause-counts
returns-in_default-clause-counts c state is =
    sym (ap (due_next c.args.plan.now) c.in-Running.is ∙ rw (lt-leb c.in-Running.ahead.distance 1 c.if-ahead-le1.false) refl) ∙ due-at c.args.plan.now c.requires.timed c.args.self state is
