use Rattle.std.proofs.Common.{refl}
use Rattle.osload.proofs.table_plans.CorePlannerPlannerTableTextTable.plan.Goals as goal

pub returns : goal.returns
returns c =
    let points = c.in_ok-points.ensures in (
      refl,
      rw (c.in_ok-new.ensures, c.as_str-2.ensures, c.judge_counter-counter.ensures.value, c.as_str.ensures, c.word_of.ensures, points.1, c.as_slice.ensures, c.in_ok-auto_of.ensures) refl,
      rw (c.judge_counter-counter.ensures.verdict, points.2, c.are_table_modes_known.ensures, c.as_str.ensures, c.as_slice.ensures) refl,
    )
