use Rattle.std.proofs.Common.{sym, ◌∙◌}
use Rattle.osvalidate.proofs.Numbers.{last-at}
use Rattle.osvalidate.proofs.table_checks.last_offset.Goals as goal

pub returns-in-Some : goal.returns-in-Some
returns-in-Some c = c.offset_of.ensures ∙ last-at c.args.points.now c.in-Some.point.now (sym c.in-Some.ensures.value)
