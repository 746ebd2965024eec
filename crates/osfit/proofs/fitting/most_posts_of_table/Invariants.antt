use Rattle.std.proofs.Common.{◌≡◌, map, drop}
use Rattle.osbase.specs.History.{greater}
use Rattle.osplan.specs.Objects.{greatest_of, most_posts_of_table, posted_at}
use Rattle.osfit.proofs.fitting.most_posts_of_table.Given as goal

-- the greater of the greatest so far and that of the points still to come is the table's
abbrev pub invariant-loop-point : goal.invariant-loop-point
invariant-loop-point l = greater l.greatest (greatest_of (map (posted_at l.core) (drop l.point-index l.table.points))) ≡ most_posts_of_table l.core l.table
