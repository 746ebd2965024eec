use Rattle.std.proofs.Common.{◌≡◌, map, drop}
use Rattle.osbase.specs.History.{greater}
use Rattle.osplan.specs.Objects.{greatest_of}
use Rattle.osvalidate.specs.Posted.{most_posts_of_table, posted_at}
use Rattle.osvalidate.proofs.table_checks.most_posts_of_table.Given as goal

-- the greatest of all is the greatest so far, or one that is still to come
abbrev pub invariant-loop-point : goal.invariant-loop-point
invariant-loop-point l = greater l.greatest (greatest_of (map (posted_at l.objects.declared l.id) (drop l.point-index l.table.points))) ≡ most_posts_of_table l.objects.declared l.id l.table
