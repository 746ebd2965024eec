-- Within the limits, there are few jobs, and alarms and tables post few letters. Also the offsets of ascending points.
use Rattle.std.proofs.Common.{◌≡◌, ℕ, ◌*◌, ◌≤◌, true, sum_by, List, [], ◌∷◌, length, unwrap_or, Option, arith, suc, ◌-◌, ◌<◌, map, Some, is_some, refl, ap, ◌∙◌}
use Rattle.std.specs.List.{list_all, slice_get}
use Rattle.std.proofs.{lemmas.Bool.Decides.nat_tests, lemmas.List.length-map, lemmas.List.Folds.fold-map, lemmas.List.Folds.list_all-map, lemmas.List.Sums.sum_by-cons, lemmas.List.Sums.count_by-le-length, lemmas.Bool.and_from, lemmas.Bool.leb-true}
use Rattle.osplan.specs.Limits.{TaskSizes, is_between, is_task_within, jobs_of, PointSizes, are_ascending, is_before, last_offset, are_alarms_within, are_tables_within, is_point_within, is_table_within}
use Rattle.osvalidate.specs.Words.{TaskText, PointText, AlarmText, CoreId, Declaration, TableText}
use Rattle.osvalidate.specs.Check.{task_sizes, point_sizes, alarm_sizes, table_sizes}
use Rattle.osbase.specs.History.{greater}
use Rattle.osplan.specs.Objects.{greatest_of}
use Rattle.osplan.proofs.Within.{between}
use Rattle.osvalidate.specs.Posted.{most_posts_of_table, is_posting, posted_at, posted_by_alarms, posted_by_tables}

pub most : (low high : ℕ) (number : Option ℕ) → is_between low high number ≡ true → unwrap_or number 0 ≤ high
most low high number h = grind (arith, nat_tests)

-- ---- jobs within their limits are few

most-jobs : (s : TaskSizes) → is_task_within s ≡ true → jobs_of s ≤ 64
most-jobs s h = grind (arith, nat_tests)

pub few_jobs : (tasks : List TaskText) → list_all (λ (task : TaskText). is_task_within (task_sizes task)) tasks ≡ true → sum_by (λ (task : TaskText). jobs_of (task_sizes task)) tasks ≤ 64 * length tasks
few_jobs [] h = omega arith
few_jobs (task ∷ tasks) h =
    omega (arith, most-jobs (task_sizes task) (grind arith), sum_by-cons (λ (task : TaskText). jobs_of (task_sizes task)) task tasks, few_jobs tasks (grind arith))

-- ---- lists of tests

-- a test of each element's numbers, and the number of elements
pub ruleset mapped = (list_all-map, length-map, fold-map)

-- ---- the offsets of a schedule table's points, which ascend

pub last-at : (points : List PointText) (last : PointText) → slice_get points (length points - 1) ≡ Some last → unwrap_or last.offset 0 ≡ last_offset (map point_sizes points)
last-at [] last is = cc
last-at (point ∷ []) last is = cc
last-at (point ∷ next ∷ points) last is =
    let index : suc (length (next ∷ points) - 1) ≡ length (point ∷ next ∷ points) - 1 = omega arith in
    last-at (next ∷ points) last (ap (slice_get (point ∷ next ∷ points)) index ∙ is)

before : (a b : Option ℕ) → is_before a b ≡ true → (is_some a ≡ true) × (unwrap_or a 0 < unwrap_or b 0)
before a b h = (grind (arith, nat_tests), grind (arith, nat_tests))

-- Each offset is given, and none is past the last.
low : (most : ℕ) (number : Option ℕ) → is_some number ≡ true → unwrap_or number 0 ≤ most → is_between 0 most number ≡ true
low most number there h = grind (arith, nat_tests)

first-most : (point : PointSizes) (points : List PointSizes) → are_ascending (point ∷ points) ≡ true → unwrap_or point.offset 0 ≤ last_offset (point ∷ points)
first-most point [] up = omega arith
first-most point (next ∷ points) up =
    omega (arith, (before point.offset next.offset (grind arith)).1, first-most next points (grind arith))

pub offsets-low : (most : ℕ) (points : List PointSizes) → are_ascending points ≡ true → last_offset points ≤ most → list_all (λ (point : PointSizes). is_between 0 most point.offset) points ≡ true
offsets-low most [] up last = refl
offsets-low most (point ∷ []) up last = and_from _ _ (low most point.offset up last) refl
offsets-low most (point ∷ next ∷ points) up last =
    let first = first-most point (next ∷ points) up in
    and_from _ _ (low most point.offset (before point.offset next.offset (grind arith)).0 (omega (arith, first, last))) (offsets-low most (next ∷ points) (grind arith) last)

-- ---- alarms and tables post few letters at once

greater-least : (a b most : ℕ) → a ≤ most → b ≤ most → greater a b ≤ most
greater-least a b most first second = grind arith

module _ (objects : List Declaration) (id : CoreId) where
  pub alarms_small : (alarms : List AlarmText) → are_alarms_within (map (alarm_sizes objects) alarms) ≡ true → posted_by_alarms objects id alarms ≤ 32
  alarms_small alarms h =
      let count = leb-true (length (map (alarm_sizes objects) alarms)) 32 (grind arith) in
      omega (arith, count, length-map alarms (alarm_sizes objects), count_by-le-length (λ (alarm : AlarmText). is_posting objects id alarm.action) alarms)

  greatest-small : (points : List PointText) → list_all is_point_within (map point_sizes points) ≡ true → greatest_of (map (posted_at objects id) points) ≤ 8
  greatest-small [] h = omega arith
  greatest-small (point ∷ points) h =
      let actions = (between 1 8 (length point.actions) (grind arith)).1 in
      greater-least (posted_at objects id point) _ 8 (omega (arith, actions, count_by-le-length (is_posting objects id) point.actions)) (greatest-small points (grind arith))

  sum-small : (tables : List TableText) → list_all is_table_within (map (table_sizes objects) tables) ≡ true → posted_by_tables objects id tables ≤ 8 * length tables
  sum-small [] h = omega arith
  sum-small (table ∷ tables) h =
      omega (arith, greatest-small table.points (grind arith), sum_by-cons (most_posts_of_table objects id) table tables, sum-small tables (grind arith))

  pub tables_small : (tables : List TableText) → are_tables_within (map (table_sizes objects) tables) ≡ true → posted_by_tables objects id tables ≤ 64
  tables_small tables h =
      let count = leb-true (length (map (table_sizes objects) tables)) 8 (grind arith) in
      omega (arith, count, length-map tables (table_sizes objects), sum-small tables (grind arith))
