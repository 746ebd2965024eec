-- A kernel has room for the counters, alarms and tables of each configured core. What this means, part by part.
use Rattle.std.proofs.Common.{◌≡◌, ℕ, ◌≤◌, true, ◌&&◌, nat_le, Bool, length, Some, IsTrue, refl, sym, ap, ◌∙◌, arith}
use Rattle.std.specs.List.{list_all}
use Rattle.std.proofs.{lemmas.Bool.and_parts, lemmas.Bool.Decides.nat_tests, lemmas.List.length-map, lemmas.List.Folds.list_all-map}
use Rattle.osbase.specs.{declared.references.CoreId.CoreId, History.same_core}
use Rattle.osbase.proofs.Same.{same_core-true}
use Rattle.osplan.specs.{declared.plans.Alarm.Alarm, declared.plans.AlarmStart.AlarmStart, declared.plans.Core.Core, declared.plans.Counter.Counter, declared.plans.Plan.Plan, declared.plans.Table.Table, Clocked.are_clocks_within, Clocked.is_alarm_attached, Clocked.is_table_attached, Clocked.own_table_sizes, View.core_of, View.own_counter}
use Rattle.osplan.specs.Limits.{CoreSizes, alarm_sizes, are_alarms_within, are_counters_within, are_tables_within, is_core_timed, is_table_timed, is_table_within, is_cycle, core_sizes, counter_sizes, is_alarm_within, is_core_known, has_local_references, is_core_within, is_counter_within, is_within_limits}
use Rattle.osplan.proofs.{Alarming.attached, Alarming.known-parts, Alarming.own-sizes, Alarming.own-tables, Alarming.own-timed, Alarming.tables-attached, Within.limit-parts, Within.near-parts, Tests.all-weaker, Tests.find-holds, Tests.find-passes}

-- If a core's sizes are within the limits, so are its counters, alarms and tables.
parts-within : (s : CoreSizes) → is_core_within s ≡ true → (are_counters_within s.counters ≡ true) × ((are_alarms_within s.alarms ≡ true) × (are_tables_within s.tables ≡ true))
parts-within s h = (grind arith, (grind arith, grind arith))

all-of : (a b c d e f : Bool) → a ≡ true → b ≡ true → c ≡ true → d ≡ true → e ≡ true → f ≡ true → (a && b && c && d && e && f) ≡ true
all-of a b c d e f one two three four five six = rw (one, two, three, four, five, six) refl

pub clocks_within : (plan : Plan) (id : CoreId) (core : Core) → IsTrue (is_within_limits plan) → core_of plan id ≡ Some core → are_clocks_within core ≡ true
clocks_within plan id core limits found =
    let pick : (q : Core → Bool) → list_all q plan.cores ≡ true → q core ≡ true = λ q a. find-passes (λ (c : Core). same_core c.id id) q plan.cores core a found in
    let inside = limit-parts plan limits in
    let mine : core_of plan core.id ≡ Some core = ap (core_of plan) (same_core-true core.id id (find-holds (λ (c : Core). same_core c.id id) plan.cores core found)) ∙ found in
    let near = near-parts core (pick has_local_references inside.near) in
    let known = known-parts plan core mine (pick (is_core_known plan) inside.known) in
    let limited : is_core_within (core_sizes plan core) ≡ true = pick (λ (c : Core). is_core_within (core_sizes plan c)) inside.cores in
    let held = parts-within (core_sizes plan core) limited in
    let alarms = rw (own-sizes plan core mine near.alarms) at held.1.0 in
    let tables = rw (own-tables plan core mine near.tables) at held.1.1 in
    let timed = sym (own-timed plan core mine near.tables) ∙ pick (is_core_timed plan) inside.timed in
    all-of _ _ _ _ _ _ held.0 alarms (attached plan core mine known.alarms near.alarms) tables (tables-attached plan core mine known.tables near.tables) timed

-- ---- what it says

pub record ClockParts (core : Core) : Type 0 where
  pub counters : length core.counters ≤ 8
  pub bounds : list_all (λ (c : Counter). is_counter_within (counter_sizes c)) core.counters ≡ true
  pub maxima : list_all (λ (c : Counter). nat_le 1 c.max && nat_le c.max 1000000000) core.counters ≡ true
  pub alarms : length core.alarms ≤ 32
  pub starts : list_all (λ (alarm : Alarm). is_alarm_within (alarm_sizes (own_counter core) alarm)) core.alarms ≡ true
  pub attached : list_all (is_alarm_attached core) core.alarms ≡ true
  pub tables : length core.tables ≤ 8
  pub sizes : list_all (λ (table : Table). is_table_within (own_table_sizes core table)) core.tables ≡ true
  pub tables_attached : list_all (is_table_attached core) core.tables ≡ true
  pub timed : list_all (λ (table : Table). is_table_timed (own_table_sizes core table)) core.tables ≡ true

pub clock-parts : (core : Core) → are_clocks_within core ≡ true → ClockParts core
clock-parts core within =
    let told = simp (list_all-map is_counter_within, list_all-map is_alarm_within, list_all-map is_table_within) at within in
    let bounds : list_all (λ (c : Counter). is_counter_within (counter_sizes c)) core.counters ≡ true = grind arith in
    let maxima = all-weaker _ (λ (c : Counter). nat_le 1 c.max && nat_le c.max 1000000000) (λ c h. (and_parts _ _ h).0) core.counters bounds in
    grind (arith, length-map core.counters counter_sizes, length-map core.alarms (alarm_sizes (own_counter core)), length-map core.tables (own_table_sizes core))

-- A cycle is 0 or no greater than the counter's greatest value.
pub cycle-most : (counter : Counter) (cycle : ℕ) → is_cycle (counter_sizes counter) (Some cycle) ≡ true → cycle ≤ counter.max
cycle-most counter cycle h = grind (arith, nat_tests)

-- An autostart alarm first expires after at least 1 count. Its start and its cycle are at most the counter's greatest
-- value.
pub start-bounds : (core : Core) (alarm : Alarm) (auto : AlarmStart) (counter : Counter) → is_alarm_within (alarm_sizes (own_counter core) alarm) ≡ true → alarm.auto ≡ Some auto → own_counter core alarm.counter ≡ Some counter → (1 ≤ auto.start) × (auto.start ≤ counter.max) × (auto.cycle ≤ counter.max)
start-bounds core alarm auto counter within is found =
    let told = rw (is, found) at within in
    search (arith, nat_tests)
