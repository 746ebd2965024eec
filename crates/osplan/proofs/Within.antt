-- What the tests of a configuration say, by name, and what a kernel needs of a core.
use Rattle.std.proofs.Common.{◌≡◌, ℕ, ◌≤◌, Bool, true, nat_le, nat_lt, List, length, map, Some, is_some, IsTrue, refl, sym, ◌∙◌, arith, sum_by}
use Rattle.std.specs.List.{list_all}
use Rattle.std.proofs.{lemmas.Bool.and_parts, lemmas.Bool.leb-true, lemmas.Bool.Decides.nat_tests, lemmas.List.length-map, lemmas.List.Folds.fold-map, lemmas.List.Folds.list_all-map}
use Rattle.osbase.specs.{declared.references.CoreId.CoreId, declared.objects.ObjectKind.ObjectKind, History.same_core, Names.is_name}
use Rattle.osplan.specs.{declared.plans.Plan.Plan, declared.plans.Alarm.Alarm, declared.plans.Core.Core, declared.plans.Counter.Counter, declared.plans.Isr.Isr, declared.plans.Resource.Resource, declared.plans.Table.Table, declared.plans.Task.Task, Objects.core_scripts, Objects.names_in, Objects.object_count, Objects.most_posts_per_tick, View.core_of, Spinlocks.are_links_ordered, Spinlocks.links_of}
use Rattle.osplan.specs.Limits.{CoreSizes, Sizes, count_in, most_of, is_between, is_within_by, is_core_numbered, is_versioned, task_sizes, core_sizes, sizes_of, is_task_within, is_alarm_local, is_core_timed, is_table_local, is_local_to, is_core_within, is_within, is_resource_within, resource_sizes, is_core_known, has_local_references, is_spinlock_known, numbers_of, are_numbers_distinct, is_within_limits}
use Rattle.osplan.specs.Representable.{is_isr_representable, is_mode_representable, is_spinlock_representable, are_distinct, declared_names, is_task_representable, is_resource_representable, is_counter_representable, is_alarm_representable, is_table_representable, is_core_representable, is_representable}
use Rattle.osplan.proofs.Tests.{all-weaker, find-passes}

-- ---- the parts of both tests

-- If sizes are within the limits, so are those of the cores.
pub cores-within : (s : Sizes) → is_within s ≡ true → list_all is_core_within s.cores ≡ true
cores-within s h = (and_parts _ (list_all is_core_within s.cores) (and_parts (is_versioned s) (is_within_by is_core_within s) h).1).1

pub record LimitParts (plan : Plan) : Type 0 where
  pub sizes : is_within (sizes_of plan) ≡ true
  pub cores : list_all (λ (c : Core). is_core_within (core_sizes plan c)) plan.cores ≡ true
  pub distinct : are_numbers_distinct (numbers_of plan.cores) ≡ true
  pub master : is_some (core_of plan plan.master) ≡ true
  pub known : list_all (is_core_known plan) plan.cores ≡ true
  pub near : list_all has_local_references plan.cores ≡ true
  pub timed : list_all (is_core_timed plan) plan.cores ≡ true
  pub linked : list_all (is_spinlock_known plan) plan.spinlocks ≡ true
  pub ordered : are_links_ordered (links_of plan.spinlocks) ≡ true

pub limit-parts : (plan : Plan) → IsTrue (is_within_limits plan) → LimitParts plan
limit-parts plan h =
    let ordered = and_parts _ (are_links_ordered (links_of plan.spinlocks)) h in
    let linked = and_parts _ (list_all (is_spinlock_known plan) plan.spinlocks) ordered.0 in
    let timed = and_parts _ (list_all (is_core_timed plan) plan.cores) linked.0 in
    let near = and_parts _ (list_all has_local_references plan.cores) timed.0 in
    let known = and_parts _ (list_all (is_core_known plan) plan.cores) near.0 in
    let master = and_parts _ (is_some (core_of plan plan.master)) known.0 in
    let sizes = and_parts (is_within (sizes_of plan)) (are_numbers_distinct (numbers_of plan.cores)) master.0 in
    record {
      sizes = sizes.0;
      cores = sym (list_all-map is_core_within (core_sizes plan) plan.cores) ∙ cores-within (sizes_of plan) sizes.0;
      distinct = sizes.1;
      master = master.1;
      known = known.1;
      near = near.1;
      timed = timed.1;
      linked = linked.1;
      ordered = ordered.1;
    }

pub record TextParts (plan : Plan) : Type 0 where
  pub modes : list_all is_mode_representable plan.modes ≡ true
  pub spinlocks : list_all is_spinlock_representable plan.spinlocks ≡ true
  pub cores : list_all is_core_representable plan.cores ≡ true
  pub names : are_distinct (declared_names plan) ≡ true

pub text-parts : (plan : Plan) → IsTrue (is_representable plan) → TextParts plan
text-parts plan h = search arith

-- The parts of a representable core, each representable.
pub record CoreTextParts (core : Core) : Type 0 where
  pub tasks : list_all is_task_representable core.tasks ≡ true
  pub isrs : list_all is_isr_representable core.isrs ≡ true
  pub resources : list_all is_resource_representable core.resources ≡ true
  pub counters : list_all is_counter_representable core.counters ≡ true
  pub alarms : list_all is_alarm_representable core.alarms ≡ true
  pub tables : list_all is_table_representable core.tables ≡ true

pub core-text-parts : (core : Core) → IsTrue (is_core_representable core) → CoreTextParts core
core-text-parts core h = search arith

-- Representable objects have names in form.
formed : {X : Type 0} (name : X → List ℕ) (p : X → Bool) → ((x : X) → p x ≡ true → is_name (name x) ≡ true) → (xs : List X) → list_all p xs ≡ true → list_all is_name (map name xs) ≡ true
formed name p each xs all = list_all-map is_name name xs ∙ all-weaker p (λ x. is_name (name x)) each xs all

-- The objects of a representable core have names in form, whatever their kind is.
pub names-formed : (core : Core) → CoreTextParts core → (kind : ObjectKind) → list_all is_name (names_in kind core) ≡ true
names-formed core said ObjectKind.Mode = refl
names-formed core said ObjectKind.Spinlock = refl
names-formed core said ObjectKind.Task = formed (λ (task : Task). task.name) is_task_representable (λ task h. grind arith) core.tasks said.tasks
names-formed core said ObjectKind.Isr = formed (λ (isr : Isr). isr.name) is_isr_representable (λ isr h. grind arith) core.isrs said.isrs
names-formed core said ObjectKind.Resource = formed (λ (resource : Resource). resource.name) is_resource_representable (λ resource h. h) core.resources said.resources
names-formed core said ObjectKind.Counter = formed (λ (counter : Counter). counter.name) is_counter_representable (λ counter h. h) core.counters said.counters
names-formed core said ObjectKind.Alarm = formed (λ (alarm : Alarm). alarm.name) is_alarm_representable (λ alarm h. grind arith) core.alarms said.alarms
names-formed core said ObjectKind.Table = formed (λ (table : Table). table.name) is_table_representable (λ table h. grind arith) core.tables said.tables

-- ---- what a kernel needs

-- The core's number is below 16. A kernel has room for its tasks, their jobs, its ISRs, resources, counters, alarms and
-- tables, and for the letters that these post.
pub record FitsKernel (core : Core) : Type 0 where
  pub number : nat_lt core.id.number 16 ≡ true
  pub tasks : length core.tasks ≤ 32
  pub priorities : list_all (λ (t : Task). nat_lt t.priority 32) core.tasks ≡ true
  pub some : list_all (λ (t : Task). nat_le 1 t.activations) core.tasks ≡ true
  pub activations : sum_by (λ (t : Task). t.activations) core.tasks ≤ 64
  pub isrs : length core.isrs ≤ 16
  pub resources : length core.resources ≤ 16
  pub ceilings : list_all (λ (r : Resource). nat_lt r.ceiling 32) core.resources ≡ true
  pub counters : length core.counters ≤ 8
  pub alarms : length core.alarms ≤ 32
  pub tables : length core.tables ≤ 8
  pub posted : most_posts_per_tick core ≤ 56

-- No kind has more objects than a byte can count.
pub few-objects : (core : Core) → FitsKernel core → (kind : ObjectKind) → object_count kind core ≤ 255
few-objects core fits kind = grind arith

-- If a core's sizes are within their limits, they have no more objects of a kind than there may be.
pub few-of : (s : CoreSizes) → is_core_numbered s ≡ true → (kind : ObjectKind) → nat_le (count_in kind s) (most_of kind) ≡ true
few-of s h kind = grind arith

pub between : (low high n : ℕ) → is_between low high (Some n) ≡ true → (low ≤ n) × (n ≤ high)
between low high n h = search (arith, nat_tests)

pub version-within : (s : Sizes) → is_within s ≡ true → is_between 1 2 s.version ≡ true
version-within s h = grind arith

pub cap-within : (s : Sizes) → is_within s ≡ true → is_between 1 16 s.cap ≡ true
cap-within s h = grind arith

pub few-modes : (s : Sizes) → is_within s ≡ true → s.modes ≤ 8
few-modes s h = (between 1 8 s.modes (grind arith)).1

pub few-spinlocks : (s : Sizes) → is_within s ≡ true → s.spinlocks ≤ 16
few-spinlocks s h = leb-true s.spinlocks 16 (grind arith)

task-fits : (task : Task) → is_task_within (task_sizes task) ≡ true → (nat_lt task.priority 32 ≡ true) × (nat_le 1 task.activations ≡ true)
task-fits task h = grind (arith, nat_tests)

resource-fits : (resource : Resource) → is_resource_within (resource_sizes resource) ≡ true → nat_lt resource.ceiling 32 ≡ true
resource-fits resource h = grind (arith, nat_tests)

pub fits : (plan : Plan) (core : Core) → is_core_within (core_sizes plan core) ≡ true → FitsKernel core
fits plan core h =
    let told = simp (length-map, list_all-map is_task_within, list_all-map is_resource_within, fold-map) at h in
    let tasks : list_all (λ (t : Task). is_task_within (task_sizes t)) core.tasks ≡ true = grind arith in
    let resources : list_all (λ (r : Resource). is_resource_within (resource_sizes r)) core.resources ≡ true = grind arith in
    record {
      number = grind arith;
      posted = grind arith;
      activations = grind arith;
      tasks = grind arith;
      isrs = grind arith;
      resources = grind arith;
      counters = grind arith;
      alarms = grind arith;
      tables = grind arith;
      priorities = all-weaker _ _ (λ t h. (task-fits t h).0) core.tasks tasks;
      some = all-weaker _ _ (λ t h. (task-fits t h).1) core.tasks tasks;
      ceilings = all-weaker _ _ resource-fits core.resources resources;
    }

-- Each configured core fits.
pub core-fits : (plan : Plan) (id : CoreId) (core : Core) → IsTrue (is_within_limits plan) → core_of plan id ≡ Some core → FitsKernel core
core-fits plan id core limits found =
    fits plan core (find-passes (λ (c : Core). same_core c.id id) (λ (c : Core). is_core_within (core_sizes plan c)) plan.cores core (limit-parts plan limits).cores found)

-- The counter of each alarm and each table is on the core, and so is what scripts may not name on another core.
pub record NearParts (core : Core) : Type 0 where
  pub scripts : list_all (list_all (is_local_to core.id)) (core_scripts core) ≡ true
  pub alarms : list_all (is_alarm_local core.id) core.alarms ≡ true
  pub tables : list_all (is_table_local core.id) core.tables ≡ true

pub near-parts : (core : Core) → has_local_references core ≡ true → NearParts core
near-parts core near = search (and_parts, arith)
