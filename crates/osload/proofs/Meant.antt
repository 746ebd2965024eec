-- What a text without a fault means is a configuration with the text's numbers: it keeps the limits, and is
-- representable.
use Rattle.std.proofs.Common.{◌≡◌, ℕ, ◌&&◌, ◌||◌, ◌≤◌, Bool, true, cond, count_by, sum_by, List, [], ◌∷◌, length, map, Option, Some, None, is_some, option_and_then, option_map, unwrap_or, refl, sym, ap, ◌∙◌, arith}
use Rattle.std.specs.{List.AllByRecursion, List.list_all, List.sum, Option.option_map_or, Str.bytes_eq}
use Rattle.std.proofs.lemmas.Bool.{Decides.nat_tests, and_from, and_parts, cond_both}
use Rattle.std.proofs.{Math.Path.fun_ext, lemmas.List.length-map, lemmas.List.map-append, lemmas.List.map-id, lemmas.List.Folds.flat_map-map, lemmas.List.Folds.list_all-map, lemmas.List.Sums.sum-map, lemmas.Simd.map-map}
use Rattle.osbase.specs.{History.same_core, Names.is_name, Objects.counter_object, Objects.counter_of, Objects.mode_of, Objects.object_of_call, Objects.spinlock_of}
use Rattle.oscript.specs.{Calls.op_of_call, Rows.has_masks as has_op_masks, Rows.is_in_form, Rows.objects_of, declared.Op.TheVariants.Work}
use Rattle.oscript.proofs.Acting.{call-objects}
use Rattle.ossyntax.specs.Operation.{has_masks, op_of_text}
use Rattle.ossyntax.proofs.{Alike.named-same, Operations.meant-in-form, Operations.meant-passes, Operations.meant_masks}
use Rattle.osplan.specs.Representable as said
use Rattle.osplan.specs.Limits as limits
use Rattle.osplan.specs.Objects as plans
use Rattle.osplan.specs.Limits.{CoreSizes, PointSizes, Sizes, TableSizes, are_counters_within, are_numbers_distinct, has_number, is_alarm_within, is_between, is_core_within, is_counter_within, is_isr_within, is_resource_within, is_start, is_table_start_within, is_table_timed, is_table_within, is_task_within, is_within, last_offset, number_of, same_number}
use Rattle.osplan.specs.declared.faults.ConfFault.TheVariants.{Limit, DuplicateName, UnknownName, WrongCore, SpinOrder, BadMask, BadTable, BadScript}
use Rattle.osplan.specs.{Representable.are_distinct, Representable.dont_care, Fault.failing, Objects.greatest_of, Objects.table_actions, Spinlocks.are_links_ordered, View.core_of, View.counter_in}
use Rattle.osplan.proofs.{EveryKind.every-common, EveryKind.every-kind, Found.IsFound, Found.each-found, ModeObjects.mode-there, ModeObjects.nobody, Scripts.all_scripts, SpinlockObjects.spinlock-there, SpinlockObjects.stays, Tests.all-both, Tests.all-flat, Tests.any-find, Tests.any-mapped, Within.cap-within, Within.cores-within, Within.version-within}
use Rattle.osschema.specs.Declarations.{counter_ref, declarations, id_of, mode_ref, names_of, number_id, place_alone, place_of, spinlock_ref}
use Rattle.osschema.specs.Shape.{common_in, has_named_common, has_named_objects, is_named, objects_in, unnumbered}
use Rattle.osschema.proofs.Lists.{map-same, list_all-by, map-back, all-apart, all-same, list_all-total, list_any-by}
use Rattle.osschema.proofs.{Alone.alone_if, Naming.names-text}
use Rattle.osvalidate.specs.Words.{Alarm, AlarmText, ConfigText, Core, CoreId, CoreMode, CoreText, CounterText, Declaration, ExpiryPoint, Isr, IsrText, Named, ObjectKind, Op, Place, Plan, PointText, RemoteCall, ResourceText, Spinlock, SpinlockText, TableStart, TableStartText, TableText, Task, TaskText}
use Rattle.osvalidate.specs.Check.{alarm_modes, alarm_sizes, are_known, are_masks, have_local_references, are_operations, are_ordered, are_timed, core_scripts, core_sizes, counter_sizes, is_core_known, is_core_mode_known, has_local_references, is_core_script, is_each_once, is_isr_script}
use Rattle.osvalidate.specs.Check.{is_mode_known, is_operation_local, is_script, is_script_masked, is_script_local, is_spinlock_known, is_task_script, is_text_within, is_unreserved, isr_sizes, numbers_of, point_sizes, resource_sizes, sizes_of, table_modes, table_sizes, task_sizes, tests_of}
use Rattle.osvalidate.specs.Verdict.{action_verdict, alarm_verdict, core_verdict, point_verdict, table_verdict, isr_verdict, task_verdict}
use Rattle.osvalidate.specs.{Action.action_of, Operation.is_operation, Operation.op_of, Operation.operations_of, Posted.most_posts_of_table, Posted.is_posting, Posted.posted_at, Posted.most_posts_per_tick}
use Rattle.osvalidate.proofs.{Numbers.offsets-low, Operations.stays-alike}
use Rattle.osload.specs.Meaning.{alarm_plan, core_mode, core_plan, counter_plan, isr_plan, plan_of, point_plan, resource_plan, spinlock_plan, table_plan, table_start_plan, task_plan}
use Rattle.osload.proofs.Found.{HasCounters, NamedCounter, bytes-equal, cores-inside, each-core, is-byte, is_inside, named-counter, numbers-kept, place-known}
use Rattle.osload.proofs.{Loops.always, Loops.or-else, Loops.there, Right.acting, Right.alarm-parts, Right.core-right, Right.is_right, Right.of-each, Right.table-parts}

-- ---- sums

sum-same : {X Y : Type 0} (f : X → ℕ) (g : Y → ℕ) (h : X → Y) (p : X → Bool) → ((x : X) → p x ≡ true → g (h x) ≡ f x) → (xs : List X) → list_all p xs ≡ true → sum_by g (map h xs) ≡ sum_by f xs
sum-same f g h p same xs all = sym (sum-map g (map h xs)) ∙ ap sum (map-same g h f p same xs all) ∙ sum-map f xs

count-same : {X Y : Type 0} (f : X → Bool) (g : Y → Bool) (h : X → Y) (p : X → Bool) → ((x : X) → p x ≡ true → g (h x) ≡ f x) → (xs : List X) → list_all p xs ≡ true → count_by g (map h xs) ≡ count_by f xs
count-same f g h p same = sum-same (λ x. cond (f x) 1 0) (λ y. cond (g y) 1 0) h p (λ x e. ap (λ b. cond b 1 0) (same x e))

-- ---- what actions post

module _ (objects : List Declaration) (apart : are_distinct (names_of objects) ≡ true) (core : CoreText) where
  abbrev planned : Core
  planned = core_plan objects core

  -- Each name that has an object belongs to that object alone.
  alone-everywhere : place_alone objects ≡ place_of objects
  alone-everywhere = fun_ext (λ kind. fun_ext (λ name. grind (arith, alone_if objects name apart)))

  posting-same : (text : List ℕ) → is_right (action_verdict objects text) ≡ true → plans.is_posting planned (action_of objects text) ≡ is_posting objects (id_of core) text
  posting-same text h =
      let means = acting objects text h in
      let alike : op_of_text (place_alone objects) text ≡ Some means.op = ap (λ place. op_of_text place text) alone-everywhere ∙ means.meant in
      rw (alike, means.meant, means.acts) refl

  point-same : (point : PointText) → is_right (point_verdict objects point) ≡ true → plans.posted_at planned (point_plan objects point) ≡ posted_at objects (id_of core) point
  point-same point h =
      count-same (is_posting objects (id_of core)) (plans.is_posting planned) (action_of objects) (λ (text : List ℕ). is_right (action_verdict objects text)) posting-same point.actions (of-each (action_verdict objects) point.actions h)

  table-same : (table : TableText) → is_right (table_verdict objects (id_of core) table) ≡ true → plans.most_posts_of_table planned (table_plan objects (id_of core) table) ≡ most_posts_of_table objects (id_of core) table
  table-same table h =
      ap greatest_of
      (map-same (plans.posted_at planned) (point_plan objects) (posted_at objects (id_of core)) (λ (point : PointText). is_right (point_verdict objects point)) point-same table.points (table-parts objects (id_of core) table h).1)

  pub posted-same : is_right (core_verdict objects core) ≡ true → plans.most_posts_per_tick planned ≡ most_posts_per_tick objects core
  posted-same h =
      let right = core-right objects core h in
      rw (
        count-same (λ (alarm : AlarmText). is_posting objects (id_of core) alarm.action) (λ (alarm : Alarm). plans.is_posting planned alarm.action) (alarm_plan objects (id_of core)) (λ (alarm : AlarmText). is_right (alarm_verdict objects (id_of core) alarm))
            (λ alarm e. posting-same alarm.action (alarm-parts objects (id_of core) alarm e).1) core.alarms right.alarms,
        sum-same (most_posts_of_table objects (id_of core)) (plans.most_posts_of_table planned) (table_plan objects (id_of core)) (λ (table : TableText). is_right (table_verdict objects (id_of core) table)) table-same core.tables right.tables,
      ) refl

-- ---- what the limits say of a schedule table and its points

pub record TableLimits (s : TableSizes) : Type 0 where
  pub duration : is_between 1 1000000000 s.duration ≡ true
  pub offsets : list_all (λ (point : PointSizes). is_between 0 1000000000 point.offset) s.points ≡ true
  pub start : option_map_or (is_table_start_within s) s.auto true ≡ true

pub table-limits : (s : TableSizes) → is_table_within s ≡ true → is_table_timed s ≡ true → TableLimits s
table-limits s within timed =
    let last : last_offset s.points ≤ 1000000000 = grind (arith, nat_tests) in
    record { duration = grind arith; offsets = offsets-low 1000000000 s.points (grind arith) last; start = (and_parts _ (option_map_or (is_table_start_within s) s.auto true) within).1 }

-- ---- the plan of a text has the text's numbers, also those of the counters that alarms and tables name

alarm-sized : (plan : Plan) (objects : List Declaration) (id : CoreId) (alarm : AlarmText) → NamedCounter plan objects alarm.counter (counter_ref objects id alarm.counter) → is_alarm_within (alarm_sizes objects alarm) ≡ true → limits.alarm_sizes (counter_in plan) (alarm_plan objects id alarm) ≡ alarm_sizes objects alarm
alarm-sized plan objects id alarm counter within = grind (arith, nat_tests)

-- The plans of parts that are right have the sizes of their texts, if these sizes pass a test.
sizes-same : {X Y Z : Type 0} (f : Y → Z) (g : X → Y) (h : X → Z) (right : X → Bool) (p : Z → Bool) → ((x : X) → right x ≡ true → p (h x) ≡ true → f (g x) ≡ h x) → (xs : List X) → list_all right xs ≡ true → list_all p (map h xs) ≡ true → map f (map g xs) ≡ map h xs
sizes-same f g h right p same xs rights all =
    map-same f g h (λ x. right x && p (h x)) (λ x e. let both = and_parts (right x) (p (h x)) e in same x both.0 both.1) xs (all-both right (λ x. p (h x)) xs rights (sym (list_all-map p h xs) ∙ all))

table-sized : (plan : Plan) (objects : List Declaration) (id : CoreId) (table : TableText) → NamedCounter plan objects table.counter (counter_ref objects id table.counter) → TableLimits (table_sizes objects table) → limits.table_sizes (counter_in plan) (table_plan objects id table) ≡ table_sizes objects table
table-sized plan objects id table counter limit =
    let auto : option_map (λ (auto : TableStart). Some auto.offset) (option_map (table_start_plan objects) table.auto) ≡ option_map (λ (auto : TableStartText). auto.offset) table.auto = grind (arith, nat_tests) in
    rw (
      sizes-same limits.point_sizes (point_plan objects) point_sizes (λ _. true) (λ (point : PointSizes). is_between 0 1000000000 point.offset)
          (λ point _ within. rw (length-map point.actions (action_of objects)) (grind (arith, nat_tests))) table.points (always table.points) limit.offsets,
      auto,
      counter.planned,
      counter.declared,
    ) (grind (arith, nat_tests, limit.duration))

-- ---- the scripts, the alarms and the tables of a text's plan have local references where the text's have

near-ops : (objects : List Declaration) (id : CoreId) (texts : List (List ℕ)) → list_all is_operation texts ≡ true → list_all (limits.is_local_to id) (map (op_of objects) texts) ≡ list_all (is_operation_local objects id) texts
near-ops objects id = all-same (limits.is_local_to id) (op_of objects) (is_operation_local objects id) is_operation (named-same (place_of objects) (limits.is_local_to id) (stays-alike objects id))

near-core : (objects : List Declaration) (core : CoreText) → is_core_script objects core ≡ true → limits.has_local_references (core_plan objects core) ≡ has_local_references objects core
near-core objects core formed =
    let id = id_of core in
    rw (
      all_scripts (list_all (limits.is_local_to id)) (core_plan objects core),
      all-same (λ (task : Task). list_all (limits.is_local_to id) task.script) (task_plan objects) (λ (task : TaskText). is_script_local objects id task.script) (is_task_script objects)
          (λ task e. near-ops objects id (operations_of task.script) (grind arith)) core.tasks (grind arith),
      all-same (λ (isr : Isr). list_all (limits.is_local_to id) isr.script) (isr_plan objects) (λ (isr : IsrText). is_script_local objects id isr.script) (λ (isr : IsrText). is_isr_script objects isr.script)
          (λ isr e. near-ops objects id (operations_of isr.script) (grind arith)) core.isrs (grind arith),
      list_all-map (limits.is_alarm_local id) (alarm_plan objects id) core.alarms,
      list_all-map (limits.is_table_local id) (table_plan objects id) core.tables,
    ) refl

-- If a text's scripts are in form and in range, the references in its plan are local to their cores exactly where
-- those in the text are.
pub near_kept : (objects : List Declaration) (cores : List CoreText) → list_all (is_core_script objects) cores ≡ true → list_all limits.has_local_references (map (core_plan objects) cores) ≡ list_all (has_local_references objects) cores
near_kept objects = all-same limits.has_local_references (core_plan objects) (has_local_references objects) (is_core_script objects) (near-core objects)

-- ---- what the tests of a text without a fault say

pub record Faultless (t : ConfigText) : Type 0 where
  pub within : is_within (sizes_of t) ≡ true
  pub numbers : are_numbers_distinct (numbers_of t.cores) ≡ true
  pub apart : are_distinct (names_of (declarations t)) ≡ true
  pub unreserved : list_all is_unreserved t.modes ≡ true
  pub master : has_number (numbers_of t.cores) t.master ≡ true
  pub spinlocks : list_all (is_spinlock_known (declarations t)) t.spinlocks ≡ true
  pub near : have_local_references t ≡ true
  pub ordered : are_ordered t ≡ true
  pub timed : are_timed t ≡ true
  pub formed : are_operations t ≡ true
  pub right : list_all (λ (core : CoreText). is_right (core_verdict (declarations t) core)) t.cores ≡ true

all-pass : (a b c d e f g h : Bool) → failing ((Limit, a) ∷ (DuplicateName, b) ∷ (UnknownName, c) ∷ (WrongCore, d) ∷ (SpinOrder, e) ∷ (BadMask, f) ∷ (BadTable, g) ∷ (BadScript, h) ∷ []) ≡ []
    → (a ≡ true) × (b ≡ true) × (c ≡ true) × (d ≡ true) × (e ≡ true) × (f ≡ true) × (g ≡ true) × (h ≡ true)
all-pass a b c d e f g h none = grind arith

faultless : (t : ConfigText) → failing (tests_of t) ≡ [] → Faultless t
faultless t none =
    let passed = all-pass (is_text_within t) (is_each_once t) (are_known t) (have_local_references t) (are_ordered t) (are_masks t) (are_timed t) (are_operations t) none in
    search (of-each (core_verdict (declarations t)) t.cores, arith)

-- ---- the parts of the plan: their numbers are the text's, what each names exists, and each is representable

-- If parts of a text have names in form and are right, their plans pass both tests.
each-kept : {X Y : Type 0} (named right : X → Bool) (plan : X → Y) (p q : Y → Bool) → ((x : X) → named x ≡ true → right x ≡ true → (p (plan x) && q (plan x)) ≡ true) → (xs : List X) → list_all named xs ≡ true → list_all right xs ≡ true
    → (list_all p (map plan xs) && list_all q (map plan xs)) ≡ true
each-kept named right plan p q each xs names rights =
    all-apart p q (map plan xs) (list_all-by (λ x. named x && right x) (λ y. p y && q y) plan (λ x h. let both = and_parts (named x) (right x) h in each x both.0 both.1) xs (all-both named right xs names rights))

-- An alarm or a table passes both tests if its counter, its actions, its modes and its name pass.
acting-kept : (counter known modes name said : Bool) → counter ≡ true → (known && said) ≡ true → modes ≡ true → name ≡ true → ((counter && known && modes) && (name && said)) ≡ true
acting-kept counter known modes name said c k m n = grind arith

-- The tests that the sizes of a core within its limits pass, one by one.
pub record CoreParts (s : CoreSizes) : Type 0 where
  pub number : is_between 0 15 s.number ≡ true
  pub start : list_all is_start s.start ≡ true
  pub tasks : list_all is_task_within s.tasks ≡ true
  pub isrs : list_all is_isr_within s.isrs ≡ true
  pub resources : list_all is_resource_within s.resources ≡ true
  pub counters : are_counters_within s.counters ≡ true
  pub alarms : list_all is_alarm_within s.alarms ≡ true
  pub tables : list_all is_table_within s.tables ≡ true

pub core-parts : (s : CoreSizes) → is_core_within s ≡ true → CoreParts s
core-parts s h = search arith

-- An ISR is representable if its script is.
isr-said : (objects : List Declaration) (id : CoreId) (isr : IsrText) → is_name isr.name ≡ true → is_right (isr_verdict objects id isr.script) ≡ true → said.is_script_representable (isr_plan objects isr).script ≡ true → said.is_isr_representable (isr_plan objects isr) ≡ true
isr-said objects id isr name right script = grind arith

-- A core is known and representable if its parts are.
core-joined : (plan : Plan) (core : Core) → limits.is_core_mode plan core.mode ≡ true → list_all (limits.is_script_known plan) (plans.core_scripts core) ≡ true
    → (list_all (limits.is_task_known plan) core.tasks && list_all said.is_task_representable core.tasks) ≡ true
    → list_all said.is_isr_representable core.isrs ≡ true → list_all said.is_resource_representable core.resources ≡ true → list_all said.is_counter_representable core.counters ≡ true
    → (list_all (limits.is_alarm_known plan) core.alarms && list_all said.is_alarm_representable core.alarms) ≡ true
    → (list_all (limits.is_table_known plan) core.tables && list_all said.is_table_representable core.tables) ≡ true
    → (limits.is_core_known plan core && said.is_core_representable core) ≡ true
core-joined plan core mode scripts tasks isrs resources counters alarms tables = grind arith

module _ (t : ConfigText) (passes : Faultless t) where
  abbrev plan : Plan
  plan = plan_of t

  abbrev objects : List Declaration
  objects = declarations t

  -- ---- its cores, and the counters that names refer to

  distinct : are_numbers_distinct (limits.numbers_of plan.cores) ≡ true
  distinct = ap are_numbers_distinct (numbers-kept t passes.within) ∙ passes.numbers

  cores : (Q : CoreText → Type 0) → ((core : CoreText) → IsFound plan.cores (core_plan objects core) → is_inside objects core ≡ true → Q core) → AllByRecursion Q t.cores
  cores Q each = each-core t Q each t.cores (each-found plan.cores distinct) (cores-inside t passes.within)

  counters-numbers : (core : CoreText) → is_inside objects core ≡ true → map limits.counter_sizes (map counter_plan core.counters) ≡ map counter_sizes core.counters
  counters-numbers core h =
      sizes-same limits.counter_sizes counter_plan counter_sizes (λ _. true) is_counter_within (λ counter _ within. grind (arith, nat_tests)) core.counters (always core.counters) (and_parts _ _ (core-parts (core_sizes objects core) h).counters).1

  named : (id : CoreId) (name : List ℕ) → is_some (place_of objects ObjectKind.Counter name) ≡ true → NamedCounter plan objects name (counter_ref objects id name)
  named id name known =
      named-counter plan t id name passes.apart (cores (HasCounters plan) (λ core found inside. record { core = core_plan objects core; found = found; same = counters-numbers core inside; within = grind arith })) known

  -- ---- numbers

  table-numbers : (id : CoreId) (table : TableText) → is_right (table_verdict objects id table) ≡ true → (is_table_within (table_sizes objects table) && is_table_timed (table_sizes objects table)) ≡ true → limits.table_sizes (counter_in plan) (table_plan objects id table) ≡ table_sizes objects table
  table-numbers id table right within =
      let both = and_parts (is_table_within (table_sizes objects table)) (is_table_timed (table_sizes objects table)) within in
      table-sized plan objects id table (named id table.counter (table-parts objects id table right).0) (table-limits (table_sizes objects table) both.0 both.1)

  core-numbers : (core : CoreText) → is_right (core_verdict objects core) ≡ true → (is_inside objects core && list_all is_table_timed (core_sizes objects core).tables) ≡ true → limits.core_sizes plan (core_plan objects core) ≡ core_sizes objects core
  core-numbers core h sound =
      let id = id_of core in
      let right = core-right objects core h in
      let both = and_parts (is_inside objects core) (list_all is_table_timed (core_sizes objects core).tables) sound in
      let inside : is_inside objects core ≡ true = both.0 in
      let parts = core-parts (core_sizes objects core) inside in
      let tables = all-both is_table_within is_table_timed (core_sizes objects core).tables parts.tables both.1 in
      let scripts : map (λ (script : List Op). length script) (plans.core_scripts (core_plan objects core)) ≡ map (λ (script : List ℕ). length (operations_of script)) (core_scripts core) = simp (map-append, map-map, length-map) in
      rw (
        is-byte 0 15 core.id parts.number (omega arith),
        map-back number_of number_id is_start (λ n low. is-byte _ _ n low (omega arith)) core.start parts.start,
        sizes-same limits.task_sizes (task_plan objects) task_sizes (λ _. true) is_task_within (λ task _ within. grind (arith, nat_tests)) core.tasks (always core.tasks) parts.tasks,
        sizes-same limits.isr_sizes (isr_plan objects) isr_sizes (λ _. true) is_isr_within (λ isr _ within. grind (arith, nat_tests)) core.isrs (always core.isrs) parts.isrs,
        sizes-same limits.resource_sizes resource_plan resource_sizes (λ _. true) is_resource_within (λ resource _ within. grind (arith, nat_tests)) core.resources (always core.resources) parts.resources,
        counters-numbers core inside,
        sizes-same (limits.alarm_sizes (counter_in plan)) (alarm_plan objects id) (alarm_sizes objects) (λ alarm. is_right (alarm_verdict objects id alarm)) is_alarm_within
            (λ alarm right within. alarm-sized plan objects id alarm (named id alarm.counter (alarm-parts objects id alarm right).0) within) core.alarms right.alarms parts.alarms,
        sizes-same (limits.table_sizes (counter_in plan)) (table_plan objects id) (table_sizes objects) (λ table. is_right (table_verdict objects id table)) (λ s. is_table_within s && is_table_timed s) (table-numbers id) core.tables right.tables tables,
        posted-same objects passes.apart core h,
        scripts,
      ) refl

  plan-numbers : limits.sizes_of plan ≡ sizes_of t
  plan-numbers =
      let inside = cores-within (sizes_of t) passes.within in
      let sound = all-both is_core_within (λ (s : CoreSizes). list_all is_table_timed s.tables) (sizes_of t).cores inside (simp list_all-map passes.timed) in
      let version = is-byte 1 2 t.version (version-within (sizes_of t) passes.within) (omega arith) in
      let cap = is-byte 1 16 t.cap (cap-within (sizes_of t) passes.within) (omega arith) in
      let cores = sizes-same (limits.core_sizes plan) (core_plan objects) (core_sizes objects) _ (λ (s : CoreSizes). is_core_within s && list_all is_table_timed s.tables) core-numbers t.cores passes.right sound in
      rw (length-map t.spinlocks (spinlock_plan objects), cores, version, cap) refl

  within : is_within (limits.sizes_of plan) ≡ true
  within = ap is_within plan-numbers ∙ passes.within

  timed : list_all (limits.is_core_timed plan) plan.cores ≡ true
  timed = simp list_all-map (simp list_all-map at (ap (λ (s : Sizes). list_all (λ (core : CoreSizes). list_all is_table_timed core.tables) s.cores) plan-numbers) ∙ passes.timed)

  -- ---- what names refer to

  -- A name that has a place refers to an object of the plan, since no core of the plan has the number of NOBODY.
  places : (kind : ObjectKind) (name : List ℕ) (place : Place) → place_of objects kind name ≡ Some place → limits.is_object plan (record { kind = kind; place = place }) ≡ true
  places = place-known t (cores _ (λ core found inside. found)) (nobody plan (sym (list_all-map is_core_within (limits.core_sizes plan) plan.cores) ∙ cores-within (limits.sizes_of plan) within))

  -- If each object of the plan passes a test, so does the object that a known name refers to.
  place-kept : (kind : ObjectKind) (name : List ℕ) (p : Option Place → Bool) → ((place : Place) → limits.is_object plan (record { kind = kind; place = place }) ≡ true → p (Some place) ≡ true) → is_some (place_of objects kind name) ≡ true → p (place_of objects kind name) ≡ true
  place-kept kind name p each known = let place = there (place_of objects kind name) known in ap p place.1 ∙ each place.0 (places kind name place.0 place.1)

  mode-kept : (name : List ℕ) → is_mode_known objects name ≡ true → limits.is_mode plan (mode_ref objects name) ≡ true
  mode-kept name = place-kept ObjectKind.Mode name (λ o. limits.is_mode plan (unwrap_or (option_map mode_of o) (record { index = 0 }))) (λ place there. (mode-there plan place there).1)

  modes-kept : (names : List (List ℕ)) → list_all (is_mode_known objects) names ≡ true → list_all (limits.is_mode plan) (map (mode_ref objects) names) ≡ true
  modes-kept = list_all-by (is_mode_known objects) (limits.is_mode plan) (mode_ref objects) mode-kept

  core-mode-kept : (mode : Option (List ℕ)) → is_core_mode_known objects mode ≡ true → limits.is_core_mode plan (core_mode objects mode) ≡ true
  core-mode-kept None known = let some : is_within (sizes_of t) ≡ true = passes.within in grind arith
  core-mode-kept (Some name) known =
      cond_both (bytes_eq name dont_care) CoreMode.DontCare (CoreMode.Named (mode_ref objects name)) (λ mode. limits.is_core_mode plan mode ≡ true) (λ _. refl)
      (λ other. mode-kept name (ap (λ any. any || is_mode_known objects name) (sym other) ∙ known))

  next-kept : (next : Option (List ℕ)) → option_map_or (λ (name : List ℕ). is_some (place_of objects ObjectKind.Spinlock name)) next true ≡ true → option_map_or (limits.is_spinlock plan) (option_and_then (spinlock_ref objects) next) true ≡ true
  next-kept None known = refl
  next-kept (Some name) known = place-kept ObjectKind.Spinlock name (λ o. option_map_or (limits.is_spinlock plan) (option_map spinlock_of o) true) (λ place there. (spinlock-there plan place there).1) known

  counter-known : (id : CoreId) (name : List ℕ) → is_some (place_of objects ObjectKind.Counter name) ≡ true → limits.is_object plan (counter_object (counter_ref objects id name)) ≡ true
  counter-known id name = place-kept ObjectKind.Counter name (λ o. limits.is_object plan (counter_object (unwrap_or (option_map counter_of o) (record { core = id; index = 0 })))) (λ place there. there)

  -- ---- operations, scripts and actions

  abbrev script_plan : List ℕ → List Op
  script_plan script = map (op_of objects) (operations_of script)

  scripts-known : (core : CoreText) → list_all (limits.is_script_known plan) (plans.core_scripts (core_plan objects core)) ≡ true
  scripts-known core =
      let known = λ (text : List ℕ). or-else (limits.is_op_known plan) (op_of_text (place_of objects) text) Work refl (meant-passes (place_of objects) (limits.is_object plan) (stays plan) places text) in
      let planned : plans.core_scripts (core_plan objects core) ≡ map script_plan (core_scripts core) = simp (map-append, map-map) in
      ap (list_all (limits.is_script_known plan)) planned ∙ list_all-total (limits.is_script_known plan) script_plan (λ script. list_all-total (limits.is_op_known plan) (op_of objects) known (operations_of script)) (core_scripts core)

  script-kept : (script : List ℕ) → is_script_masked script ≡ true → is_script objects script ≡ true → said.is_script_representable (script_plan script) ≡ true
  script-kept script masks formed =
      let texts = operations_of script in
      let in_form = list_all-total is_in_form (op_of objects) (λ text. or-else is_in_form (op_of_text (place_of objects) text) Work refl (meant-in-form (place_of objects) text)) texts in
      let masked = list_all-by has_masks has_op_masks (op_of objects) (λ text h. or-else has_op_masks (op_of_text (place_of objects) text) Work refl (λ op e. meant_masks (place_of objects) text op e ∙ h)) texts masks in
      and_from _ _ (and_from _ _ in_form masked) (and_parts (list_all is_operation texts) _ formed).1

  abbrev is_kept_action : RemoteCall → Bool
  is_kept_action action = limits.is_action_known plan action && said.is_action_representable action

  action-kept : (text : List ℕ) → is_right (action_verdict objects text) ≡ true → is_kept_action (action_of objects text) ≡ true
  action-kept text h =
      let means = acting objects text h in
      let call = means.call in
      let written : op_of_call call ≡ means.op = means.is.written in
      let named : list_all (limits.is_object plan) (object_of_call call ∷ []) ≡ true =
      ap (list_all (limits.is_object plan)) (sym (call-objects call) ∙ ap objects_of written) ∙ meant-passes (place_of objects) (limits.is_object plan) (stays plan) places text means.op means.meant in
      rw (means.meant, means.acts, written)
      (and_from _ _ (and_from _ _ means.is.acts (and_parts _ true named).0) (and_from _ _ (meant-in-form (place_of objects) text means.op means.meant) (meant_masks (place_of objects) text means.op means.meant ∙ means.masked)))

  -- ---- objects

  task-kept : (id : CoreId) (task : TaskText) → is_name task.name ≡ true → is_right (task_verdict objects id task) ≡ true → (limits.is_task_known plan (task_plan objects task) && said.is_task_representable (task_plan objects task)) ≡ true
  task-kept id task name right = let script = script-kept task.script (grind arith) (grind arith) in let modes = modes-kept task.auto (grind arith) in grind (arith, script, modes)

  isr-kept : (id : CoreId) (isr : IsrText) → is_name isr.name ≡ true → is_right (isr_verdict objects id isr.script) ≡ true → said.is_isr_representable (isr_plan objects isr) ≡ true
  isr-kept id isr name right = let script = script-kept isr.script (grind arith) (grind arith) in isr-said objects id isr name right script

  alarm-kept : (id : CoreId) (alarm : AlarmText) → is_name alarm.name ≡ true → is_right (alarm_verdict objects id alarm) ≡ true → (limits.is_alarm_known plan (alarm_plan objects id alarm) && said.is_alarm_representable (alarm_plan objects id alarm)) ≡ true
  alarm-kept id alarm name right =
      let parts = alarm-parts objects id alarm right in
      let modes : list_all (limits.is_mode plan) (plans.alarm_modes (alarm_plan objects id alarm)) ≡ true = grind (arith, modes-kept (alarm_modes alarm) parts.2) in
      acting-kept _ _ _ _ _ (counter-known id alarm.counter parts.0) (action-kept alarm.action parts.1) modes name

  table-kept : (id : CoreId) (table : TableText) → is_name table.name ≡ true → is_right (table_verdict objects id table) ≡ true → (limits.is_table_known plan (table_plan objects id table) && said.is_table_representable (table_plan objects id table)) ≡ true
  table-kept id table name right =
      let parts = table-parts objects id table right in
      let points = list_all-by (λ (point : PointText). is_right (point_verdict objects point)) (λ (point : ExpiryPoint). list_all is_kept_action point.actions) (point_plan objects)
      (λ point right. list_all-by (λ (text : List ℕ). is_right (action_verdict objects text)) is_kept_action (action_of objects) action-kept point.actions (of-each (action_verdict objects) point.actions right)) table.points parts.1 in
      let actions = all-apart (limits.is_action_known plan) said.is_action_representable (table_actions (table_plan objects id table)) (all-flat is_kept_action (λ (point : ExpiryPoint). point.actions) (map (point_plan objects) table.points) points) in
      let modes : list_all (limits.is_mode plan) (plans.table_modes (table_plan objects id table)) ≡ true = grind (arith, modes-kept (table_modes table) parts.2) in
      acting-kept _ _ _ _ _ (counter-known id table.counter parts.0) actions modes name

  core-kept : (core : CoreText) → has_named_objects core ≡ true → is_right (core_verdict objects core) ≡ true → (limits.is_core_known plan (core_plan objects core) && said.is_core_representable (core_plan objects core)) ≡ true
  core-kept core names h =
      let id = id_of core in
      let right = core-right objects core h in
      let named = every-kind (λ (kind : ObjectKind). list_all (λ (named : Named). is_name named.name) (objects_in kind core)) names in
      let tasks = each-kept (λ (task : TaskText). is_name task.name) (λ (task : TaskText). is_right (task_verdict objects id task)) (task_plan objects) (limits.is_task_known plan) said.is_task_representable (task-kept id) core.tasks (simp list_all-map at (named ObjectKind.Task refl)) right.tasks in
      let isrs = each-kept (λ (isr : IsrText). is_name isr.name) (λ (isr : IsrText). is_right (isr_verdict objects id isr.script)) (isr_plan objects) (λ _. true) said.is_isr_representable (isr-kept id) core.isrs (simp list_all-map at (named ObjectKind.Isr refl)) right.isrs in
      let resources = each-kept (λ (resource : ResourceText). is_name resource.name) (λ (resource : ResourceText). true) resource_plan (λ _. true) said.is_resource_representable (λ resource name _. grind arith) core.resources (simp list_all-map at (named ObjectKind.Resource refl)) (always core.resources) in
      let counters = each-kept (λ (counter : CounterText). is_name counter.name) (λ (counter : CounterText). true) counter_plan (λ _. true) said.is_counter_representable (λ counter name _. grind arith) core.counters (simp list_all-map at (named ObjectKind.Counter refl)) (always core.counters) in
      let alarms = each-kept (λ (alarm : AlarmText). is_name alarm.name) (λ (alarm : AlarmText). is_right (alarm_verdict objects id alarm)) (alarm_plan objects id) (limits.is_alarm_known plan) said.is_alarm_representable (alarm-kept id) core.alarms (simp list_all-map at (named ObjectKind.Alarm refl)) right.alarms in
      let tables = each-kept (λ (table : TableText). is_name table.name) (λ (table : TableText). is_right (table_verdict objects id table)) (table_plan objects id) (limits.is_table_known plan) said.is_table_representable (table-kept id) core.tables (simp list_all-map at (named ObjectKind.Table refl)) right.tables in
      core-joined plan (core_plan objects core) (core-mode-kept core.mode right.mode) (scripts-known core) tasks (and_parts _ _ isrs).1 (and_parts _ _ resources).1 (and_parts _ _ counters).1 alarms tables

  master-found : is_some (core_of plan plan.master) ≡ true
  master-found =
      sym (any-find (λ (c : Core). same_core c.id plan.master) plan.cores)
      ∙ list_any-by (λ (core : CoreText). same_number core.id t.master) _ (core_plan objects) (λ core same. bytes-equal core.id t.master same) t.cores (sym (any-mapped (λ id. same_number id t.master) (λ (core : CoreText). core.id) t.cores) ∙ passes.master)

-- ---- the names of a text are those of its plan

names-said : (t : ConfigText) → said.declared_names (plan_of t) ≡ names_of (declarations t)
names-said t = (simp (map-map, map-id, flat_map-map)) ∙ sym (names-text t)

-- ---- the plan

-- The plan is a configuration that keeps the limits and is representable.
pub plan-kept : (t : ConfigText) → is_named t ≡ true → failing (tests_of t) ≡ [] → (limits.is_within_limits (plan_of t) ≡ true) × (said.is_representable (plan_of t) ≡ true)
plan-kept t named none =
    let objects = declarations t in
    let plan = plan_of t in
    let passes = faultless t none in
    let names = and_parts (has_named_common t) (list_all has_named_objects t.cores) named in
    let common = every-common (λ (kind : ObjectKind). list_all (λ (named : Named). is_name named.name) (common_in kind t)) names.0 in
    let cores = each-kept has_named_objects _ (core_plan objects) (limits.is_core_known plan) said.is_core_representable (core-kept t passes) t.cores names.1 passes.right in
    let parts = and_parts (list_all (limits.is_core_known plan) plan.cores) (list_all said.is_core_representable plan.cores) cores in
    let near = near_kept objects t.cores passes.formed ∙ passes.near in
    let modes = all-both is_name is_unreserved t.modes (sym (list_all-map (λ (named : Named). is_name named.name) unnumbered t.modes) ∙ common ObjectKind.Mode refl) passes.unreserved in
    let spinlocks = list_all-map said.is_spinlock_representable (spinlock_plan objects) t.spinlocks ∙ sym (list_all-map (λ (named : Named). is_name named.name) (λ (spinlock : SpinlockText). unnumbered spinlock.name) t.spinlocks) ∙ common ObjectKind.Spinlock refl in
    let linked = list_all-by (is_spinlock_known objects) (limits.is_spinlock_known plan) (spinlock_plan objects) (λ spinlock. next-kept t passes spinlock.next) t.spinlocks passes.spinlocks in
    let ordered = ap are_links_ordered (map-map (λ (spinlock : Spinlock). spinlock.next) (spinlock_plan objects) t.spinlocks) ∙ passes.ordered in (
      and_from _ _ (and_from _ _ (and_from _ _ (and_from _ _ (and_from _ _ (and_from _ _ (and_from _ _ (within t passes) (distinct t passes)) (master-found t passes)) parts.0) near) (timed t passes)) linked) ordered,
      and_from _ _ (and_from _ _ (and_from _ _ modes spinlocks) parts.1) (ap are_distinct (names-said t) ∙ passes.apart),
    )
