-- The data of a configuration has the shape of a configuration. Its text has no fault, and means that configuration.
use Rattle.std.proofs.Common.{◌≡◌, ℕ, ◌&&◌, Bool, true, List, [], ◌∷◌, map, Option, Some, None, option_map, IsTrue, refl, sym, ap, ◌∙◌, arith, ◌<◌, is_some, unwrap_or, length, option_and_then}
use Rattle.std.specs.{List.list_all, List.AllByRecursion, Option.option_map_or, Str.bytes_eq}
use Rattle.std.proofs.lemmas.{Bool.Decides.nat_tests, Bool.and_parts, Bool.and_from, Bool.or_right, List.Folds.list_all-map, Simd.map-map, List.length-map, List.map-append, List.map-id}
use Rattle.serde_json.specs.{Data.Data, Data.string, Find.as_str, Read.read}
use Rattle.osbase.specs.{declared.objects.TheConstants.NOBODY, declared.items.CoreMode.TheVariants.Named, declared.items.CoreMode.TheVariants.DontCare, Names.is_name, History.same_core, Objects.counter_object, Objects.mode_object, Objects.mode_place, Objects.spinlock_object}
use Rattle.osvalidate.specs.Words.{Alarm, AlarmStart, Core, CoreText, Counter, CounterRef, ExpiryPoint, Isr, IsrText, ModeId, Plan, RemoteCall, Resource, Table, TableStart, Task, CoreId, CoreMode, Declaration, Object, ObjectKind, Op, AlarmStartText, Spinlock, SpinlockId, TableStartText}
use Rattle.osplan.specs.Limits as limits
use Rattle.osplan.specs.Limits.{number_of, CoreSizes, CounterSizes, TableSizes, are_counters_within, is_alarm_within, is_between, is_table_start_within, is_table_timed, is_table_within, is_task_within, is_isr_within, is_core_within, same_number, has_number, are_numbers_distinct}
use Rattle.osplan.specs.Representable as said
use Rattle.osplan.specs.Objects as plans
use Rattle.osplan.specs.{Names.name_of_mode, Names.name_of, Names.spinlock_name, Spinlocks.are_links_ordered, Spinlocks.links_of, Protection.protection_named, Protection.protection_word, declared.protection.Protection.Protection, View.core_of, View.counter_in, Fault.failing}
use Rattle.osplan.proofs.{Scripts.all_scripts, SpinlockObjects.there-spinlock, Found.IsFound, Found.each-found, Numbered.master-low, ModeObjects.mode-named, ModeObjects.mode-said, ModeObjects.nobody, ModeObjects.there-mode, Tests.each-flat, Tests.any-find, Tests.any-mapped, Within.between, Within.cap-within, Within.version-within, Within.limit-parts, Within.text-parts, Within.core-text-parts, Within.TextParts, Within.LimitParts}
use Rattle.oscript.specs.{declared.Op.TheVariants.Work, Calls.action_of_op, Calls.op_of_call, Rows.has_masks, Rows.is_in_form}
use Rattle.oscript.proofs.Acting.{action-back as action-of, call-objects}
use Rattle.ossyntax.specs.{Operation.op_of_text, Operation.has_masks as text_has_masks, Action.is_action as is_action_text}
use Rattle.ossyntax.proofs.{Joining.has_none, ActionTexts.meant_action, Operations.IsNamed, Operations.text-meant, Operations.text-none, Operations.text-some, Operations.meant-known, Operations.meant_masks}
use Rattle.osjson.specs.Json.{each_of, whole_of, name_of as read_name, or_null}
use Rattle.osschema.specs.Shape.{mode_shape, task_shape, isr_shape, resource_shape, counter_shape, alarm_start_shape, alarm_shape, point_shape, spinlock_shape, table_start_shape, table_shape, core_shape, settings_shape, config_shape}
use Rattle.osschema.specs.Declarations.{counter_ref, mode_ref, number_id, declarations, place_of, names_of, counter_declared, declared_sizes, id_of, spinlock_ref}
use Rattle.osschema.proofs.Lists.{all-apart}
use Rattle.osvalidate.specs.{Action.action_of, Action.any_action, Operation.is_operation, Operation.is_operation_known, Operation.operations_of, Operation.op_of}
use Rattle.osvalidate.specs.Check.{core_scripts, counter_sizes, start_sizes, alarm_sizes, table_sizes, core_sizes, sizes_of, numbers_of, is_text_within, is_unreserved, is_each_once, is_core_mode_known, is_mode_known, is_spinlock_known, are_known, have_local_references, are_ordered, are_timed, tests_of}
use Rattle.osvalidate.specs.Verdict.{action_verdict, alarm_verdict, core_verdict, each as each_verdict, isr_verdict, op_verdict, point_verdict, script_verdict, table_verdict, task_verdict}
use Rattle.osload.specs.Meaning.{core_mode, task_plan, isr_plan, resource_plan, counter_plan, start_plan, alarm_plan, point_plan, spinlock_plan, table_start_plan, table_plan, core_plan, plan_of, config_of}
use Rattle.osload.proofs.Found.{IsByte, NamedCounter, byte-small, is-byte, HasCounters, named-counter}
use Rattle.osload.proofs.Right.{three-parts, acting-right, each-right, is_right}
use Rattle.osload.proofs.Meant.{core-parts, near_kept, table-limits, posted-same}
use Rattle.osvalues.specs.Data.{core_mode_word, name_data, id_data, list_data, mode_data, task_data, isr_data, resource_data, counter_data, start_data, or_null_data, alarm_data, action_data, point_data, spinlock_data, spinlock_name_data, table_start_data, table_data, core_data, op_text, script_text}
use Rattle.oswrite.specs.Writing.{config_data}
use Rattle.oswrite.proofs.{Placed.object-named, Placed.apart, Joining.parts-pieces}
use Rattle.oswrite.proofs.Said.{task_as_text, isr_as_text, resource_as_text, counter_as_text, start_as_text, counter_name, action_as_text, alarm_as_text, point_as_text, spinlock_as_text, table_start_said, table_as_text, core_as_text, config_as_text}

-- ---- what is written and read back

-- The data that a value is written as are read as its text. The text means the value, and passes a test.
record Back {X Y : Type 0} (write : X → Data) (text_of : X → Y) (shape : Data → Option Y) (mean : Y → X) (test : Y → Bool) (x : X) : Type 0 where
  shaped : shape (write x) ≡ Some (text_of x)
  meant : mean (text_of x) ≡ x
  passed : test (text_of x) ≡ true

-- An element of a list passes each test that all elements pass.
abbrev In : {X : Type 0} → List X → X → Type 0
In {X} xs x = (p : X → Bool) → list_all p xs ≡ true → p x ≡ true

first-in : {X : Type 0} (x : X) (xs : List X) → In (x ∷ xs) x
first-in x xs p all = (and_parts (p x) (list_all p xs) all).0

later-in : {X : Type 0} (x : X) (xs : List X) (y : X) → In xs y → In (x ∷ xs) y
later-in x xs y here p all = here p (and_parts (p x) (list_all p xs) all).1

-- If each element of a list is read back, so is the list.
backs : {X Y : Type 0} {write : X → Data} {text_of : X → Y} {shape : Data → Option Y} {mean : Y → X} {test : Y → Bool} (xs : List X) → ((x : X) → In xs x → Back write text_of shape mean test x)
    → Back (list_data write) (map text_of) (each_of shape) (map mean) (list_all test) xs
backs [] back = record { shaped = refl; meant = refl; passed = refl }
backs (x ∷ xs) back =
    let first = back x (first-in x xs) in
    let rest = backs xs (λ y here. back y (later-in x xs y here)) in
    record { shaped = rw (first.shaped, rest.shaped) refl; meant = rw (first.meant, rest.meant) refl; passed = and_from _ _ first.passed rest.passed }

-- If `f` after `g` is `h` for each element of a list, it is so for the list.
map-in : {X Y Z : Type 0} (f : Y → Z) (g : X → Y) (h : X → Z) (xs : List X) → ((x : X) → In xs x → f (g x) ≡ h x) → map f (map g xs) ≡ map h xs
map-in f g h [] same = refl
map-in f g h (x ∷ xs) same = rw (same x (first-in x xs), map-in f g h xs (λ y here. same y (later-in x xs y here))) refl

option_map-map : {X Y Z : Type 0} (f : Y → Z) (g : X → Y) (o : Option X) → option_map f (option_map g o) ≡ option_map (λ x. f (g x)) o
option_map-map f g o = grind arith

id-back : (id : CoreId) → IsByte (number_of id) → number_id (number_of id) ≡ id
id-back id byte = grind arith

-- the word of a protection is read as that protection; the first clause only splits the cases
protection-back : (p : Protection) → protection_named (protection_word p) ≡ Some p
protection-back Protection.Ignore = refl
protection-back p = refl

module _ (plan : Plan) (inside : IsTrue (limits.is_within_limits plan)) (sayable : IsTrue (said.is_representable plan)) where
  abbrev objects : List Declaration
  objects = declarations (config_as_text plan)

  abbrev parts : TextParts plan
  parts = text-parts plan sayable

  abbrev bounds : LimitParts plan
  bounds = limit-parts plan inside

  once : said.are_distinct (names_of objects) ≡ true
  once = apart plan inside sayable

  named : (object : Object) → limits.is_object plan object ≡ true → IsNamed (place_of objects) (name_of plan) object
  named = object-named plan inside sayable

  none : core_of plan NOBODY ≡ None
  none = nobody plan bounds.cores

  -- ---- modes

  mode-back : (mode : ModeId) → limits.is_mode plan mode ≡ true → Back (mode_data plan) (name_of_mode plan) read_name (mode_ref objects) (is_mode_known objects) mode
  mode-back mode h =
      let placed : place_of objects ObjectKind.Mode (name_of_mode plan mode) ≡ Some (mode_place mode) = ap (place_of objects ObjectKind.Mode) (sym (mode-named plan none mode)) ∙ (named (mode_object mode) (there-mode plan none mode h)).found in
      record { shaped = rw (mode-said plan sayable mode h).in_form refl; meant = rw placed refl; passed = ap is_some placed }

  modes-back : (modes : List ModeId) → list_all (limits.is_mode plan) modes ≡ true → Back (list_data (mode_data plan)) (map (name_of_mode plan)) (each_of read_name) (map (mode_ref objects)) (list_all (is_mode_known objects)) modes
  modes-back modes all = backs modes (λ mode here. mode-back mode (here _ all))

  core-mode-back : (mode : CoreMode) → limits.is_core_mode plan mode ≡ true → Back (λ mode. string (core_mode_word plan mode)) (λ mode. Some (core_mode_word plan mode)) mode_shape (core_mode objects) (is_core_mode_known objects) mode
  core-mode-back (Named mode) h =
      let back = mode-back mode h in
      record { shaped = ap (option_map Some) back.shaped; meant = rw (mode-said plan sayable mode h).not_any (ap Named back.meant); passed = or_right (bytes_eq (name_of_mode plan mode) said.dont_care) _ back.passed }
  core-mode-back DontCare h = record { shaped = refl; meant = refl; passed = refl }

  -- ---- operations, scripts and actions

  op-meant : (op : Op) → limits.is_op_known plan op ≡ true → is_in_form op ≡ true → has_masks op ≡ true → op_of_text (place_of objects) (op_text plan op) ≡ Some op
  op-meant op known form masks = text-meant (place_of objects) (name_of plan) (limits.is_object plan) named op form masks known

  -- An operation is read back from its text. The text has no `;`.
  op-back : (op : Op) → limits.is_op_known plan op ≡ true → is_in_form op ≡ true → has_masks op ≡ true
      → Back (λ op. string (op_text plan op)) (op_text plan) as_str (op_of objects) (λ text. is_right (op_verdict objects NOBODY text) && has_none 59 text) op
  op-back op known form masks =
      let text = op_text plan op in
      let e = op-meant op known form masks in
      let means = meant-known (place_of objects) text op e in
      let masked = sym (meant_masks (place_of objects) text op e) ∙ masks in
      let apart = text-none (place_of objects) (name_of plan) (limits.is_object plan) named 59 (record { digit = refl; part = refl; minus = refl; invalid = refl; letter = refl }) refl op form masks known in
      record { shaped = refl; meant = ap (λ o. unwrap_or o Work) e; passed = and_from _ _ (and_from _ _ (and_from _ _ means.1 masked) means.0) apart }

  -- A script is read back from its text, since that is cut into the texts of its operations.
  script-back : (id : CoreId) (script : List Op) → limits.is_script_known plan script ≡ true → said.is_script_representable script ≡ true
      → Back (λ script. string (script_text plan script)) (script_text plan) as_str (λ text. map (op_of objects) (operations_of text)) (λ text. is_right (script_verdict objects id text)) script
  script-back id script known says =
      let forms = three-parts (list_all is_in_form script) (list_all has_masks script) (said.is_jumping_within script) says in
      let ops = backs script (λ op here. op-back op (here _ known) (here _ forms.0) (here _ forms.1)) in
      let texts = map (op_text plan) script in
      let tests = and_parts _ _ (all-apart (λ text. is_right (op_verdict objects NOBODY text)) (has_none 59) texts ops.passed) in
      let cut : operations_of (script_text plan script) ≡ texts = parts-pieces (op_text plan) 59 script refl tests.1 (text-some (name_of plan)) in
      let right = three-parts (list_all (is_operation_known objects) texts) (list_all text_has_masks texts) (list_all is_operation texts) (each-right (op_verdict objects NOBODY) texts ∙ tests.0) in
      record { shaped = refl; meant = ap (map (op_of objects)) cut ∙ ops.meant; passed = rw cut (and_from _ _ (and_from _ _ right.0 right.1) (and_from _ _ right.2 (ap said.is_jumping_within ops.meant ∙ forms.2))) }

  action-back : (action : RemoteCall) → limits.is_action_known plan action ≡ true → said.is_action_representable action ≡ true
      → Back (action_data plan) (action_as_text plan) as_str (action_of objects) (λ text. is_right (action_verdict objects text)) action
  action-back action known says =
      let op = op_of_call action in
      let text = action_as_text plan action in
      let acts = and_parts _ _ known in
      let forms = and_parts _ _ says in
      let there : limits.is_op_known plan op ≡ true = ap (list_all (limits.is_object plan)) (call-objects action) ∙ and_from _ true acts.1 refl in
      let back = op-back op there forms.0 forms.1 in
      let right = three-parts (is_operation_known objects text) (text_has_masks text) (is_operation text) (and_parts (is_right (op_verdict objects NOBODY text)) (has_none 59 text) back.passed).0 in
      let is : is_action_text text ≡ true = sym (meant_action (place_of objects) text op (op-meant op there forms.0 forms.1)) ∙ ap is_some (action-of action acts.0) in
      record {
        shaped = refl;
        meant = ap (λ (op : Op). unwrap_or (action_of_op op) any_action) back.meant ∙ ap (λ (o : Option RemoteCall). unwrap_or o any_action) (action-of action acts.0);
        passed = rw is (and_from _ _ (and_from _ _ right.0 right.1) refl);
      }

  -- ---- the counters that alarms and tables name

  -- Each core's text has its counters.
  cores-have : (cores : List Core) → list_all (λ (c : Core). is_core_within (limits.core_sizes plan c)) cores ≡ true → AllByRecursion (IsFound plan.cores) cores → AllByRecursion (HasCounters plan) (map (core_as_text plan) cores)
  cores-have [] within found = tt
  cores-have (core ∷ cores) within found =
      let tests = and_parts _ _ within in
      let limit = core-parts (limits.core_sizes plan core) tests.0 in
      let same : map counter_sizes (map counter_as_text core.counters) ≡ map limits.counter_sizes core.counters = map-map counter_sizes counter_as_text core.counters in
      let id = id-back core.id (is-byte 0 15 (number_of core.id) limit.number (omega arith)) in
      (record { core = core; found = ap (core_of plan) id ∙ found.0; same = sym same; within = ap are_counters_within same ∙ limit.counters }, cores-have cores tests.1 found.1)

  -- The name of a configured counter refers to that counter, and gives its numbers.
  named-back : (counter : CounterRef) → limits.is_object plan (counter_object counter) ≡ true → IsNamed (place_of objects) (name_of plan) (counter_object counter) × NamedCounter plan objects (counter_name plan counter) counter
  named-back counter known =
      let names = named (counter_object counter) known in
      let stands : counter_ref objects counter.core (counter_name plan counter) ≡ counter = rw names.found refl in
      (names, rw stands at (named-counter plan (config_as_text plan) counter.core (counter_name plan counter) once (cores-have plan.cores bounds.cores (each-found plan.cores bounds.distinct)) (ap is_some names.found)))

  counter-same : (counter : CounterRef) → limits.is_object plan (counter_object counter) ≡ true → option_map declared_sizes (counter_declared objects (counter_name plan counter)) ≡ option_map limits.counter_sizes (counter_in plan counter)
  counter-same counter known = let back = (named-back counter known).1 in back.declared ∙ sym back.planned

  -- ---- the objects of a core

  task-back : (id : CoreId) (task : Task) → is_task_within (limits.task_sizes task) ≡ true → limits.is_script_known plan task.script ≡ true → limits.is_task_known plan task ≡ true → said.is_task_representable task ≡ true
      → Back (task_data plan) (task_as_text plan) task_shape (task_plan objects) (λ text. is_right (task_verdict objects id text)) task
  unfolding task_shape
  task-back id task within known modes says =
      let tests = and_parts (is_name task.name) (said.is_script_representable task.script) says in
      let auto = modes-back task.auto modes in
      let script = script-back id task.script known tests.1 in
      record {
        shaped = rw (tests.0, auto.shaped) refl;
        meant = rw (auto.meant, script.meant) (grind (arith, nat_tests));
        passed = grind (arith, auto.passed, script.passed);
      }

  isr-back : (id : CoreId) (isr : Isr) → is_isr_within (limits.isr_sizes isr) ≡ true → limits.is_script_known plan isr.script ≡ true → said.is_isr_representable isr ≡ true
      → Back (isr_data plan) (isr_as_text plan) isr_shape (isr_plan objects) (λ (text : IsrText). is_right (isr_verdict objects id text.script)) isr
  unfolding isr_shape
  isr-back id isr within known says =
      let tests = three-parts (is_name isr.name) (said.is_script_representable isr.script) (said.is_free_of_resources isr.script) says in
      let script = script-back id isr.script known tests.1 in
      record { shaped = rw tests.0 refl; meant = rw script.meant (grind (arith, nat_tests)); passed = grind (arith, script.passed, ap said.is_free_of_resources script.meant ∙ tests.2) }

  resource-back : (resource : Resource) → limits.is_resource_within (limits.resource_sizes resource) ≡ true → said.is_resource_representable resource ≡ true → Back resource_data resource_as_text resource_shape resource_plan (λ _. true) resource
  unfolding resource_shape
  resource-back resource within says = record { shaped = rw says refl; meant = grind (arith, nat_tests); passed = refl }

  counter-back : (counter : Counter) → limits.is_counter_within (limits.counter_sizes counter) ≡ true → said.is_counter_representable counter ≡ true → Back counter_data counter_as_text counter_shape counter_plan (λ _. true) counter
  unfolding counter_shape
  counter-back counter within says = record { shaped = rw says refl; meant = grind (arith, nat_tests); passed = refl }

  -- The autostarts of alarms and of schedule tables are read back from their texts, if they exist.
  start-back : (sizes : Option CounterSizes) (counter : CounterSizes) (auto : Option AlarmStart) → sizes ≡ Some counter → limits.is_counter_within counter ≡ true
      → is_alarm_within (option_map (limits.start_sizes sizes) auto) ≡ true → list_all (limits.is_mode plan) (option_map_or (λ (auto : AlarmStart). auto.modes) auto []) ≡ true
      → Back (or_null_data (start_data plan)) (option_map (start_as_text plan)) (or_null alarm_start_shape) (option_map (start_plan objects)) (λ o. list_all (is_mode_known objects) (option_map_or (λ (auto : AlarmStartText). auto.modes) o [])) auto
  unfolding alarm_start_shape
  start-back sizes counter None is fits within known = record { shaped = refl; meant = refl; passed = refl }
  start-back sizes counter (Some auto) is fits within known =
      let modes = modes-back auto.modes known in
      record { shaped = rw modes.shaped refl; meant = rw modes.meant (grind (arith, nat_tests)); passed = modes.passed }

  table-start-back : (s : TableSizes) (counter : CounterSizes) (auto : Option TableStart) → s.counter ≡ Some counter → limits.is_counter_within counter ≡ true
      → option_map_or (is_table_start_within s) (option_map (λ (auto : TableStart). Some auto.offset) auto) true ≡ true → list_all (limits.is_mode plan) (option_map_or (λ (auto : TableStart). auto.modes) auto []) ≡ true
      → Back (or_null_data (table_start_data plan)) (option_map (table_start_said plan)) (or_null table_start_shape) (option_map (table_start_plan objects)) (λ o. list_all (is_mode_known objects) (option_map_or (λ (auto : TableStartText). auto.modes) o [])) auto
  unfolding table_start_shape
  table-start-back s counter None is fits within known = record { shaped = refl; meant = refl; passed = refl }
  table-start-back s counter (Some auto) is fits within known =
      let modes = modes-back auto.modes known in
      record { shaped = rw modes.shaped refl; meant = rw modes.meant (grind (arith, nat_tests)); passed = modes.passed }

  alarm-known : (alarm : Alarm) → limits.is_alarm_known plan alarm ≡ true
      → (limits.is_object plan (counter_object alarm.counter) ≡ true) × (limits.is_action_known plan alarm.action ≡ true) × (list_all (limits.is_mode plan) (plans.alarm_modes alarm) ≡ true)
  alarm-known alarm = three-parts _ _ _

  alarm-back : (id : CoreId) (alarm : Alarm) → is_alarm_within (limits.alarm_sizes (counter_in plan) alarm) ≡ true → limits.is_alarm_known plan alarm ≡ true → said.is_alarm_representable alarm ≡ true
      → Back (alarm_data plan) (alarm_as_text plan) alarm_shape (alarm_plan objects id) (λ text. is_right (alarm_verdict objects id text)) alarm
  unfolding alarm_shape
  alarm-back id alarm within there says =
      let tests = and_parts (is_name alarm.name) (said.is_action_representable alarm.action) says in
      let known = alarm-known alarm there in
      let counter = named-back alarm.counter known.0 in
      let action = action-back alarm.action known.1 tests.1 in
      let auto = start-back (option_map limits.counter_sizes (counter_in plan alarm.counter)) counter.1.sizes alarm.auto counter.1.planned counter.1.within within known.2 in
      record {
        shaped = rw (tests.0, counter.0.in_form, auto.shaped) refl;
        meant = rw (counter.0.found, action.meant, auto.meant) refl;
        passed = acting-right _ _ _ _ _ (ap is_some counter.0.found) action.passed auto.passed;
      }

  point-back : (point : ExpiryPoint) → is_between 0 1000000000 (Some point.offset) ≡ true → list_all (limits.is_action_known plan) point.actions ≡ true → list_all said.is_action_representable point.actions ≡ true
      → Back (point_data plan) (point_as_text plan) point_shape (point_plan objects) (λ text. is_right (point_verdict objects text)) point
  unfolding point_shape
  point-back point within known says =
      let actions = backs point.actions (λ action here. action-back action (here _ known) (here _ says)) in
      record { shaped = rw actions.shaped refl; meant = rw actions.meant (grind (arith, nat_tests)); passed = each-right (action_verdict objects) (map (action_as_text plan) point.actions) ∙ actions.passed }

  table-known : (table : Table) → limits.is_table_known plan table ≡ true
      → (limits.is_object plan (counter_object table.counter) ≡ true) × (list_all (limits.is_action_known plan) (plans.table_actions table) ≡ true) × (list_all (limits.is_mode plan) (plans.table_modes table) ≡ true)
  table-known table = three-parts _ _ _

  table-back : (id : CoreId) (table : Table) → is_table_within (limits.table_sizes (counter_in plan) table) ≡ true → is_table_timed (limits.table_sizes (counter_in plan) table) ≡ true → limits.is_table_known plan table ≡ true → said.is_table_representable table ≡ true
      → Back (table_data plan) (table_as_text plan) table_shape (table_plan objects id) (λ text. is_right (table_verdict objects id text)) table
  unfolding table_shape
  table-back id table within timed there says =
      let sizes = limits.table_sizes (counter_in plan) table in
      let tests = and_parts (is_name table.name) (list_all said.is_action_representable (plans.table_actions table)) says in
      let known = table-known table there in
      let limit = table-limits sizes within timed in
      let counter = named-back table.counter known.0 in
      let actions = each-flat (limits.is_action_known plan) (λ (point : ExpiryPoint). point.actions) table.points known.1 in
      let spoken = each-flat said.is_action_representable (λ (point : ExpiryPoint). point.actions) table.points tests.1 in
      let points = backs table.points (λ point here. point-back point (here _ (simp list_all-map at limit.offsets)) (here _ actions) (here _ spoken)) in
      let auto = table-start-back sizes counter.1.sizes table.auto counter.1.planned counter.1.within limit.start known.2 in
      record {
        shaped = rw (tests.0, counter.0.in_form, points.shaped, auto.shaped) refl;
        meant = rw (counter.0.found, points.meant, auto.meant) (grind (arith, nat_tests, limit.duration));
        passed = acting-right _ _ _ _ _ (ap is_some counter.0.found) (each-right (point_verdict objects) (map (point_as_text plan) table.points) ∙ points.passed) auto.passed;
      }

  -- ---- the cores

  core-known : (core : Core) → limits.is_core_known plan core ≡ true → (limits.is_core_mode plan core.mode ≡ true) × (list_all (limits.is_script_known plan) (plans.core_scripts core) ≡ true) × (list_all (limits.is_task_known plan) core.tasks ≡ true)
      × (list_all (limits.is_alarm_known plan) core.alarms ≡ true) × (list_all (limits.is_table_known plan) core.tables ≡ true)
  core-known core h = (grind arith, grind arith, grind arith, grind arith, grind arith)

  core-back : (core : Core) → In plan.cores core → Back (core_data plan) (core_as_text plan) core_shape (core_plan objects) (λ text. is_right (core_verdict objects text)) core
  unfolding core_shape settings_shape
  core-back core here =
      let id = id_of (core_as_text plan core) in
      let limit = core-parts (limits.core_sizes plan core) (here _ bounds.cores) in
      let known = core-known core (here _ bounds.known) in
      let within = sym (list_all-map is_table_within (limits.table_sizes (counter_in plan)) core.tables) ∙ limit.tables in
      let timed : list_all (λ (table : Table). is_table_timed (limits.table_sizes (counter_in plan) table)) core.tables ≡ true = here _ bounds.timed in
      let scripts = and_parts (list_all (λ (task : Task). limits.is_script_known plan task.script) core.tasks) (list_all (λ (isr : Isr). limits.is_script_known plan isr.script) core.isrs) (sym (all_scripts (limits.is_script_known plan) core) ∙ known.1) in
      let texts = core-text-parts core (here _ parts.cores) in
      let mode = core-mode-back core.mode known.0 in
      let start = backs {write = id_data} {text_of = number_of} {shape = whole_of} {mean = number_id} {test = λ _. true} core.start
      (λ id here. record { shaped = refl; meant = id-back id (is-byte 0 255 (number_of id) (here _ (simp list_all-map at limit.start)) (omega arith)); passed = refl }) in
      let tasks = backs core.tasks (λ task here. task-back id task (here _ (simp list_all-map at limit.tasks)) (here _ scripts.0) (here _ known.2) (here _ texts.tasks)) in
      let isrs = backs core.isrs (λ isr here. isr-back id isr (here _ (simp list_all-map at limit.isrs)) (here _ scripts.1) (here _ texts.isrs)) in
      let resources = backs core.resources (λ resource here. resource-back resource (here _ (simp list_all-map at limit.resources)) (here _ texts.resources)) in
      let counters = backs core.counters (λ counter here. counter-back counter (here _ (simp list_all-map at (and_parts _ (list_all limits.is_counter_within (map limits.counter_sizes core.counters)) limit.counters).1)) (here _ texts.counters)) in
      let alarms = backs core.alarms (λ alarm here. alarm-back id alarm (here _ (simp list_all-map at limit.alarms)) (here _ known.3) (here _ texts.alarms)) in
      let tables = backs core.tables (λ table here. table-back id table (here _ within) (here _ timed) (here _ known.4) (here _ texts.tables)) in
      record {
        shaped = rw (alarms.shaped, counters.shaped, isrs.shaped, mode.shaped, protection-back core.protection, resources.shaped, start.shaped, tables.shaped, tasks.shaped) refl;
        meant = rw (mode.meant, start.meant, tasks.meant, isrs.meant, resources.meant, counters.meant, alarms.meant, tables.meant, id-back core.id (is-byte 0 15 (number_of core.id) limit.number (omega arith))) refl;
        passed = grind (
          arith,
          mode.passed,
          each-right (task_verdict objects id) (map (task_as_text plan) core.tasks) ∙ tasks.passed,
          each-right (λ (isr : IsrText). isr_verdict objects id isr.script) (map (isr_as_text plan) core.isrs) ∙ isrs.passed,
          each-right (alarm_verdict objects id) (map (alarm_as_text plan) core.alarms) ∙ alarms.passed,
          each-right (table_verdict objects id) (map (table_as_text plan) core.tables) ∙ tables.passed,
        );
      }

  cores-back : Back (list_data (core_data plan)) (map (core_as_text plan)) (each_of core_shape) (map (core_plan objects)) (list_all (λ text. is_right (core_verdict objects text))) plan.cores
  cores-back = backs plan.cores core-back

  -- ---- the numbers of a core: its text has them

  alarm-numbers : (alarm : Alarm) → limits.is_alarm_known plan alarm ≡ true → alarm_sizes objects (alarm_as_text plan alarm) ≡ limits.alarm_sizes (counter_in plan) alarm
  alarm-numbers alarm known =
      option_map-map (start_sizes objects (counter_name plan alarm.counter)) (start_as_text plan) alarm.auto ∙ ap (λ c. option_map (limits.start_sizes c) alarm.auto) (counter-same alarm.counter (alarm-known alarm known).0)

  table-numbers : (table : Table) → limits.is_table_known plan table ≡ true → table_sizes objects (table_as_text plan table) ≡ limits.table_sizes (counter_in plan) table
  table-numbers table known = rw (counter-same table.counter (table-known table known).0) (simp (map-map, length-map, option_map-map))

  script-numbers : (core : CoreText) → map (λ (script : List ℕ). length (operations_of script)) (core_scripts core) ≡ map (λ (script : List Op). length script) (plans.core_scripts (core_plan objects core))
  script-numbers core = simp (map-append, map-map, length-map)

  core-numbers : (core : Core) → In plan.cores core → core_sizes objects (core_as_text plan core) ≡ limits.core_sizes plan core
  core-numbers core here =
      let text = core_as_text plan core in
      let known = core-known core (here _ bounds.known) in
      let back = core-back core here in
      rw (
        map-in (alarm_sizes objects) (alarm_as_text plan) (limits.alarm_sizes (counter_in plan)) core.alarms (λ alarm here. alarm-numbers alarm (here _ known.3)),
        map-in (table_sizes objects) (table_as_text plan) (limits.table_sizes (counter_in plan)) core.tables (λ table here. table-numbers table (here _ known.4)),
        sym (posted-same objects once text back.passed) ∙ ap plans.most_posts_per_tick back.meant,
        script-numbers text ∙ ap (λ (c : Core). map (λ (script : List Op). length script) (plans.core_scripts c)) back.meant,
      ) (simp map-map)

  -- ---- the whole

  -- The name of a spinlock's successor refers to that successor.
  next-back : (next : Option SpinlockId) → option_map_or (limits.is_spinlock plan) next true ≡ true
      → Back (or_null_data (spinlock_name_data plan)) (option_map (spinlock_name plan)) (or_null read_name) (option_and_then (spinlock_ref objects)) (λ o. option_map_or (λ (name : List ℕ). is_some (place_of objects ObjectKind.Spinlock name)) o true) next
  next-back None h = record { shaped = refl; meant = refl; passed = refl }
  next-back (Some spinlock) h = let names = named (spinlock_object spinlock) (there-spinlock plan none spinlock h) in record { shaped = rw names.in_form refl; meant = rw names.found refl; passed = rw names.found refl }

  spinlocks-back : Back (list_data (spinlock_data plan)) (map (spinlock_as_text plan)) (each_of spinlock_shape) (map (spinlock_plan objects)) (list_all (is_spinlock_known objects)) plan.spinlocks
  unfolding spinlock_shape
  spinlocks-back = backs plan.spinlocks (λ spinlock here.
      let next = next-back spinlock.next (here (limits.is_spinlock_known plan) bounds.linked) in
      record { shaped = rw (here said.is_spinlock_representable parts.spinlocks, next.shaped) refl; meant = rw next.meant refl; passed = next.passed })

  names-back : Back (list_data name_data) (map (λ name. name)) (each_of read_name) (map (λ name. name)) (list_all is_unreserved) plan.modes
  names-back = backs plan.modes (λ name here. let tests = and_parts (is_name name) (is_unreserved name) (here _ parts.modes) in record { shaped = rw tests.0 refl; meant = refl; passed = tests.1 })

  shape-back : config_shape (config_data plan) ≡ Some (config_as_text plan)
  unfolding config_shape
  shape-back = rw (names-back.shaped, map-id plan.modes, spinlocks-back.shaped, cores-back.shaped) refl

  plan-back : plan_of (config_as_text plan) ≡ plan
  plan-back =
      let master : plan.master.number < 16 = master-low plan inside in
      let version = byte-small plan.version (omega (arith, (between 1 2 plan.version (version-within (limits.sizes_of plan) bounds.sizes)).1)) in
      let cap = byte-small plan.cap (omega (arith, (between 1 16 plan.cap (cap-within (limits.sizes_of plan) bounds.sizes)).1)) in
      rw (id-back plan.master (ap Some (byte-small plan.master.number (omega arith))), spinlocks-back.meant, cores-back.meant, version, cap) refl

  faultless : failing (tests_of (config_as_text plan)) ≡ []
  faultless =
      let t = config_as_text plan in
      let verdict = each_verdict (core_verdict objects) t.cores in
      let right = three-parts verdict.known verdict.masked verdict.formed (each-right (core_verdict objects) t.cores ∙ cores-back.passed) in
      let numbers : numbers_of t.cores ≡ limits.numbers_of plan.cores = map-map (λ (core : CoreText). core.id) (core_as_text plan) plan.cores in
      let cores : map (core_sizes objects) t.cores ≡ map (limits.core_sizes plan) plan.cores = map-in (core_sizes objects) (core_as_text plan) (limits.core_sizes plan) plan.cores core-numbers in
      let sizes : sizes_of t ≡ limits.sizes_of plan = rw (length-map plan.spinlocks (spinlock_as_text plan), cores) refl in
      let within : is_text_within t ≡ true = ap limits.is_within sizes ∙ bounds.sizes in
      let unreserved : list_all is_unreserved t.modes ≡ true = ap (list_all is_unreserved) (sym (map-id plan.modes)) ∙ names-back.passed in
      let one_each : is_each_once t ≡ true = and_from _ _ (and_from _ _ (ap are_numbers_distinct numbers ∙ bounds.distinct) once) unreserved in
      let master : has_number (numbers_of t.cores) t.master ≡ true =
      ap (λ numbers. has_number numbers t.master) numbers ∙ any-mapped (λ id. same_number id t.master) (λ (c : Core). number_of c.id) plan.cores ∙ any-find (λ (c : Core). same_core c.id plan.master) plan.cores ∙ bounds.master in
      let known : are_known t ≡ true = and_from _ _ master (and_from _ _ spinlocks-back.passed right.0) in
      let near : have_local_references t ≡ true = sym (near_kept objects t.cores right.2) ∙ ap (λ (p : Plan). list_all limits.has_local_references p.cores) plan-back ∙ bounds.near in
      let ordered : are_ordered t ≡ true = ap are_links_ordered (sym (map-map (λ (spinlock : Spinlock). spinlock.next) (spinlock_plan objects) t.spinlocks)) ∙ ap (λ (p : Plan). are_links_ordered (links_of p.spinlocks)) plan-back ∙ bounds.ordered in
      let timed : are_timed t ≡ true = simp list_all-map ((simp list_all-map at (ap (list_all (λ (s : CoreSizes). list_all is_table_timed s.tables)) cores)) ∙ bounds.timed) in
      rw (within, one_each, known, near, ordered, right.1, timed, right.2) refl

-- so the text means the configuration
pub config-back : (plan : Plan) (text : List ℕ) → IsTrue (limits.is_within_limits plan) → IsTrue (said.is_representable plan) → read text ≡ Some (config_data plan) → config_of text ≡ Some plan
config-back plan text inside sayable reads = rw (reads, shape-back plan inside sayable, faultless plan inside sayable, plan-back plan inside sayable) refl
