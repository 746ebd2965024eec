-- The configuration of a separate core alone is within the limits, and representable in a text.
use Rattle.std.proofs.Common.{◌≡◌, ℕ, ◌-◌, Bool, true, false, not, ◌&&◌, nat_eq, List, [], ◌∷◌, ◌++◌, length, Option, Some, IsTrue, refl, sym, ap, subst, ◌∙◌, arith}
use Rattle.std.specs.{List.list_all, List.list_any, List.flat_map, Option.option_copied, Borrow.Bor}
use Rattle.std.proofs.{lemmas.List.append_assoc, lemmas.List.append-nil, lemmas.List.Folds.list_all-map, lemmas.List.Folds.list_any-append}
use Rattle.std.proofs.lemmas.Bool.{and_from, or_from, or_parts, or_left, or_right, not-false, not_from_false, eq-eqb}
use Rattle.osbase.specs.{declared.references.CoreId.CoreId, declared.objects.Object.Object, History.same_core, declared.objects.ObjectKind.ObjectKind, Objects.counter_object, Objects.object_of_call, declared.items.CoreMode.CoreMode, declared.messages.RemoteCall.RemoteCall, declared.items.CoreMode.TheVariants.Named, declared.items.CoreMode.TheVariants.DontCare}
use Rattle.osbase.proofs.Same.{same_core-comm, same_core-refl, same_core-true}
use Rattle.oscript.specs.{declared.Op.Op, Rows.halts_all, Rows.objects_of}
use Rattle.osplan.specs.{declared.plans.Plan.Plan, declared.plans.Core.Core, declared.plans.Alarm.Alarm, declared.plans.Table.Table, View.core_of}
use Rattle.osplan.specs.Objects.{common_names, core_scripts, table_actions}
use Rattle.osplan.specs.Limits.{CoreSizes, core_sizes, cores_by, sizes_of, is_action_known, is_alarm_known, is_alarm_local, is_core_timed, is_core_within, is_table_known, is_table_local, is_versioned, is_within, is_between, is_object, is_op_known, is_core_mode, is_script_known, is_core_known, has_local_references, is_within_limits}
use Rattle.osplan.specs.Representable.{all_common_names, is_core_representable, is_representable, are_distinct, object_names}
use Rattle.osplan.specs.Naming.{has_operation, is_off, is_on, names_other}
use Rattle.osseparate.specs.Separate.{agree, alone_of, halts_somewhere, is_agreed_mode, is_named_elsewhere, is_separate, is_separate_core, is_started}
use Rattle.osplan.proofs.Acting.{any-acting}
use Rattle.osplan.proofs.Alarming.{known-named, known-parts, own-sizes, own-tables, own-timed}
use Rattle.osplan.proofs.Tests.{all-both, all-without, any-flat, find-fails, find-holds, find-passes}
use Rattle.osplan.proofs.Within.{LimitParts, NearParts, TextParts, limit-parts, near-parts, text-parts}
use Rattle.osseparate.proofs.{Distinct.distinct-kept, Distinct.distinct-front, Distinct.distinct-back, Separating.SeparateParts, Separating.separate-parts}

agree-self : (mode : CoreMode) → agree mode mode ≡ true
agree-self (Named m) = eq-eqb m.index m.index refl
agree-self DontCare = refl

-- ---- names

each-distinct : (cores : List Core) → are_distinct (flat_map object_names cores) ≡ true → list_all (λ (c : Core). are_distinct (object_names c)) cores ≡ true
each-distinct [] h = refl
each-distinct (c ∷ cs) h = and_from _ _ (distinct-front (object_names c) (flat_map object_names cs) h) (each-distinct cs (distinct-back (object_names c) (flat_map object_names cs) h))

-- ---- the limits

module _ (plan : Plan) (id : CoreId) (core : Core) (found : core_of plan id ≡ Some core) (same : core.id ≡ id) where
  mine : same_core core.id id ≡ true
  mine = ap (same_core core.id) (sym same) ∙ same_core-refl core.id

  here : core_of plan core.id ≡ Some core
  here = ap (core_of plan) same ∙ found

  abbrev alone : Plan
  alone = alone_of plan id core

  -- an object that is on this core is an object of its own configuration
  own-object : (object : Object) → is_object plan object ≡ true → is_off core.id object ≡ false → is_object alone object ≡ true
  own-object object known inward =
      let own = not-false (is_on core.id object) inward in
      let at_home : same_core core.id object.place.core ≡ true = same_core-comm core.id object.place.core ∙ own in
      rw at_home (rw own at (known-named plan core here object known))

  own-operation : (op : Op) → is_op_known plan op ≡ true → names_other core.id op ≡ false → is_op_known alone op ≡ true
  own-operation op = all-without (is_object plan) (is_off core.id) (is_object alone) own-object (objects_of op)

  own-script : (script : List Op) → is_script_known plan script ≡ true → list_any (names_other core.id) script ≡ false → is_script_known alone script ≡ true
  own-script script = all-without (is_op_known plan) (names_other core.id) (is_op_known alone) own-operation script

  -- an action is for an object that is not on this core
  abbrev leaves : RemoteCall → Bool
  leaves action = is_off core.id (object_of_call action)

  own-action : (action : RemoteCall) → is_action_known plan action ≡ true → leaves action ≡ false → is_action_known alone action ≡ true
  own-action action known inward = grind (arith, own-object (object_of_call action))

  -- if an alarm is the core's, and its action is for an object of the core, the core's own configuration knows it
  own-alarm : (alarm : Alarm) → (is_alarm_known plan alarm && is_alarm_local core.id alarm) ≡ true → leaves alarm.action ≡ false → is_alarm_known alone alarm ≡ true
  own-alarm alarm h inward =
      let counter = own-object (counter_object alarm.counter) (grind arith) (grind arith) in
      let action = own-action alarm.action (grind arith) inward in
      and_from _ _ (and_from _ _ counter action) (grind arith)

  -- if a table is the core's, and its actions are for objects of the core, the core's own configuration knows it
  own-table : (table : Table) → (is_table_known plan table && is_table_local core.id table) ≡ true → list_any leaves (table_actions table) ≡ false → is_table_known alone table ≡ true
  own-table table h inward =
      let actions = all-without (is_action_known plan) leaves (is_action_known alone) own-action (table_actions table) (grind arith) inward in
      grind (arith, own-object (counter_object table.counter), actions)

  core-alone : is_core_known plan core ≡ true → NearParts core → SeparateParts plan core → is_core_known alone core ≡ true
  core-alone known near separate =
      let parts = known-parts plan core here known in
      let acting = or_parts _ _ (sym (any-acting (is_off core.id) core) ∙ separate.acting) in
      let mode : is_core_mode plan core.mode ≡ true = grind arith in
      let scripts = all-without (is_script_known plan) (list_any (names_other core.id)) (is_script_known alone) own-script (core_scripts core) parts.scripts separate.inward in
      let alarms = all-without (λ (alarm : Alarm). is_alarm_known plan alarm && is_alarm_local core.id alarm) (λ (alarm : Alarm). leaves alarm.action) (is_alarm_known alone) own-alarm core.alarms
      (all-both (is_alarm_known plan) (is_alarm_local core.id) core.alarms parts.alarms near.alarms) acting.0 in
      let tables = all-without (λ (table : Table). is_table_known plan table && is_table_local core.id table) (λ (table : Table). list_any leaves (table_actions table)) (is_table_known alone) own-table core.tables
      (all-both (is_table_known plan) (is_table_local core.id) core.tables parts.tables near.tables) acting.1 in
      and_from _ _ (and_from _ _ (and_from _ _ (and_from _ _ mode scripts) parts.tasks) alarms) tables

  -- the core's alarms and tables use its own counters, so its sizes are the same alone as in the whole
  by-itself : core_of alone core.id ≡ Some core
  by-itself = rw (same_core-refl core.id) refl

  same-sizes : NearParts core → core_sizes plan core ≡ core_sizes alone core
  same-sizes near = λ i. record (core_sizes alone core) {
    alarms = (own-sizes plan core here near.alarms ∙ sym (own-sizes alone core by-itself near.alarms)) i;
    tables = (own-tables plan core here near.tables ∙ sym (own-tables alone core by-itself near.tables)) i;
  }

  timed-alone : NearParts core → is_core_timed plan core ≡ true → is_core_timed alone core ≡ true
  timed-alone near timed = own-timed alone core by-itself near.tables ∙ sym (own-timed plan core here near.tables) ∙ timed

  -- the version stays, and it allows a core of this number
  version-alone : is_versioned (sizes_of plan) ≡ true → is_versioned (sizes_of alone) ≡ true
  version-alone whole =
      let is_numbered = λ (s : CoreSizes). is_between 0 (cores_by (Some plan.version) - 1) s.number in
      let each : list_all is_numbered (sizes_of plan).cores ≡ true = grind arith in
      let number = find-passes (λ (c : Core). same_core c.id id) (λ (c : Core). is_numbered (core_sizes plan c)) plan.cores core (sym (list_all-map is_numbered (core_sizes plan) plan.cores) ∙ each) found in
      grind (arith, number)

  -- the modes and the mailboxes stay too, and there is no spinlock
  sizes-alone : is_within (sizes_of plan) ≡ true → is_core_within (core_sizes alone core) ≡ true → is_within (sizes_of alone) ≡ true
  sizes-alone whole one = let version = version-alone (grind arith) in grind arith

  plan-alone : LimitParts plan → is_core_within (core_sizes plan core) ≡ true → is_core_known plan core ≡ true → has_local_references core ≡ true → is_core_timed plan core ≡ true → SeparateParts plan core → is_within_limits alone ≡ true
  plan-alone limits within known near timed separate =
      let parts = near-parts core near in
      let sizes = sizes-alone limits.sizes (subst (λ (s : CoreSizes). is_core_within s ≡ true) (same-sizes parts) within) in
      and_from _ _ (and_from _ _ (and_from _ _ (and_from _ _ (and_from _ _ (and_from _ _ (and_from _ _ sizes refl) (rw mine refl)) (and_from _ _ (core-alone known parts separate) refl)) (and_from _ _ near refl)) (and_from _ _ (timed-alone parts timed) refl)) refl) refl

  -- ---- what a text can say
  representable-alone : TextParts plan → is_core_representable core ≡ true → are_distinct (object_names core) ≡ true → is_representable alone ≡ true
  representable-alone said one distinct =
      let spinlocks : List (List ℕ) = common_names ObjectKind.Spinlock plan ++ [] in
      let rest : List (List ℕ) = flat_map object_names plan.cores in
      let none : (p : List ℕ → Bool) → list_any p (spinlocks ++ rest) ≡ false → list_any p (object_names core) ≡ false =
      λ p h. find-fails (λ (c : Core). same_core c.id id) (λ (c : Core). list_any p (object_names c)) plan.cores core (sym (any-flat p object_names plan.cores) ∙ (or_parts _ _ (sym (list_any-append p spinlocks rest) ∙ h)).1) found in
      let names = distinct-kept plan.modes (spinlocks ++ rest) (object_names core) none distinct (ap are_distinct (sym (append_assoc plan.modes spinlocks rest)) ∙ said.names) in
      and_from _ _ (and_from _ _ (and_from _ _ said.modes refl) (and_from _ _ one refl)) (simp append-nil (simp append-nil at names))

  -- ---- the core alone is separate again
  separate-alone : SeparateParts plan core → is_separate alone id ≡ true
  separate-alone parts =
      let started : is_started alone core.id ≡ true = rw (mine, same_core-refl core.id) (or_left _ _ (same_core-refl core.id)) in
      let agreed : is_agreed_mode alone core.mode ≡ true = and_from _ _ (or_right (not (is_started alone core.id)) _ (agree-self core.mode)) refl in
      let no_start : nat_eq (length core.start) 0 ≡ true = ap (λ (cores : List CoreId). nat_eq (length cores) 0) parts.no_start in
      let unnamed : not (is_named_elsewhere alone core.id) ≡ true = rw (same_core-refl core.id) refl in
      let unhalted : halts_somewhere alone ≡ false = or_from _ _ (find-fails (λ (c : Core). same_core c.id id) (has_operation halts_all) plan.cores core parts.unhalted found) refl in
      let names = and_from _ _ (and_from _ _ (and_from _ _ started parts.names) agreed) no_start in
      let objects = and_from _ _ (and_from _ _ names (not_from_false _ (or_from _ _ parts.inward parts.acting))) unnamed in
      rw mine (and_from _ _ (and_from _ _ objects (not_from_false _ parts.unshared)) (not_from_false _ unhalted))

-- ---- the whole

-- What a cut needs of the core's own configuration.
pub record IsWhole (plan : Plan) (id : CoreId) (core : Core) : Type 0 where
  pub limits : is_within_limits (alone_of plan id core) ≡ true
  pub representable : is_representable (alone_of plan id core) ≡ true
  pub separate : is_separate (alone_of plan id core) id ≡ true

-- The core that was found in the configuration's plan, and passed the test.
pub whole-alone : (plan config : Plan) (id : CoreId) (o : Option (Bor Core)) (own : Bor Core) (separate : Bool) → plan ≡ config → IsTrue (is_within_limits config) → IsTrue (is_representable config)
    → option_copied o ≡ core_of plan id → o ≡ Some own → separate ≡ is_separate_core plan own.now → separate ≡ true → IsWhole plan id own.now
whole-alone plan config id o own separate whole limits representable copied is test passes =
    let core : Core = own.now in
    let found : core_of plan id ≡ Some core = sym copied ∙ ap option_copied is in
    let pick : (q : Core → Bool) → list_all q plan.cores ≡ true → q core ≡ true = λ q a. find-passes (λ (c : Core). same_core c.id id) q plan.cores core a found in
    let inside = limit-parts plan (rw whole limits) in
    let said = text-parts plan (rw whole representable) in
    let parts = separate-parts plan core (sym test ∙ passes) in
    let same = same_core-true core.id id (find-holds (λ (c : Core). same_core c.id id) plan.cores core found) in
    let within = pick (λ (c : Core). is_core_within (core_sizes plan c)) inside.cores in
    let distinct = each-distinct plan.cores (distinct-back (all_common_names plan) (flat_map object_names plan.cores) said.names) in
    record {
      limits = plan-alone plan id core found same inside within (pick (is_core_known plan) inside.known) (pick has_local_references inside.near) (pick (is_core_timed plan) inside.timed) parts;
      representable = representable-alone plan id core found same said (pick is_core_representable said.cores) (pick (λ (c : Core). are_distinct (object_names c)) distinct);
      separate = separate-alone plan id core found same parts;
    }
