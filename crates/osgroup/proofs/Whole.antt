-- The configuration of a group is within the limits, and representable in a text.
use Rattle.std.proofs.Common.{◌≡◌, ◌-◌, Bool, true, false, not, ◌&&◌, nat_lt, ℕ, Option, Some, None, is_some, option_map, List, [], ◌∷◌, ◌++◌, flat_map, length, map, IsTrue, inl, inr, refl, sym, ap, ap₂, ◌∙◌, slice_get, arith}
use Rattle.std.specs.{List.list_all, List.list_any, Option.option_map_or}
use Rattle.std.proofs.{lemmas.List.length-map, lemmas.List.Folds.list_all-map, lemmas.List.Folds.list_any-append}
use Rattle.std.proofs.lemmas.Bool.{and_parts, and_from, cases_Bool, cond_both, or_from, or_parts, not-false}
use Rattle.osbase.specs.{declared.references.CoreId.CoreId, declared.items.CoreSet.CoreSet, declared.references.CounterRef.CounterRef, declared.objects.Object.Object, declared.objects.ObjectKind.ObjectKind, declared.objects.TheConstants.NOBODY, declared.messages.RemoteCall.RemoteCall, History.same_core, Objects.counter_object, Objects.object_of_call, Sets.has_core}
use Rattle.osbase.proofs.{Places.passes-at, Same.same_core-true}
use Rattle.oscript.specs.{declared.Op.Op, Rows.objects_of}
use Rattle.osplan.specs.{declared.plans.Plan.Plan, declared.plans.Core.Core, declared.plans.Alarm.Alarm, declared.plans.Table.Table, View.core_of}
use Rattle.osplan.specs.Representable.{all_common_names, are_distinct, is_core_representable, is_representable, object_names}
use Rattle.osplan.specs.Limits.{CoreSizes, cores_by, core_sizes, is_action_known, is_alarm_known, is_alarm_local, is_within_by, is_core_known, is_core_mode, has_local_references, is_core_timed, is_core_within, is_mode, is_object, is_op_known, is_script_known, is_table_known, is_table_local, is_versioned, is_within, is_within_limits, are_numbers_distinct, number_of, numbers_of, sizes_of, is_between, most_cores}
use Rattle.osplan.specs.Objects.{alarm_modes, core_scripts, common_names, has_index, is_common, table_actions, table_modes}
use Rattle.osplan.specs.Naming.{acts_on, has_operation, names_object, op_names}
use Rattle.osplan.proofs.{Acting.any-acting, Alarming.known-parts, Alarming.own-sizes, Alarming.own-tables, Alarming.own-timed, Found.IsFound, Found.each-found, Numbered.configured-low}
use Rattle.osplan.proofs.Tests.{all-both, all-weaker, all-without}
use Rattle.osplan.proofs.Within.{LimitParts, NearParts, TextParts, limit-parts, near-parts, text-parts}
use Rattle.osseparate.proofs.Distinct.{distinct-back, distinct-kept}
use Rattle.osgroup.specs.Apart.{is_outside}
use Rattle.osgroup.specs.Groups.{bare_core, group_of, is_group, part_of}
use Rattle.osgroup.proofs.{Among.all-at, Among.recursion-at, Apart.names-inside, Members.group-parts, Seeing.core-inside, Seeing.core-part, Seeing.part-id}

module _ (plan : Plan) (group : CoreSet) (limits : IsTrue (is_within_limits plan)) where
  abbrev alone : Plan
  alone = group_of plan group

  parts : LimitParts plan
  parts = limit-parts plan limits

  -- The objects that are common to all cores are the same.
  common-same : (object : Object) → is_common alone object ≡ is_common plan object
  common-same object = ap (λ (names : List (List ℕ)). same_core object.place.core NOBODY && nat_lt object.place.index (length names)) (names object.kind)
    where
      names : (kind : ObjectKind) → common_names kind alone ≡ common_names kind plan
      names ObjectKind.Mode = refl
      names ObjectKind.Spinlock = refl
      names kind = refl

  -- What is on no core outside the group is in the group's configuration, where it was.
  core-same : (id : CoreId) → (not (has_core group id) && not (same_core id NOBODY)) ≡ false → core_of alone id ≡ core_of plan id
  core-same id inward =
      elim (cases_Bool (has_core group id)) as (λ _. core_of alone id ≡ core_of plan id) [
        | inl inside ↦ core-inside plan group id inside
        | inr outside ↦ core-part plan group id ∙ none (core_of plan id) refl (not-false _ (rw outside at inward))
      ]
    where
      none : (o : Option Core) → core_of plan id ≡ o → same_core id NOBODY ≡ true → option_map (part_of group) o ≡ o
      none None found nobody = refl
      none (Some c) found nobody =
          let low = configured-low plan id limits (ap is_some found) in
          absurd (omega (arith, low, ap (λ (k : CoreId). k.number) (same_core-true id NOBODY nobody)))

  inside-object : (object : Object) → is_object plan object ≡ true → is_outside group object ≡ false → is_object alone object ≡ true
  inside-object object known inward =
      ap₂ (λ (o : Option Core) (common : Bool). option_map_or (λ (c : Core). has_index c object) o common) (core-same object.place.core inward) (common-same object) ∙ known

  inside-operation : (op : Op) → is_op_known plan op ≡ true → op_names (is_outside group) op ≡ false → is_op_known alone op ≡ true
  inside-operation op = all-without (is_object plan) (is_outside group) (is_object alone) inside-object (objects_of op)

  inside-script : (script : List Op) → is_script_known plan script ≡ true → list_any (op_names (is_outside group)) script ≡ false → is_script_known alone script ≡ true
  inside-script script = all-without (is_op_known plan) (op_names (is_outside group)) (is_op_known alone) inside-operation script

  abbrev leaves : RemoteCall → Bool
  leaves action = is_outside group (object_of_call action)

  inside-action : (action : RemoteCall) → is_action_known plan action ≡ true → leaves action ≡ false → is_action_known alone action ≡ true
  inside-action action known inward =
      let both = and_parts _ (is_object plan (object_of_call action)) known in
      and_from _ _ both.0 (inside-object (object_of_call action) both.1 inward)

  -- ---- a core of the group

  module _ (core : Core) (inside : has_core group core.id ≡ true) (here : core_of plan core.id ≡ Some core) (near : NearParts core) where
    inside-counter : (c : CounterRef) → is_object plan (counter_object c) ≡ true → same_core c.core core.id ≡ true → is_object alone (counter_object c) ≡ true
    inside-counter c known on = inside-object (counter_object c) known (rw (same_core-true c.core core.id on, inside) refl)

    inside-alarm : (alarm : Alarm) → (is_alarm_known plan alarm && is_alarm_local core.id alarm) ≡ true → leaves alarm.action ≡ false → is_alarm_known alone alarm ≡ true
    inside-alarm alarm h inward =
        let both = and_parts (is_alarm_known plan alarm) _ h in
        let known = and_parts _ (list_all (is_mode plan) (alarm_modes alarm)) both.0 in
        let objects = and_parts _ (is_action_known plan alarm.action) known.0 in
        and_from _ _ (and_from _ _ (inside-counter alarm.counter objects.0 both.1) (inside-action alarm.action objects.1 inward)) known.1

    inside-table : (table : Table) → (is_table_known plan table && is_table_local core.id table) ≡ true → list_any leaves (table_actions table) ≡ false → is_table_known alone table ≡ true
    inside-table table h inward =
        let both = and_parts (is_table_known plan table) _ h in
        let known = and_parts _ (list_all (is_mode plan) (table_modes table)) both.0 in
        let objects = and_parts _ (list_all (is_action_known plan) (table_actions table)) known.0 in
        let actions = all-without (is_action_known plan) leaves (is_action_known alone) inside-action (table_actions table) objects.1 inward in
        and_from _ _ (and_from _ _ (inside-counter table.counter objects.0 both.1) actions) known.1

    inside-known : is_core_known plan core ≡ true → names_object (is_outside group) core ≡ false → is_core_known alone core ≡ true
    inside-known known apart =
        let its = known-parts plan core here known in
        let named = or_parts (has_operation (op_names (is_outside group)) core) (acts_on (is_outside group) core) apart in
        let acting = or_parts _ _ (sym (any-acting (is_outside group) core) ∙ named.1) in
        let mode : is_core_mode alone core.mode ≡ true = grind (arith, known) in
        let scripts = all-without (is_script_known plan) (list_any (op_names (is_outside group))) (is_script_known alone) inside-script (core_scripts core) its.scripts named.0 in
        let alarms = all-without _ (λ (alarm : Alarm). leaves alarm.action) (is_alarm_known alone) inside-alarm core.alarms (all-both (is_alarm_known plan) (is_alarm_local core.id) core.alarms its.alarms near.alarms) acting.0 in
        let tables = all-without _ (λ (table : Table). list_any leaves (table_actions table)) (is_table_known alone) inside-table core.tables (all-both (is_table_known plan) (is_table_local core.id) core.tables its.tables near.tables) acting.1 in
        and_from _ _ (and_from _ _ (and_from _ _ (and_from _ _ mode scripts) its.tasks) alarms) tables

    there : core_of alone core.id ≡ Some core
    there = core-inside plan group core.id inside ∙ here

    sizes-same : core_sizes alone core ≡ core_sizes plan core
    sizes-same = rw (own-sizes alone core there near.alarms, own-tables alone core there near.tables, own-sizes plan core here near.alarms, own-tables plan core here near.tables) refl

    timed-same : is_core_timed alone core ≡ is_core_timed plan core
    timed-same = own-timed alone core there near.tables ∙ sym (own-timed plan core here near.tables)

  -- ---- a core outside, without its objects

  bare-within : (core : Core) → is_core_within (core_sizes plan core) ≡ true → is_core_within (core_sizes alone (bare_core core)) ≡ true
  bare-within core h = grind arith

  bare-known : (core : Core) → is_core_known plan core ≡ true → is_core_known alone (bare_core core) ≡ true
  bare-known core h = grind arith

  -- ---- all cores

  -- if the part of each core passes a test, all cores of the group's configuration pass it
  parts-pass : (q : Core → Bool) → ((i : ℕ) (c : Core) → slice_get plan.cores i ≡ Some c → q (part_of group c) ≡ true) → list_all q alone.cores ≡ true
  parts-pass q each = list_all-map q (part_of group) plan.cores ∙ all-at (λ (c : Core). q (part_of group c)) plan.cores each

  numbers-same : (cores : List Core) → numbers_of (map (part_of group) cores) ≡ numbers_of cores
  numbers-same [] = refl
  numbers-same (c ∷ cs) = rw (part-id group c, numbers-same cs) refl

  length-same : length (sizes_of alone).cores ≡ length (sizes_of plan).cores
  length-same = simp length-map

  master-there : is_some (core_of alone plan.master) ≡ true
  master-there = ap is_some (core-part plan group plan.master) ∙ by (core_of plan plan.master) parts.master
    where
      by : (o : Option Core) → is_some o ≡ true → is_some (option_map (part_of group) o) ≡ true
      by None e = e
      by (Some c) e = refl

  -- The version stays, and it allows as many cores, of the same numbers.
  version-alone : is_versioned (sizes_of plan) ≡ true → is_versioned (sizes_of alone) ≡ true
  version-alone whole =
      let version : Option ℕ = Some plan.version in
      let is_low = λ (c : Core). is_between 0 (cores_by version - 1) (number_of c.id) in
      let numbers = and_parts _ (list_all (λ (s : CoreSizes). is_between 0 (cores_by version - 1) s.number) (sizes_of plan).cores) whole in
      let known = and_parts _ (is_between 1 (cores_by version) (Some (length (sizes_of plan).cores))) numbers.0 in
      let low = sym (list_all-map _ (core_sizes plan) plan.cores) ∙ numbers.1 in
      let parts_low = parts-pass is_low (λ i c here. ap (λ (k : CoreId). is_between 0 (cores_by version - 1) (number_of k)) (part-id group c) ∙ passes-at is_low plan.cores i c low here) in
      and_from _ _ (and_from _ _ known.0 (rw length-same known.1)) (list_all-map _ (core_sizes alone) alone.cores ∙ parts_low)

  module _ (is : is_group plan group ≡ true) where
    -- a core, as it is or without its objects
    module _ (i : ℕ) (c : Core) (here : slice_get plan.cores i ≡ Some c) where
      whole : (q : Core → Bool) → list_all q plan.cores ≡ true → q c ≡ true
      whole q all = passes-at q plan.cores i c all here

      part : (q : Core → Bool) → (has_core group c.id ≡ true → q c ≡ true) → q (bare_core c) ≡ true → q (part_of group c) ≡ true
      part q inside bare = cond_both (has_core group c.id) c (bare_core c) (λ (d : Core). q d ≡ true) inside (λ _. bare)

      near : NearParts c
      near = near-parts c (whole has_local_references parts.near)

      found : core_of plan c.id ≡ Some c
      found = recursion-at (IsFound plan.cores) plan.cores i c (each-found plan.cores parts.distinct) here

      part-within : is_core_within (core_sizes alone (part_of group c)) ≡ true
      part-within =
          let within : is_core_within (core_sizes plan c) ≡ true = whole _ parts.cores in
          part (λ (d : Core). is_core_within (core_sizes alone d)) (λ inside. ap is_core_within (sizes-same c inside found near) ∙ within) (bare-within c within)

      part-known : is_core_known alone (part_of group c) ≡ true
      part-known =
          let known = whole (is_core_known plan) parts.known in
          let apart = names-inside plan group limits (group-parts plan group is) i c here in
          part (is_core_known alone) (λ inside. inside-known c inside found near known (apart inside)) (bare-known c known)

      part-near : has_local_references (part_of group c) ≡ true
      part-near = part has_local_references (λ _. whole has_local_references parts.near) refl

      part-timed : is_core_timed alone (part_of group c) ≡ true
      part-timed = part (is_core_timed alone) (λ inside. timed-same c inside found near ∙ whole (is_core_timed plan) parts.timed) refl

    sizes-alone : is_within (sizes_of alone) ≡ true
    sizes-alone =
        let both = and_parts (is_versioned (sizes_of plan)) (is_within_by is_core_within (sizes_of plan)) parts.sizes in
        let whole = and_parts _ (list_all is_core_within (sizes_of plan).cores) both.1 in
        let few = and_parts _ (is_between 1 most_cores (Some (length (sizes_of plan).cores))) whole.0 in
        let within = list_all-map is_core_within (core_sizes alone) alone.cores ∙ parts-pass (λ (c : Core). is_core_within (core_sizes alone c)) part-within in
        and_from _ _ (version-alone both.0) (and_from _ _ (and_from _ _ few.0 (rw length-same few.1)) within)

    pub stays-whole : is_within_limits alone ≡ true
    stays-whole =
        let numbers = and_from _ _ (and_from _ _ sizes-alone (ap are_numbers_distinct (numbers-same plan.cores) ∙ parts.distinct)) master-there in
        let cores = and_from _ _ (and_from _ _ (and_from _ _ numbers (parts-pass (is_core_known alone) part-known)) (parts-pass has_local_references part-near)) (parts-pass (is_core_timed alone) part-timed) in
        and_from _ _ (and_from _ _ cores parts.linked) parts.ordered

-- ---- what a text can say

module _ (group : CoreSet) where
  abbrev names_of_parts : List Core → List (List ℕ)
  names_of_parts cores = flat_map object_names (map (part_of group) cores)

  -- The parts of cores have no other names, and their names stay distinct.
  no-others : (p : List ℕ → Bool) (cores : List Core) → list_any p (flat_map object_names cores) ≡ false → list_any p (names_of_parts cores) ≡ false
  no-others p [] none = refl
  no-others p (c ∷ cs) none =
      let both = or_parts _ _ (sym (list_any-append p (object_names c) (flat_map object_names cs)) ∙ none) in
      let rest = no-others p cs both.1 in
      cond_both (has_core group c.id) c (bare_core c) (λ (d : Core). list_any p (object_names d ++ names_of_parts cs) ≡ false)
      (λ _. list_any-append p (object_names c) (names_of_parts cs) ∙ or_from _ _ both.0 rest) (λ _. rest)

  distinct-parts : (cores : List Core) → are_distinct (flat_map object_names cores) ≡ true → are_distinct (names_of_parts cores) ≡ true
  distinct-parts [] h = refl
  distinct-parts (c ∷ cs) h =
      let rest = distinct-parts cs (distinct-back (object_names c) (flat_map object_names cs) h) in
      cond_both (has_core group c.id) c (bare_core c) (λ (d : Core). are_distinct (object_names d ++ names_of_parts cs) ≡ true)
      (λ _. distinct-kept (object_names c) (flat_map object_names cs) (names_of_parts cs) (λ p. no-others p cs) rest h) (λ _. rest)

pub stays-representable : (plan : Plan) (group : CoreSet) → IsTrue (is_representable plan) → is_representable (group_of plan group) ≡ true
stays-representable plan group representable =
    let said : TextParts plan = text-parts plan representable in
    let names = flat_map object_names plan.cores in
    let cores = all-weaker is_core_representable (λ (c : Core). is_core_representable (part_of group c))
    (λ c h. cond_both (has_core group c.id) c (bare_core c) (λ (d : Core). is_core_representable d ≡ true) (λ _. h) (λ _. refl)) plan.cores said.cores in
    and_from _ _ (and_from _ _ (and_from _ _ said.modes said.spinlocks) (list_all-map is_core_representable (part_of group) plan.cores ∙ cores))
    (distinct-kept (all_common_names plan) names (names_of_parts group plan.cores) (λ p. no-others group p plan.cores) (distinct-parts group plan.cores (distinct-back (all_common_names plan) names said.names)) said.names)
