-- No core of a group names an object of a core outside. No core outside names an object of the group's cores, or a
-- spinlock of the group.
use Rattle.std.proofs.Common.{◌≡◌, ◌⊎◌, ℕ, ◌<◌, Bool, true, false, ◌&&◌, nat_lt, Option, Some, None, is_some, length, slice_get, IsTrue, inl, inr, refl, sym, ap, ◌∙◌, arith}
use Rattle.std.specs.{List.list_all, List.position_or_len, Option.option_map_or}
use Rattle.std.proofs.{lemmas.List.length-map, lemmas.List.Folds.find_at, lemmas.Map.Keys.any_passes_from_place}
use Rattle.std.proofs.lemmas.Bool.{and_parts, and_from, cond_both, eq-eqb, false≢true, false_from_ne_true, ltb-true, not-true, not_from_false, or_left, or_right}
use Rattle.osbase.specs.{declared.references.CoreId.CoreId, declared.items.CoreSet.CoreSet, declared.objects.Object.Object, declared.objects.ObjectKind.ObjectKind, declared.objects.TheConstants.NOBODY, declared.references.SpinlockId.SpinlockId, History.same_core, Objects.same_kind, Objects.spinlock_of, Sets.has_core}
use Rattle.osbase.proofs.{Places.passes-at, Same.same_core-true, Same.same_kind-true, Same.same_core-refl}
use Rattle.oscript.specs.Rows.{halts_all}
use Rattle.osplan.specs.{declared.plans.Plan.Plan, declared.plans.Core.Core, declared.plans.Spinlock.Spinlock, View.core_of, Limits.is_core_known, Limits.is_object, Limits.is_within_limits}
use Rattle.osplan.specs.Naming.{has_operation, is_on, is_that_spinlock, names_object, op_names}
use Rattle.osplan.specs.Objects.{common_names, core_scripts, has_index, is_common, object_count}
use Rattle.osplan.proofs.{Tests.find-holds, Within.limit-parts}
use Rattle.osgroup.specs.Apart.{is_inside, is_outside, is_taken, is_taken_in, keeps_apart}
use Rattle.osgroup.specs.Groups.{is_group, names_spinlock, spinlock_ids}
use Rattle.osgroup.proofs.Among.{all-at, any-one, number-at}
use Rattle.osgroup.proofs.Members.{GroupParts, both_name, group-parts, lock_of}
use Rattle.osgroup.proofs.Named.{known-named, known-scripts, named_objects, names-any, script_objects, scripts-any}

-- a core that is found by a number is at a place, and has that number
pub record FoundAt (plan : Plan) (id : CoreId) : Type 0 where
  pub core : Core
  pub at : ℕ
  pub there : slice_get plan.cores at ≡ Some core
  pub same : core.id ≡ id

found-at : (plan : Plan) (id : CoreId) (c : Core) → core_of plan id ≡ Some c → FoundAt plan id
found-at plan id c found = record {
  core = c;
  at = position_or_len (λ (d : Core). same_core d.id id) plan.cores;
  there = sym (find_at (λ (d : Core). same_core d.id id) plan.cores) ∙ found;
  same = same_core-true c.id id (find-holds (λ (d : Core). same_core d.id id) plan.cores c found);
}

-- ---- where a known object is: on a core, or on none

module _ (plan : Plan) (object : Object) where
  pub stands : is_object plan object ≡ true → FoundAt plan object.place.core ⊎ (same_core object.place.core NOBODY ≡ true)
  stands known = by (core_of plan object.place.core) refl known
    where
      by : (o : Option Core) → core_of plan object.place.core ≡ o → option_map_or (λ (c : Core). has_index c object) o (is_common plan object) ≡ true → FoundAt plan object.place.core ⊎ (same_core object.place.core NOBODY ≡ true)
      by None found h = inr (and_parts _ _ h).0
      by (Some c) found h = inl (found-at plan object.place.core c found)

  -- A spinlock is on no core, at a place among the spinlocks.
  pub spinlock-common : is_object plan object ≡ true → same_kind object.kind ObjectKind.Spinlock ≡ true → (same_core object.place.core NOBODY ≡ true) × (object.place.index < length plan.spinlocks)
  spinlock-common known kind = by (core_of plan object.place.core) (rw (same_kind-true object.kind ObjectKind.Spinlock kind) at known)
    where
      by : (o : Option Core) → option_map_or (λ (c : Core). nat_lt object.place.index (object_count ObjectKind.Spinlock c)) o (same_core object.place.core NOBODY && nat_lt object.place.index (length (common_names ObjectKind.Spinlock plan))) ≡ true
          → (same_core object.place.core NOBODY ≡ true) × (object.place.index < length plan.spinlocks)
      by None h =
          let parts = and_parts _ _ h in
          (parts.0, omega (arith, ltb-true _ _ parts.1, length-map plan.spinlocks (λ (spinlock : Spinlock). spinlock.name)))
      by (Some c) h = absurd (omega (arith, ltb-true _ _ h))

-- ---- core by core

module _ (plan : Plan) (group : CoreSet) (limits : IsTrue (is_within_limits plan)) (parts : GroupParts plan group) where
  known-at : (i : ℕ) (c : Core) → slice_get plan.cores i ≡ Some c → is_core_known plan c ≡ true
  known-at i c there = passes-at (is_core_known plan) plan.cores i c (limit-parts plan limits).known there

  -- an object that a core names is on no core, or on some core; then the first core names an object of that core
  record Naming (test : Object → Bool) (c : Core) : Type 0 where
    object : Object
    passes : test object ≡ true
    stands : ((on : FoundAt plan object.place.core) × (names_object (is_on on.core.id) c ≡ true)) ⊎ (same_core object.place.core NOBODY ≡ true)

  naming : (test : Object → Bool) (i : ℕ) (c : Core) → slice_get plan.cores i ≡ Some c → names_object test c ≡ true → Naming test c
  naming test i c here e =
      let one = any-one test (named_objects c) (sym (names-any test c) ∙ e) in
      record {
        object = one.one;
        passes = one.passes;
        stands = elim (stands plan one.one (passes-at (is_object plan) (named_objects c) one.at one.one (known-named plan c (known-at i c here)) one.there)) [
          | inl on ↦ inl (on, names-any (is_on on.core.id) c ∙ any_passes_from_place (is_on on.core.id) (named_objects c) one.at one.one one.there (ap (same_core one.one.place.core) on.same ∙ same_core-refl one.one.place.core))
          | inr none ↦ inr none
        ];
      }

  pub names-inside : (i : ℕ) (c : Core) → slice_get plan.cores i ≡ Some c → has_core group c.id ≡ true → names_object (is_outside group) c ≡ false
  names-inside i c here inside = false_from_ne_true _ (λ e.
      let n = naming (is_outside group) i c here e in
      let out = and_parts _ _ n.passes in
      elim n.stands as (λ _. ⊥) [
        | inl on ↦
            let its = parts.closed c on.0.core i on.0.at here on.0.there inside (or_left _ _ (or_right _ _ on.1)) in
            false≢true (sym (not-true _ out.0) ∙ ap (has_core group) (sym on.0.same) ∙ its)
        | inr none ↦ false≢true (sym (not-true _ out.1) ∙ none)
      ])

  pub names-outside : (i : ℕ) (c : Core) → slice_get plan.cores i ≡ Some c → has_core group c.id ≡ false → names_object (is_inside group) c ≡ false
  names-outside i c here outside = false_from_ne_true _ (λ e.
      let n = naming (is_inside group) i c here e in
      elim n.stands as (λ _. ⊥) [
        | inl on ↦
            let its = parts.closed on.0.core c on.0.at i on.0.there here (ap (has_core group) on.0.same ∙ n.passes) (or_left _ _ (or_left _ _ (or_right _ _ on.1))) in
            false≢true (sym outside ∙ its)
        | inr none ↦ false≢true (ap (has_core group) (sym (same_core-true n.object.place.core NOBODY none)) ∙ n.passes)
      ])

  pub untaken-outside : (i : ℕ) (c : Core) → slice_get plan.cores i ≡ Some c → has_core group c.id ≡ false → has_operation (op_names (is_taken plan group)) c ≡ false
  untaken-outside i c here outside = false_from_ne_true _ (λ e.
      let one = any-one (is_taken plan group) (script_objects (core_scripts c)) (sym (scripts-any (is_taken plan group) (core_scripts c)) ∙ e) in
      let l : SpinlockId = spinlock_of one.one.place in
      let both = and_parts (same_kind one.one.kind ObjectKind.Spinlock) (is_taken_in plan group l) one.passes in
      let taker = any-one (λ (d : Core). has_core group d.id && names_spinlock d l) plan.cores both.1 in
      let takes = and_parts (has_core group taker.one.id) (names_spinlock taker.one l) taker.passes in
      let place = spinlock-common plan one.one (passes-at (is_object plan) (script_objects (core_scripts c)) one.at one.one (known-scripts plan c (known-at i c here)) one.there) both.0 in
      let mine : names_spinlock c l ≡ true =
      scripts-any (is_that_spinlock l) (core_scripts c)
      ∙ any_passes_from_place (is_that_spinlock l) (script_objects (core_scripts c)) one.at one.one one.there (and_from _ _ both.0 (eq-eqb one.one.place.index one.one.place.index refl)) in
      let shared = any_passes_from_place (both_name c taker.one) (spinlock_ids plan) l.index l (number-at lock_of (length plan.spinlocks) l.index place.1) (and_from _ _ mine takes.1) in
      false≢true (sym outside ∙ parts.closed taker.one c taker.at i taker.there here takes.0 (or_right _ _ shared)))

  -- If the group has a core, no core outside shuts all cores down.
  pub halts-outside : (id : CoreId) → has_core group id ≡ true → (i : ℕ) (c : Core) → slice_get plan.cores i ≡ Some c → has_core group c.id ≡ false → has_operation halts_all c ≡ false
  halts-outside id inside i c here outside = by (core_of plan id) refl (parts.configured id inside)
    where
      by : (o : Option Core) → core_of plan id ≡ o → is_some o ≡ true → has_operation halts_all c ≡ false
      by None found e = absurd (false≢true e)
      by (Some d) found e = false_from_ne_true _ (λ halts.
          let on = found-at plan id d found in
          false≢true (sym outside ∙ parts.closed on.core c on.at i on.there here (ap (has_core group) on.same ∙ inside) (or_left _ _ (or_left _ _ (or_left _ _ halts)))))

-- ---- all cores

-- If the group has a core, each core keeps apart. Without one, a core outside may shut all cores down.
pub kept-apart : (plan : Plan) (group : CoreSet) (id : CoreId) → IsTrue (is_within_limits plan) → is_group plan group ≡ true → has_core group id ≡ true → list_all (keeps_apart plan group) plan.cores ≡ true
kept-apart plan group id limits is some =
    let parts : GroupParts plan group = group-parts plan group is in
    all-at (keeps_apart plan group) plan.cores (λ i c here.
    cond_both (has_core group c.id) _ _ (λ (b : Bool). b ≡ true) (λ inside. not_from_false _ (names-inside plan group limits parts i c here inside)) (λ outside.
    and_from _ _ (and_from _ _ (not_from_false _ (names-outside plan group limits parts i c here outside)) (not_from_false _ (halts-outside plan group limits parts id some i c here outside)))
    (not_from_false _ (untaken-outside plan group limits parts i c here outside))))

-- ---- what they say of one core

pub apart-inside : (plan : Plan) (group : CoreSet) (c : Core) → keeps_apart plan group c ≡ true → has_core group c.id ≡ true → names_object (is_outside group) c ≡ false
apart-inside plan group c keeps inside = not-true _ (rw inside at keeps)

pub record OutsideParts (plan : Plan) (group : CoreSet) (c : Core) : Type 0 where
  pub objects : names_object (is_inside group) c ≡ false
  pub halts : has_operation halts_all c ≡ false
  pub spinlocks : has_operation (op_names (is_taken plan group)) c ≡ false

pub apart-outside : (plan : Plan) (group : CoreSet) (c : Core) → keeps_apart plan group c ≡ true → has_core group c.id ≡ false → OutsideParts plan group c
apart-outside plan group c keeps outside =
    let h = rw outside at keeps in
    let spinlocks = and_parts _ _ h in
    let halts = and_parts _ _ spinlocks.0 in
    record { objects = not-true _ halts.0; halts = not-true _ halts.1; spinlocks = not-true _ spinlocks.1 }
