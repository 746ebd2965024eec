-- Groups that are made of others, and the group of a separate core.
use Rattle.std.proofs.Common.{◌≡◌, ℕ, ◌<◌, true, false, not, ◌&&◌, Option, Some, None, is_some, length, slice_get, IsTrue, ⊎_elim, refl, sym, ap, ◌∙◌, arith}
use Rattle.std.specs.{Option.option_map_or}
use Rattle.std.proofs.{lemmas.Map.Keys.any_passes_from_place}
use Rattle.std.proofs.lemmas.Bool.{and_from, and_parts, and_right, false≢true, false_from_ne_true, not_from_false, or_cases, or_from, or_left, or_right, true_from_ne_false}
use Rattle.osbase.specs.{declared.references.CoreId.CoreId, declared.items.CoreSet.CoreSet, declared.references.SpinlockId.SpinlockId, History.same_core, Sets.has_core}
use Rattle.osbase.proofs.{Places.passes-at, Same.same_core-refl, Same.same_core-true}
use Rattle.oscript.specs.Rows.{halts_all}
use Rattle.osplan.specs.{declared.plans.Plan.Plan, declared.plans.Core.Core, View.core_of, Limits.is_object, Limits.is_within_limits, Objects.core_scripts, Limits.is_core_known}
use Rattle.osplan.specs.Naming.{has_operation, is_off, is_on, is_that_spinlock, names_object}
use Rattle.osplan.proofs.{Found.IsFound, Found.each-found, Numbered.configured-low, Tests.any-find, Tests.fails-at, Within.limit-parts}
use Rattle.osseparate.specs.Separate.{is_separate, is_separate_core}
use Rattle.osseparate.proofs.Separating.{SeparateParts, separate-parts}
use Rattle.osgroup.specs.Groups.{has_say, is_group, names_spinlock}
use Rattle.osgroup.specs.Laws.{HasAll, HasOne, IsIntersection, IsUnion}
use Rattle.osgroup.proofs.Among.{any-one, no-number, recursion-at}
use Rattle.osgroup.proofs.{Apart.spinlock-common, Members.GroupParts, Members.both_name, Members.group-from, Members.group-parts, Members.lock_of}
use Rattle.osgroup.proofs.Named.{known-scripts, named_objects, names-any, script_objects, scripts-any}

-- a core at a place is configured
configured-at : (plan : Plan) (i : ℕ) (c : Core) → slice_get plan.cores i ≡ Some c → is_some (core_of plan c.id) ≡ true
configured-at plan i c there = sym (any-find (λ (d : Core). same_core d.id c.id) plan.cores) ∙ any_passes_from_place (λ (d : Core). same_core d.id c.id) plan.cores i c there (same_core-refl c.id)

pub all-group : (plan : Plan) (cores : CoreSet) → HasAll plan cores → is_group plan cores ≡ true
all-group plan cores all = group-from plan cores (record {
  configured = λ id inside. sym (all id) ∙ inside;
  closed = λ core other i j here there inside says. all other.id ∙ configured-at plan j other there;
})

module _ (plan : Plan) (one other cores : CoreSet) (first : is_group plan one ≡ true) (second : is_group plan other ≡ true) where
  a : GroupParts plan one
  a = group-parts plan one first

  b : GroupParts plan other
  b = group-parts plan other second

  pub union-group : IsUnion one other cores → is_group plan cores ≡ true
  union-group are = group-from plan cores (record {
    configured = λ id inside. ⊎_elim (a.configured id) (b.configured id) (or_cases (has_core one id) (has_core other id) (sym (are id) ∙ inside));
    closed = λ c o i j here there inside says.
        ⊎_elim (λ mine. are o.id ∙ or_left _ _ (a.closed c o i j here there mine says)) (λ theirs. are o.id ∙ or_right _ _ (b.closed c o i j here there theirs says))
        (or_cases (has_core one c.id) (has_core other c.id) (sym (are c.id) ∙ inside));
  })

  pub intersection-group : IsIntersection one other cores → is_group plan cores ≡ true
  intersection-group are = group-from plan cores (record {
    configured = λ id inside. a.configured id (and_parts _ (has_core other id) (sym (are id) ∙ inside)).0;
    closed = λ c o i j here there inside says.
        let both = and_parts (has_core one c.id) (has_core other c.id) (sym (are c.id) ∙ inside) in
        are o.id ∙ and_from _ _ (a.closed c o i j here there both.0 says) (b.closed c o i j here there both.1 says);
  })

-- ---- a separate core

module _ (plan : Plan) (id : CoreId) (limits : IsTrue (is_within_limits plan)) (core : Core) (known : is_core_known plan core ≡ true) (same : core.id ≡ id) (low : id.number < 16) (separate : is_separate_core plan core ≡ true) where
  parts : SeparateParts plan core
  parts = separate-parts plan core separate

  -- the core names only objects that are on it: nothing of another core, and no spinlock
  unnamed : (other : CoreId) → same_core other core.id ≡ false → names_object (is_on other) core ≡ false
  unnamed other apart = false_from_ne_true _ (λ e.
      let one = any-one (is_on other) (named_objects core) (sym (names-any (is_on other) core) ∙ e) in
      let off = not_from_false _ (ap (λ (k : CoreId). same_core k core.id) (same_core-true one.one.place.core other one.passes) ∙ apart) in
      false≢true (sym (or_from _ _ parts.inward parts.acting) ∙ names-any (is_off core.id) core ∙ any_passes_from_place (is_off core.id) (named_objects core) one.at one.one one.there off))

  no-spinlock : (l : SpinlockId) → names_spinlock core l ≡ false
  no-spinlock l = false_from_ne_true _ (λ e.
      let objects = script_objects (core_scripts core) in
      let one = any-one (is_that_spinlock l) objects (sym (scripts-any (is_that_spinlock l) (core_scripts core)) ∙ e) in
      let nobody = spinlock-common plan one.one (passes-at (is_object plan) objects one.at one.one (known-scripts plan core known) one.there) (and_parts _ _ one.passes).0 in
      let off : is_off core.id one.one ≡ true = grind (arith, nobody.0, same, low) in
      false≢true (sym parts.inward ∙ scripts-any (is_off core.id) (core_scripts core) ∙ any_passes_from_place (is_off core.id) objects one.at one.one one.there off))

  -- Another core has no say in what the separate core does.
  pub separate-unsaid : (j : ℕ) (other : Core) → slice_get plan.cores j ≡ Some other → same_core other.id id ≡ false → has_say plan other core ≡ false
  separate-unsaid j other there differs =
      let apart : same_core other.id core.id ≡ false = ap (same_core other.id) same ∙ differs in
      let halts = fails-at (has_operation halts_all) plan.cores j other parts.unhalted there in
      let elsewhere = fails-at (λ (o : Core). not (same_core o.id core.id) && names_object (is_on core.id) o) plan.cores j other parts.unnamed there in
      let shared = no-number lock_of (both_name other core) 0 (length plan.spinlocks) (λ n lt. and_right _ _ (no-spinlock (lock_of n))) in
      or_from _ _ (or_from _ _ (or_from _ _ halts (rw apart at elsewhere)) (unnamed other.id apart)) shared

pub separate-group : (plan : Plan) (id : CoreId) (cores : CoreSet) → IsTrue (is_within_limits plan) → is_separate plan id ≡ true → HasOne id cores → is_group plan cores ≡ true
separate-group plan id cores limits is one = group-from plan cores (record { configured = there-is; closed = alone })
  where
    found-at : (i : ℕ) (c : Core) → slice_get plan.cores i ≡ Some c → core_of plan c.id ≡ Some c
    found-at i c there = recursion-at (IsFound plan.cores) plan.cores i c (each-found plan.cores (limit-parts plan limits).distinct) there

    there-is : (k : CoreId) → has_core cores k ≡ true → is_some (core_of plan k) ≡ true
    there-is k inside = ap (λ (i : CoreId). is_some (core_of plan i)) (same_core-true k id (sym (one k) ∙ inside)) ∙ by (core_of plan id) is
      where
        by : (o : Option Core) → option_map_or (is_separate_core plan) o false ≡ true → is_some o ≡ true
        by None e = e
        by (Some c) e = refl

    alone : (c o : Core) (i j : ℕ) → slice_get plan.cores i ≡ Some c → slice_get plan.cores j ≡ Some o → has_core cores c.id ≡ true → has_say plan o c ≡ true → has_core cores o.id ≡ true
    alone c o i j here there inside says =
        let same = same_core-true c.id id (sym (one c.id) ∙ inside) in
        let found : core_of plan id ≡ Some c = ap (core_of plan) (sym same) ∙ found-at i c here in
        let separate : is_separate_core plan c ≡ true = rw found at is in
        one o.id ∙ true_from_ne_false _ (λ differs. false≢true (sym (separate-unsaid plan id limits c (passes-at (is_core_known plan) plan.cores i c (limit-parts plan limits).known here) same (configured-low plan id limits (ap is_some found)) separate j o there differs) ∙ says))
