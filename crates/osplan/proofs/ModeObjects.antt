-- The objects that all cores have in common, the application modes: they are under a number that no configured core
-- has.
use Rattle.std.proofs.Common.{IsTrue, List, None, Option, Some, [], arith, codes, false, length, nat_lt, refl, slice_get, suc, true, unwrap_or, zero, ℕ, ◌<◌, ◌∷◌, ◌≡◌}
use Rattle.std.specs.{List.list_all, Option.option_map_or, Str.bytes_eq}
use Rattle.std.proofs.lemmas.Bool.{and_parts, eqb-true, ltb-true}
use Rattle.osbase.specs.{History.same_core, Names.is_name, Objects.mode_object, Objects.mode_of, Objects.mode_place, Objects.object_at, declared.objects.ObjectKind.ObjectKind, declared.objects.Place.Place, declared.objects.TheConstants.NOBODY, declared.references.ModeId.ModeId}
use Rattle.osbase.proofs.Same.{same_core-true}
use Rattle.osplan.specs.{declared.plans.Core.Core, declared.plans.Plan.Plan, Representable.dont_care, Representable.is_representable, Representable.is_mode_representable, Names.name_of, Names.name_of_mode, Limits.core_sizes, Limits.is_core_within, Limits.is_mode, Limits.is_object, Objects.common_names, Objects.has_index, Objects.is_common, Objects.object_count, View.core_of}
use Rattle.osplan.proofs.{Tests.find-holds, Tests.find-passes, Within.fits, Within.text-parts}

pub nobody : (plan : Plan) → list_all (λ (c : Core). is_core_within (core_sizes plan c)) plan.cores ≡ true → core_of plan NOBODY ≡ None
nobody plan within = by (core_of plan NOBODY) refl
  where
    by : (o : Option Core) → core_of plan NOBODY ≡ o → o ≡ None
    by None e = refl
    by (Some core) e =
        let low : core.id.number < 16 = ltb-true core.id.number 16 (fits plan core (find-passes (λ (c : Core). same_core c.id NOBODY) (λ (c : Core). is_core_within (core_sizes plan c)) plan.cores core within e)).number in
        absurd (omega (arith, low, eqb-true core.id.number 255 (find-holds (λ (c : Core). same_core c.id NOBODY) plan.cores core e)))

-- If no core has objects of its kind, an object of the configuration is on no core, and is one of those that all cores
-- have in common.
pub common-there : (plan : Plan) (kind : ObjectKind) (place : Place) → ((core : Core) → object_count kind core ≡ 0) → is_object plan (object_at kind place) ≡ true
    → (place.core ≡ NOBODY) × (nat_lt place.index (length (common_names kind plan)) ≡ true)
common-there plan kind place none is = by (core_of plan place.core) is
  where
    by : (o : Option Core) → option_map_or (λ (c : Core). has_index c (object_at kind place)) o (is_common plan (object_at kind place)) ≡ true → (place.core ≡ NOBODY) × (nat_lt place.index (length (common_names kind plan)) ≡ true)
    by None there = let parts = and_parts (same_core place.core NOBODY) (nat_lt place.index (length (common_names kind plan))) there in (same_core-true place.core NOBODY parts.0, parts.1)
    by (Some core) there = absurd (omega (arith, none core, ltb-true place.index (object_count kind core) there))

-- A mode that is an object of the configuration is one of its modes, and on no core.
pub mode-there : (plan : Plan) (place : Place) → is_object plan (object_at ObjectKind.Mode place) ≡ true → (place.core ≡ NOBODY) × (is_mode plan (mode_of place) ≡ true)
mode-there plan place is = common-there plan ObjectKind.Mode place (λ core. refl) is

-- Each mode of the configuration is an object of it, with the mode's name.
module _ (plan : Plan) (alone : core_of plan NOBODY ≡ None) where
  pub there-mode : (mode : ModeId) → is_mode plan mode ≡ true → is_object plan (mode_object mode) ≡ true
  there-mode mode is = rw alone is

  pub mode-named : (mode : ModeId) → name_of plan ObjectKind.Mode (mode_place mode) ≡ name_of_mode plan mode
  mode-named mode = rw alone refl

-- ---- the name of a mode is in form, and refers to nothing else

pub record ModeNamed (name : List ℕ) : Type 0 where
  pub in_form : is_name name ≡ true
  pub not_any : bytes_eq name dont_care ≡ false
  pub not_conflict : bytes_eq name (codes "conflict") ≡ false
  pub not_none : bytes_eq name (codes "none") ≡ false

name-at : (names : List (List ℕ)) (i : ℕ) → list_all is_mode_representable names ≡ true → i < length names → is_mode_representable (unwrap_or (slice_get names i) []) ≡ true
name-at [] i all lt = absurd (omega (arith, lt))
name-at (name ∷ names) zero all lt = (and_parts (is_mode_representable name) _ all).0
name-at (name ∷ names) (suc i) all lt = name-at names i (and_parts (is_mode_representable name) _ all).1 (omega (arith, lt))

pub mode-said : (plan : Plan) → IsTrue (is_representable plan) → (mode : ModeId) → is_mode plan mode ≡ true → ModeNamed (name_of_mode plan mode)
mode-said plan said mode is =
    let told = name-at plan.modes mode.index (text-parts plan said).modes (ltb-true mode.index (length plan.modes) is) in
    grind arith
