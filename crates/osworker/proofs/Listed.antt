-- The listed cores are the configured ones.
use Rattle.std.proofs.Common.{◌≡◌, ◌<◌, ◌&&◌, ℕ, Bool, true, false, not, Some, None, is_some, IsSome, IsTrue, List, [], ◌∷◌, length, filter, refl, sym, ◌∙◌, arith}
use Rattle.std.specs.List.{AllByRecursion, slice_get}
use Rattle.std.proofs.lemmas.Bool.{both_ways, false_from_ne_true, false≢true, ne_eqb}
use Rattle.std.proofs.{Math.Bool.and-false, lemmas.Bool.Decides.nat_tests, lemmas.Option.slice_get_read}
use Rattle.osbase.specs.{declared.references.CoreId.CoreId, declared.limits.TheConstants.CORES, Sets.core_ids}
use Rattle.osbase.proofs.{Tables.table-at, Places.passes-at}
use Rattle.osplan.specs.{declared.plans.Plan.Plan, Limits.is_within_limits}
use Rattle.osplan.specs.View.{core_of, is_configured, view_of}
use Rattle.osplan.proofs.Numbered.{configured-low}
use Rattle.osstate.proofs.Begun.{is_some-core_of}
use Rattle.osshared.specs.Seats.{AllApart, has}
use Rattle.osshared.proofs.Steps.{same_core}
use Rattle.osmail.specs.Rings.{AreApart, IsApart}
use Rattle.osmail.proofs.Chosen.{chosen_cores}
use Rattle.osrun.specs.Fits.{ids_of}

-- Among all cores, the place of a core is its number.
pub at_number : (id : CoreId) → id.number < 16 → slice_get core_ids id.number ≡ Some id
at_number id low = slice_get_read core_ids 16 id.number id refl low (sym (table-at (λ (n : ℕ). let c : CoreId = record { number = n } in c) 0 CORES id.number id.number id (omega arith) low))

has-filter : (p : CoreId → Bool) (cs : List CoreId) (c : CoreId) → has (filter p cs) c ≡ (has cs c && p c)
has-filter p [] c = refl
has-filter p (d ∷ ds) c = let rest = has-filter p ds c in let same = same_core c d in grind (arith, nat_tests)

module _ (plan : Plan) where
  ids-have : (id : CoreId) → has (ids_of plan) id ≡ (has core_ids id && is_some (core_of plan id))
  ids-have id = has-filter (λ c. is_some (core_of plan c)) core_ids id

  -- a core that is not configured is not listed
  pub nobody-listed : (id : CoreId) → core_of plan id ≡ None → has (ids_of plan) id ≡ false
  nobody-listed id out = ids-have id ∙ rw out (and-false (has core_ids id))

  module _ (limits : IsTrue (is_within_limits plan)) (id : CoreId) where
    -- each configured core is listed
    listed : is_some (core_of plan id) ≡ true → has (ids_of plan) id ≡ true
    listed there =
        let known = passes-at (λ (c : CoreId). has core_ids c) core_ids id.number id refl (at_number id (configured-low plan id limits there)) in
        ids-have id ∙ rw (known, there)

    pub unlisted-unseen : (other : CoreId) → has (ids_of plan) id ≡ false → is_configured (view_of plan other) id ≡ false
    unlisted-unseen other out = sym (is_some-core_of id plan.cores) ∙ false_from_ne_true _ (λ there. both_ways _ out (listed there))

    -- If a core is configured, at least one core is listed.
    pub someone : IsSome (core_of plan id) → 0 < length (ids_of plan)
    someone there = by (ids_of plan) (listed there)
      where
        by : (ids : List CoreId) → has ids id ≡ true → 0 < length ids
        by [] listed = absurd (false≢true listed)
        by (c ∷ cs) listed = omega arith

-- no core is listed twice
has-apart : (c : CoreId) (cs : List CoreId) → AllByRecursion (IsApart c) cs → has cs c ≡ false
has-apart c [] apart = refl
has-apart c (d ∷ ds) apart = rw (ne_eqb c.number d.number apart.0) (has-apart c ds apart.1)

all-apart : (cs : List CoreId) → AreApart cs → AllApart cs
all-apart [] apart = tt
all-apart (c ∷ cs) apart = (has-apart c cs apart.0, all-apart cs apart.1)

pub ids-apart : (plan : Plan) → AllApart (ids_of plan)
ids-apart plan = all-apart (ids_of plan) (chosen_cores (λ c. is_some (core_of plan c))).1
