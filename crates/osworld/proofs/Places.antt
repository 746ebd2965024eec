-- The places of the cores' seats.
use Rattle.std.proofs.Common.{◌≡◌, ℕ, zero, suc, ◌+◌, ◌<◌, ◌≤◌, false, Option, Some, None, List, [], ◌∷◌, cond, nat_lt, not, length, get_or, set, slice_get, refl, sym, ap, ◌∙◌, arith, ◌⊎◌, inl, inr, get_or-set_other, length-set}
use Rattle.std.specs.List.{position, position_or_len}
use Rattle.std.proofs.{lemmas.Bool.cases_eq, lemmas.Bool.Decides.nat_tests, lemmas.Grind.get_or-set_at, lemmas.Option.slice_get-get_or}
use Rattle.osbase.specs.{declared.references.CoreId.CoreId, declared.limits.TheConstants.CORES, History.same_core}
use Rattle.osrun.specs.declared.core_runs.CoreRun.{CoreRun}
use Rattle.osworld.proofs.Listed.{is_seat_of}

abbrev pub place_by : List CoreRun → CoreId → Option ℕ
place_by core_runs core = position (is_seat_of core) core_runs

-- if a seat keeps its core, the places of all cores stay
first-kept : (core_runs : List CoreRun) (at : ℕ) (core_run new : CoreRun) (core : CoreId) → core_run ≡ get_or core_runs at core_run → new.id ≡ core_run.id → position_or_len (is_seat_of core) (set core_runs at new) ≡ position_or_len (is_seat_of core) core_runs
first-kept [] at core_run new core is same = refl
first-kept (s ∷ ss) zero core_run new core is same = ap (λ (id : CoreId). cond (not (same_core id core)) (1 + position_or_len (is_seat_of core) ss) 0) (same ∙ ap (λ (s : CoreRun). s.id) is)
first-kept (s ∷ ss) (suc at) core_run new core is same = ap (λ (n : ℕ). cond (not (same_core s.id core)) (1 + n) 0) (first-kept ss at core_run new core is same)

pub place_by-set : (core_runs : List CoreRun) (at : ℕ) (core_run new : CoreRun) (core : CoreId) → core_run ≡ get_or core_runs at core_run → new.id ≡ core_run.id → place_by (set core_runs at new) core ≡ place_by core_runs core
place_by-set core_runs at core_run new core is same = rw (first-kept core_runs at core_run new core is same, length-set) refl

-- no core numbered 16 or above has a seat
pub place-nowhere : (core : CoreId) (core_runs : List CoreRun) → CORES ≤ core.number → None ≡ place_by core_runs core
place-nowhere core core_runs big = rw (past core_runs) (rw (not_below (length core_runs)) refl)
  where
    not_below : (n : ℕ) → nat_lt n n ≡ false
    not_below n = grind (arith, nat_tests)

    apart : (id : CoreId) → id.number < CORES → same_core id core ≡ false
    apart id small = grind (arith, nat_tests)

    past : (core_runs : List CoreRun) → position_or_len (is_seat_of core) core_runs ≡ length core_runs
    past [] = refl
    past (s ∷ ss) = rw (apart s.id s.known) (ap (λ (n : ℕ). 1 + n) (past ss) ∙ omega arith)

-- For each core whose number is below a bound, the table has its place.
abbrev pub ArePlaces : ℕ → List (Option ℕ) → List CoreRun → Type 0
ArePlaces below places core_runs = (core : CoreId) → core.number < below → slice_get places core.number ≡ Some (place_by core_runs core)

pub places-more : (places : List (Option ℕ)) (core_runs : List CoreRun) (n i : ℕ) (place : Option ℕ) → i ≡ n → n < length places → place ≡ place_by core_runs (record { number = n }) → ArePlaces n places core_runs → ArePlaces (n + 1) (set places i place) core_runs
places-more places core_runs n i place at within is are core below = by (cases_eq core.number n)
  where
    now : List (Option ℕ)
    now = set places i place

    by : (core.number ≡ n) ⊎ (core.number ≡ n → ⊥) → slice_get now core.number ≡ Some (place_by core_runs core)
    by (inl same) =
        slice_get-get_or now core.number None (omega (arith, same, within, length-set places i place))
        ∙ ap Some (get_or-set_at places i core.number place None (same ∙ sym at) (omega (arith, at, within)) ∙ is ∙ ap (λ (k : ℕ). place_by core_runs (record { number = k })) (sym same))
    by (inr other) =
        slice_get-get_or now core.number None (omega (arith, below, within, length-set places i place))
        ∙ ap Some (get_or-set_other places i core.number place None (λ here. other (here ∙ at)))
        ∙ sym (slice_get-get_or places core.number None (omega (arith, below, within))) ∙ are core (omega (arith, below, other))
