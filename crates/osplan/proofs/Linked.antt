-- Of spinlocks that come after others: as many links as there are spinlocks are enough, and in a configuration within
-- its limits none comes after itself.
use Rattle.std.proofs.Common.{◌≡◌, ℕ, zero, suc, Bool, true, false, ◌||◌, Option, Some, None, List, [], ◌∷◌, length, slice_get, unwrap_or, inl, inr, refl, sym, ap, subst, ◌∙◌}
use Rattle.std.specs.{List.AllByRecursion, List.list_all, Option.option_map_or}
use Rattle.std.proofs.lemmas.Bool.{eqb-true, false_from_ne_true, false≢true, not-true, or_cases, or_left, or_right}
use Rattle.std.proofs.{lemmas.List.Elements.recursion_from_All, lemmas.List.Folds.list_all-map, lemmas.List.Sums.AllPass-from_list_all}
use Rattle.osbase.specs.{declared.references.SpinlockId.SpinlockId, Spins.same_spinlock}
use Rattle.osplan.specs.{declared.plans.Spinlock.Spinlock, Spinlocks.are_links_ordered, Spinlocks.comes_after, Spinlocks.is_link_ordered, Spinlocks.links_of, Spinlocks.next_in}
use Rattle.osplan.proofs.Rounds.{Stays, settled}

-- What holds of each link, and of a missing one, holds of the link of any spinlock.
at-link : (P : Option SpinlockId → Type 0) → P None → (links : List (Option SpinlockId)) (i : ℕ) → AllByRecursion P links → P (unwrap_or (slice_get links i) None)
at-link P none [] i all = none
at-link P none (o ∷ os) zero all = all.0
at-link P none (o ∷ os) (suc i) all = at-link P none os i all.1

module _ (links : List (Option SpinlockId)) where
  -- The spinlocks that `to` comes after, by at most `n` links.
  module _ (to : SpinlockId) where
    abbrev within : ℕ → SpinlockId → Bool
    within n from = comes_after links n from to

    -- what the first of the links decides
    abbrev by_link : ℕ → Option SpinlockId → Bool
    by_link zero o = false
    by_link (suc n) o = option_map_or (λ (next : SpinlockId). same_spinlock next to || within n next) o false

    at-next : (n : ℕ) (from : SpinlockId) → within n from ≡ by_link n (next_in links from)
    at-next zero from = refl
    at-next (suc n) from = refl

    none-next : (n : ℕ) → by_link n None ≡ false
    none-next zero = refl
    none-next (suc n) = refl

    step : (n m : ℕ) → ((next : SpinlockId) → within n next ≡ true → within m next ≡ true) → (o : Option SpinlockId) → by_link (suc n) o ≡ true → by_link (suc m) o ≡ true
    step n m imply None e = e
    step n m imply (Some next) e =
        elim (or_cases (same_spinlock next to) (within n next) e) as (λ _. (same_spinlock next to || within m next) ≡ true) [
          | inl here ↦ or_left (same_spinlock next to) (within m next) here
          | inr later ↦ or_right (same_spinlock next to) (within m next) (imply next later)
        ]

    more : (n : ℕ) (o : Option SpinlockId) → by_link n o ≡ true → by_link (suc n) o ≡ true
    more zero o e = absurd (false≢true e)
    more (suc n) o e = step n (suc n) (λ next later. more n (next_in links next) (sym (at-next n next) ∙ later)) o e

    same-within : (n : ℕ) → Stays by_link links n → (from : SpinlockId) → within (suc n) from ≡ within n from
    same-within n stays from = at-link (λ o. by_link (suc n) o ≡ by_link n o) (sym (none-next n)) links from.index stays ∙ sym (at-next n from)

    stays-on : (n : ℕ) → Stays by_link links n → (o : Option SpinlockId) → by_link (suc n) o ≡ by_link n o → by_link (suc (suc n)) o ≡ by_link (suc n) o
    stays-on n stays None same = refl
    stays-on n stays (Some next) same = ap (λ (b : Bool). same_spinlock next to || b) (same-within n stays next)

    pub enough : (n : ℕ) (from : SpinlockId) → comes_after links n from to ≡ true → comes_after links (length links) from to ≡ true
    enough zero from e = absurd (false≢true e)
    enough (suc n) from e = sym (same-within (length links) (settled by_link links more stays-on) from) ∙ step n (length links) (enough n) (next_in links from) e

  -- If no successor comes after itself, no spinlock does: what comes after another is a successor.
  module _ (ordered : are_links_ordered links ≡ true) where
    next-ordered : (from : SpinlockId) → is_link_ordered links (next_in links from) ≡ true
    next-ordered from = at-link (λ o. is_link_ordered links o ≡ true) refl links from.index (recursion_from_All _ links (AllPass-from_list_all (is_link_ordered links) links ordered))

    never-after : (to : SpinlockId) (n : ℕ) (from : SpinlockId) → comes_after links n from to ≡ true → comes_after links (length links) to to ≡ false
    never-after to zero from e = absurd (false≢true e)
    never-after to (suc n) from e = by (next_in links from) (next-ordered from) (never-after to n) e
      where
        by : (o : Option SpinlockId) → is_link_ordered links o ≡ true → ((next : SpinlockId) → comes_after links n next to ≡ true → comes_after links (length links) to to ≡ false) → by_link to (suc n) o ≡ true → comes_after links (length links) to to ≡ false
        by None fits later e = absurd (false≢true e)
        by (Some next) fits later e =
            elim (or_cases (same_spinlock next to) (comes_after links n next to) e) as (λ _. comes_after links (length links) to to ≡ false) [
              | inl here ↦ subst (λ (i : ℕ). let l : SpinlockId = record { index = i } in comes_after links (length links) l l ≡ false) (eqb-true next.index to.index here) (not-true _ fits)
              | inr rest ↦ later next rest
            ]

    pub never-itself : (l : SpinlockId) → comes_after links (length links) l l ≡ false
    never-itself l = false_from_ne_true _ (λ e. false≢true (sym (never-after l (length links) l e) ∙ e))

-- All links are ordered exactly if the link of each spinlock is.
pub all_links : (spinlocks : List Spinlock) → are_links_ordered (links_of spinlocks) ≡ list_all (λ (spinlock : Spinlock). is_link_ordered (links_of spinlocks) spinlock.next) spinlocks
all_links spinlocks = list_all-map (is_link_ordered (links_of spinlocks)) (λ (spinlock : Spinlock). spinlock.next) spinlocks
