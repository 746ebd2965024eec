-- A bit that is set in a word is a flag that is set in one of its sets.
use Rattle.std.proofs.Common.{◌≡◌, ◌≢◌, ℕ, ◌+◌, ◌^◌, ◌<◌, true, false, length, set, get_or, max, bit_or, refl, sym, ◌∙◌, ⊎_elim, arith, length-set}
use Rattle.std.proofs.{lemmas.List.ext_get_or, lemmas.List.get_or-set_same, lemmas.List.get_or-set_other, lemmas.List.FromFn.length-map-range_with_len, lemmas.List.FromFn.get_or-map-range_with_len, lemmas.Bool.cases_eq}
use Rattle.std.proofs.lemmas.Nat.Bits.{bit_at_or, bit_at-lt, bit_at-pow_other, bit_at-pow_same}
use Rattle.std.specs.Int.{bit_at}
use Rattle.osboard.specs.Words.{has_bit, flags_in}

-- the bit at a place is set, and the others stay
bit_comes : (n p : ℕ) → has_bit (bit_or n (2 ^ p)) p ≡ true
bit_comes n p = let e : max (bit_at n p) 1 ≡ 1 = omega (arith, bit_at-lt n p) in rw (bit_at_or, bit_at-pow_same, e) refl

bit_stays : (n p j : ℕ) → j ≢ p → has_bit (bit_or n (2 ^ p)) j ≡ has_bit n j
bit_stays n p j ne = let e : max (bit_at n j) 0 ≡ bit_at n j = omega arith in rw (bit_at_or, bit_at-pow_other p j ne, e) refl

module _ (count first : ℕ) where
  many : (word : ℕ) → length (flags_in count first word) ≡ count
  many word = length-map-range_with_len (λ k. has_bit word (first + k)) 0 count

  at_place : (word i : ℕ) → i < count → get_or (flags_in count first word) i false ≡ has_bit word (first + i)
  at_place word i lt = get_or-map-range_with_len (λ k. has_bit word (first + k)) 0 count i i false lt (omega arith)

  module _ (n p : ℕ) where
    same_flag : (i : ℕ) → i < count → first + i ≢ p → get_or (flags_in count first (bit_or n (2 ^ p))) i false ≡ get_or (flags_in count first n) i false
    same_flag i lt ne = at_place (bit_or n (2 ^ p)) i lt ∙ bit_stays n p (first + i) ne ∙ sym (at_place n i lt)

    -- a bit outside of a set does not change the set
    pub away : ((i : ℕ) → i < count → first + i ≢ p) → flags_in count first (bit_or n (2 ^ p)) ≡ flags_in count first n
    away ne = ext_get_or false _ _ (many _ ∙ sym (many n)) (λ i lt. let l : i < count = rw (many _) at lt in same_flag i l (ne i l))

    -- a bit of a set sets its flag
    pub here : (k : ℕ) → p ≡ first + k → k < count → flags_in count first (bit_or n (2 ^ p)) ≡ set (flags_in count first n) k true
    here k is lt = ext_get_or false _ _ (many _ ∙ sym (many n) ∙ sym (length-set (flags_in count first n) k true))
        (λ i there. let l : i < count = rw (many _) at there in ⊎_elim
        (λ (e : i ≡ k). rw (e, get_or-set_same (flags_in count first n) k true false (rw (many n) lt), at_place (bit_or n (2 ^ p)) k lt, ← is) (bit_comes n p))
        (λ ne. same_flag i l (λ e. ne (omega arith)) ∙ sym (get_or-set_other (flags_in count first n) k i true false ne))
        (cases_eq i k))
