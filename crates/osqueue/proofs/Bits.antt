-- One bit of a word.
use Rattle.std.proofs.Common.{◌≡◌, inl, inr, ℕ, suc, ◌*◌, ◌/◌, ◌%◌, ◌^◌, ◌≤◌, ◌<◌, nat_eq, Bool, cond, min, refl, ap, sym, ◌∙◌, arith}
use Rattle.std.specs.{Int.bit_at, Int.bit_not, Int.Bits.bit_and, Int.w32}
use Rattle.std.proofs.lemmas.Bool.{cases_eq, cases_lt, eq-eqb, ne_eqb}
use Rattle.std.proofs.{lemmas.Nat.and_le_l, Math.Nat.div-eq_of_lt-le, Math.Nat.pow-succ'}
use Rattle.std.proofs.lemmas.Nat.Bits.{bit_at_above, bit_at_and, bit_at_clear_other, bit_at_clear_same}

pub clear-other : (n k q : ℕ) → n < 2 ^ 32 → k < 32 → (q ≡ k → ⊥) → bit_at (bit_and n (bit_not w32 (1 * 2 ^ k % 2 ^ 32))) q ≡ bit_at n q
clear-other n k q word within other = elim (cases_lt q 32) [
  | inl h ↦ bit_at_clear_other w32 n k within q h other
  | inr h ↦ (
      let none : bit_at n q ≡ 0 = bit_at_above n 32 q word h in
      let least : bit_at (bit_and n (bit_not w32 (1 * 2 ^ k % 2 ^ 32))) q ≡ min (bit_at n q) (bit_at (bit_not w32 (1 * 2 ^ k % 2 ^ 32)) q) = bit_at_and n (bit_not w32 (1 * 2 ^ k % 2 ^ 32)) q in
      omega (arith, none, least))
]

pub clear-fewer : (n k : ℕ) → k < 32 → bit_at n k ≡ 1 → bit_and n (bit_not w32 (1 * 2 ^ k % 2 ^ 32)) < n
clear-fewer n k within set = elim (cases_eq (bit_and n (bit_not w32 (1 * 2 ^ k % 2 ^ 32))) n) [
  | inl same ↦ absurd (omega (arith, bit_at_clear_same w32 n k within, ap (λ (m : ℕ). bit_at m k) same, set))
  | inr other ↦ omega (arith, and_le_l n (bit_not w32 (1 * 2 ^ k % 2 ^ 32)), other)
]

pub top-set : (n k : ℕ) → 2 ^ k ≤ n → n < 2 * 2 ^ k → bit_at n k ≡ 1
top-set n k low high =
    let one : n / 2 ^ k ≡ 1 = div-eq_of_lt-le {k = 1} (2 ^ k) {m = n} (omega (arith, low)) (omega (arith, high)) in
    ap (λ (m : ℕ). m % 2) one

pub above-top : (n k q : ℕ) → n < 2 * 2 ^ k → k < q → bit_at n q ≡ 0
above-top n k q high above = bit_at_above n (suc k) q (omega (arith, high, pow-succ' 2 k)) (omega (arith, above))

-- ---- a word whose bits are those of another but for one

module _ (word new p v : ℕ) where
  pub changed : bit_at new p ≡ v → ((q : ℕ) → (q ≡ p → ⊥) → bit_at new q ≡ bit_at word q) → (q : ℕ) → bit_at new q ≡ cond (nat_eq q p) v (bit_at word q)
  changed here others q = elim (cases_eq q p) [
    | inl same ↦ ap (bit_at new) same ∙ here ∙ sym (ap (λ (b : Bool). cond b v (bit_at word q)) (eq-eqb q p same))
    | inr other ↦ others q other ∙ sym (ap (λ (b : Bool). cond b v (bit_at word q)) (ne_eqb q p other))
  ]

  module _ (each : (q : ℕ) → bit_at new q ≡ cond (nat_eq q p) v (bit_at word q)) where
    pub changed-here : bit_at new p ≡ v
    changed-here = each p ∙ ap (λ (b : Bool). cond b v (bit_at word p)) (eq-eqb p p refl)

    pub changed-others : (q : ℕ) → (q ≡ p → ⊥) → bit_at new q ≡ bit_at word q
    changed-others q other = each q ∙ ap (λ (b : Bool). cond b v (bit_at word q)) (ne_eqb q p other)
