-- Values modulo a turn of the counter.
use Rattle.std.proofs.Common.{◌≡◌, ℕ, suc, ◌+◌, ◌-◌, ◌<◌, ◌≤◌, ◌%◌, nat_eq, nat_le, Bool, true, false, cond, refl, sym, ap, ◌∙◌, arith}
use Rattle.std.proofs.Math.Nat.{add-mod_left, mod-add-mod, mod-eq_of_lt, mod-lt}
use Rattle.std.proofs.lemmas.Bool.{eq-eqb, eqb-true, leb-false, leb-true}
use Rattle.oscount.specs.Clocks.{wrapped}

-- if a value is less than a turn beyond the greatest, wrapping it gives its remainder
pub wrapped-mod : (max v : ℕ) → v < suc max + suc max → wrapped max v ≡ v % suc max
wrapped-mod max v below = by (nat_le v max) refl
  where
    by : (b : Bool) → nat_le v max ≡ b → cond b v (v - suc max) ≡ v % suc max
    by true e = sym (mod-eq_of_lt (omega (arith, leb-true v max e)))
    by false e =
        let whole : v ≡ suc max + (v - suc max) = omega (arith, leb-false v max e) in
        let small : v - suc max < suc max = omega (arith, leb-false v max e, below) in
        sym (ap (λ n. n % suc max) whole ∙ (add-mod_left (suc max) (v - suc max) ∙ mod-eq_of_lt small))

-- the value that is this many counts, at most a turn, further on
pub further-mod : (max count left : ℕ) → left ≤ suc max → wrapped max (count % suc max + left) ≡ (count + left) % suc max
further-mod max count left within =
    let below : count % suc max < suc max = mod-lt count (omega arith) in
    wrapped-mod max (count % suc max + left) (omega (arith, below, within)) ∙ mod-add-mod count (suc max) left

-- two tests of equality that hold together
pub same-test : (a b c d : ℕ) → (a ≡ b → c ≡ d) → (c ≡ d → a ≡ b) → nat_eq a b ≡ nat_eq c d
same-test a b c d there back = by (nat_eq a b) (nat_eq c d) refl refl
  where
    by : (x y : Bool) → nat_eq a b ≡ x → nat_eq c d ≡ y → x ≡ y
    by true true e f = refl
    by false false e f = refl
    by true false e f = sym (eq-eqb c d (there (eqb-true a b e))) ∙ f
    by false true e f = sym e ∙ eq-eqb a b (back (eqb-true c d f))

-- of the counts up to a turn, only one count leads to the next value
pub next-alone : (max v left : ℕ) → v ≤ max → 1 ≤ left → left ≤ suc max → nat_eq (wrapped max (v + left)) (wrapped max (suc v)) ≡ nat_eq left 1
next-alone max v left value least most = by (nat_le (v + left) max) (nat_le (suc v) max) refl refl
  where
    by : (b c : Bool) → nat_le (v + left) max ≡ b → nat_le (suc v) max ≡ c → nat_eq (cond b (v + left) (v + left - suc max)) (cond c (suc v) (suc v - suc max)) ≡ nat_eq left 1
    by true true e f = same-test (v + left) (suc v) left 1 (λ q. omega (arith, q)) (λ q. omega (arith, q))
    by true false e f = absurd (omega (arith, leb-true (v + left) max e, leb-false (suc v) max f, least))
    by false true e f = same-test (v + left - suc max) (suc v) left 1 (λ q. omega (arith, q, leb-false (v + left) max e, most)) (λ q. omega (arith, q, leb-false (v + left) max e, leb-true (suc v) max f))
    by false false e f = same-test (v + left - suc max) (suc v - suc max) left 1 (λ q. omega (arith, q, leb-false (v + left) max e, leb-false (suc v) max f, value)) (λ q. omega (arith, q))
