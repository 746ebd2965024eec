-- An alarm as it was set, one count later.
use Rattle.std.proofs.Common.{◌≡◌, ℕ, suc, ◌+◌, ◌-◌, ◌<◌, ◌≤◌, ◌%◌, nat_eq, nat_lt, Bool, true, false, true≢false, cond, ◌&&◌, ◌||◌, refl, sym, ap, ◌∙◌, arith}
use Rattle.std.proofs.Math.Nat.{mod-add-mod, mod-eq_of_lt, mod-lt, mod_self, suc-mod, zero-mod}
use Rattle.std.proofs.lemmas.Bool.{eq-eqb, eqb-true, lt-ltb, ltb-false, ltb-true, or_left, or_right}
use Rattle.osbase.specs.Counting.{AlarmSetting, counts_left, is_due_count, one_count_more, will_be_due}
use Rattle.oscount.specs.Laws.{counts_later}
use Rattle.oscount.proofs.Turns.{same-test}

clash : {b : Bool} → b ≡ false → b ≡ true → ⊥
clash a b = true≢false (sym b ∙ a)

-- before the end of a cycle, one count more adds one to what has passed of the cycle
pub rest-on : (d y : ℕ) → 0 < y → nat_eq (y - d % y) 1 ≡ false → suc d % y ≡ suc (d % y)
rest-on d y some e =
    let below : d % y < y = mod-lt d some in
    let apart : suc (d % y) < y = by (nat_lt (suc (d % y)) y) refl in
    suc-mod d y ∙ mod-eq_of_lt apart
  where
    by : (b : Bool) → nat_lt (suc (d % y)) y ≡ b → suc (d % y) < y
    by true f = ltb-true (suc (d % y)) y f
    by false f =
        let below : d % y < y = mod-lt d some in
        let one : y - d % y ≡ 1 = omega (arith, below, ltb-false (suc (d % y)) y f) in
        absurd (clash e (eq-eqb (y - d % y) 1 one))

pub rest-over : (d y : ℕ) → 0 < y → nat_eq (y - d % y) 1 ≡ true → suc d % y ≡ 0
rest-over d y some e =
    let whole : suc (d % y) ≡ y = let below : d % y < y = mod-lt d some in let one : y - d % y ≡ 1 = eqb-true (y - d % y) 1 e in omega (arith, below, one) in
    suc-mod d y ∙ (ap (λ n. n % y) whole ∙ mod_self y)

-- ---- how many counts are left

-- an alarm that was due for the first time, and will be due, has a cycle
pub has-cycle : (x : AlarmSetting) → will_be_due x ≡ true → nat_lt x.counts x.first ≡ false → 0 < x.cycle
has-cycle x due e = by (nat_lt 0 x.cycle) refl
  where
    by : (b : Bool) → nat_lt 0 x.cycle ≡ b → 0 < x.cycle
    by true f = ltb-true 0 x.cycle f
    by false f = absurd (true≢false (sym due ∙ (ap (λ b. b || nat_lt x.counts x.first) f ∙ e)))

pub left-least : (x : AlarmSetting) → will_be_due x ≡ true → 1 ≤ counts_left x
left-least x due = by (nat_lt x.counts x.first) refl
  where
    by : (b : Bool) → nat_lt x.counts x.first ≡ b → 1 ≤ cond b (x.first - x.counts) (x.cycle - (x.counts - x.first) % x.cycle)
    by true e = let ahead : x.counts < x.first = ltb-true x.counts x.first e in omega (arith, ahead)
    by false e = let below : (x.counts - x.first) % x.cycle < x.cycle = mod-lt (x.counts - x.first) (has-cycle x due e) in omega (arith, below)

pub left-most : (max : ℕ) (x : AlarmSetting) → x.first ≤ suc max → x.cycle ≤ max → counts_left x ≤ suc max
left-most max x first cycle = by (nat_lt x.counts x.first)
  where
    by : (b : Bool) → cond b (x.first - x.counts) (x.cycle - (x.counts - x.first) % x.cycle) ≤ suc max
    by true = omega (arith, first)
    by false = omega (arith, cycle)

first-alone : (p q r s : Bool) → r ≡ false → (p || (q && r && s)) ≡ p
first-alone true q r s e = refl
first-alone false true r s e = ap (λ b. b && s) e
first-alone false false r s e = refl

second-alone : (p q r s : Bool) → p ≡ false → q ≡ true → r ≡ true → (p || (q && r && s)) ≡ s
second-alone false true true s d e f = refl
second-alone true q r s d e f = absurd (true≢false d)
second-alone false false r s d e f = absurd (true≢false (sym e))
second-alone false true false s d e f = absurd (true≢false (sym f))

not-less : (a b : ℕ) → b ≤ a → nat_lt a b ≡ false
not-less a b h = by (nat_lt a b) refl
  where
    by : (c : Bool) → nat_lt a b ≡ c → c ≡ false
    by false e = refl
    by true e = let less : a < b = ltb-true a b e in absurd (omega (arith, h, less))

not-same : (a b : ℕ) → b < a → nat_eq a b ≡ false
not-same a b h = by (nat_eq a b) refl
  where
    by : (c : Bool) → nat_eq a b ≡ c → c ≡ false
    by false e = refl
    by true e = let same : a ≡ b = eqb-true a b e in absurd (omega (arith, h, same))

-- one count later, the alarm is due exactly if one count was left
pub due-then : (x : AlarmSetting) → will_be_due x ≡ true → is_due_count (one_count_more x) ≡ nat_eq (counts_left x) 1
due-then x due = by (nat_lt x.counts x.first) refl
  where
    of : (c : Bool) → nat_lt x.counts x.first ≡ false → nat_eq (x.cycle - (x.counts - x.first) % x.cycle) 1 ≡ c → nat_eq (suc (x.counts - x.first) % x.cycle) 0 ≡ c
    of true e f = ap (λ n. nat_eq n 0) (rest-over (x.counts - x.first) x.cycle (has-cycle x due e) f)
    of false e f = ap (λ n. nat_eq n 0) (rest-on (x.counts - x.first) x.cycle (has-cycle x due e) f) ∙ not-same (suc ((x.counts - x.first) % x.cycle)) 0 (omega arith)

    by : (b : Bool) → nat_lt x.counts x.first ≡ b → is_due_count (one_count_more x) ≡ nat_eq (cond b (x.first - x.counts) (x.cycle - (x.counts - x.first) % x.cycle)) 1
    by true e =
        let ahead : x.counts < x.first = ltb-true x.counts x.first e in
        first-alone (nat_eq (suc x.counts) x.first) (nat_lt 0 x.cycle) (nat_lt x.first (suc x.counts)) (nat_eq ((suc x.counts - x.first) % x.cycle) 0) (not-less x.first (suc x.counts) (omega (arith, ahead)))
        ∙ same-test (suc x.counts) x.first (x.first - x.counts) 1 (λ q. omega (arith, q)) (λ q. omega (arith, q, ahead))
    by false e =
        let beyond : x.first ≤ x.counts = ltb-false x.counts x.first e in
        let whole : suc x.counts - x.first ≡ suc (x.counts - x.first) = omega (arith, beyond) in
        second-alone (nat_eq (suc x.counts) x.first) (nat_lt 0 x.cycle) (nat_lt x.first (suc x.counts)) (nat_eq ((suc x.counts - x.first) % x.cycle) 0)
        (not-same (suc x.counts) x.first (omega (arith, beyond))) (lt-ltb 0 x.cycle (has-cycle x due e)) (lt-ltb x.first (suc x.counts) (omega (arith, beyond)))
        ∙ (ap (λ n. nat_eq (n % x.cycle) 0) whole ∙ of (nat_eq (x.cycle - (x.counts - x.first) % x.cycle) 1) e refl)

-- if more than one count was left, one fewer is left after the next count
pub left-then : (x : AlarmSetting) → will_be_due x ≡ true → nat_eq (counts_left x) 1 ≡ false → (will_be_due (one_count_more x) ≡ true) × (counts_left x ≡ suc (counts_left (one_count_more x)))
left-then x due more = by (nat_lt x.counts x.first) refl more
  where
    by : (b : Bool) → nat_lt x.counts x.first ≡ b → nat_eq (cond b (x.first - x.counts) (x.cycle - (x.counts - x.first) % x.cycle)) 1 ≡ false
        → (will_be_due (one_count_more x) ≡ true) × (cond b (x.first - x.counts) (x.cycle - (x.counts - x.first) % x.cycle) ≡ suc (counts_left (one_count_more x)))
    by true e f =
        let ahead : x.counts < x.first = ltb-true x.counts x.first e in
        let still : suc x.counts < x.first = at (nat_lt (suc x.counts) x.first) refl in (
          or_right (nat_lt 0 x.cycle) (nat_lt (suc x.counts) x.first) (lt-ltb (suc x.counts) x.first still),
          (let less : x.first - x.counts ≡ suc (x.first - suc x.counts) = omega (arith, still) in less)
              ∙ ap (λ b. suc (cond b (x.first - suc x.counts) (x.cycle - (suc x.counts - x.first) % x.cycle))) (sym (lt-ltb (suc x.counts) x.first still)),
        )
      where
        at : (c : Bool) → nat_lt (suc x.counts) x.first ≡ c → suc x.counts < x.first
        at true g = ltb-true (suc x.counts) x.first g
        at false g =
            let ahead : x.counts < x.first = ltb-true x.counts x.first e in
            let one : x.first - x.counts ≡ 1 = omega (arith, ahead, ltb-false (suc x.counts) x.first g) in
            absurd (clash f (eq-eqb (x.first - x.counts) 1 one))
    by false e f =
        let beyond : x.first ≤ x.counts = ltb-false x.counts x.first e in
        let some : 0 < x.cycle = has-cycle x due e in
        let below : (x.counts - x.first) % x.cycle < x.cycle = mod-lt (x.counts - x.first) some in
        let whole : suc x.counts - x.first ≡ suc (x.counts - x.first) = omega (arith, beyond) in (
          or_left (nat_lt 0 x.cycle) (nat_lt (suc x.counts) x.first) (lt-ltb 0 x.cycle some),
          (let less : x.cycle - (x.counts - x.first) % x.cycle ≡ suc (x.cycle - suc ((x.counts - x.first) % x.cycle)) = omega (arith, below) in less)
              ∙ (ap (λ n. suc (x.cycle - n)) (sym (ap (λ n. n % x.cycle) whole ∙ rest-on (x.counts - x.first) x.cycle some f))
              ∙ ap (λ b. suc (cond b (x.first - suc x.counts) (x.cycle - (suc x.counts - x.first) % x.cycle))) (sym (not-less (suc x.counts) x.first (omega (arith, beyond))))),
        )

-- if one count was left, a cycle is left after the next count
pub cycle-then : (x : AlarmSetting) → will_be_due x ≡ true → nat_eq (counts_left x) 1 ≡ true → 0 < x.cycle → counts_left (one_count_more x) ≡ x.cycle
cycle-then x due last some = by (nat_lt x.counts x.first) refl last
  where
    all : x.cycle - 0 ≡ x.cycle
    all = omega arith

    by : (b : Bool) → nat_lt x.counts x.first ≡ b → nat_eq (cond b (x.first - x.counts) (x.cycle - (x.counts - x.first) % x.cycle)) 1 ≡ true → counts_left (one_count_more x) ≡ x.cycle
    by true e f =
        let one : x.first - x.counts ≡ 1 = eqb-true (x.first - x.counts) 1 f in
        let none : suc x.counts - x.first ≡ 0 = omega (arith, one) in
        ap (λ b. cond b (x.first - suc x.counts) (x.cycle - (suc x.counts - x.first) % x.cycle)) (not-less (suc x.counts) x.first (omega (arith, one)))
        ∙ (ap (λ n. x.cycle - n % x.cycle) none ∙ (ap (λ n. x.cycle - n) (zero-mod x.cycle) ∙ all))
    by false e f =
        let beyond : x.first ≤ x.counts = ltb-false x.counts x.first e in
        let whole : suc x.counts - x.first ≡ suc (x.counts - x.first) = omega (arith, beyond) in
        ap (λ b. cond b (x.first - suc x.counts) (x.cycle - (suc x.counts - x.first) % x.cycle)) (not-less (suc x.counts) x.first (omega (arith, beyond)))
        ∙ (ap (λ n. x.cycle - n) (ap (λ n. n % x.cycle) whole ∙ rest-over (x.counts - x.first) x.cycle some f) ∙ all)

-- without a cycle, an alarm is due only once
none-of : (a b : Bool) → (a || b) ≡ false → (a ≡ false) × (b ≡ false)
none-of false b e = (refl, e)
none-of true b e = absurd (true≢false e)

both-none : (a b : Bool) → a ≡ false → b ≡ false → (a || b) ≡ false
both-none a b d e = ap (λ c. c || b) d ∙ e

pub over-then : (x : AlarmSetting) → will_be_due x ≡ true → nat_eq (counts_left x) 1 ≡ true → nat_lt 0 x.cycle ≡ false → will_be_due (one_count_more x) ≡ false
over-then x due last none = by (nat_lt x.counts x.first) refl last
  where
    by : (b : Bool) → nat_lt x.counts x.first ≡ b → nat_eq (cond b (x.first - x.counts) (x.cycle - (x.counts - x.first) % x.cycle)) 1 ≡ true → will_be_due (one_count_more x) ≡ false
    by true e f =
        let one : x.first - x.counts ≡ 1 = eqb-true (x.first - x.counts) 1 f in
        both-none (nat_lt 0 x.cycle) (nat_lt (suc x.counts) x.first) none (not-less (suc x.counts) x.first (omega (arith, one)))
    by false e f = absurd (clash (both-none (nat_lt 0 x.cycle) (nat_lt x.counts x.first) none e) due)

pub spent : (x : AlarmSetting) → will_be_due x ≡ false → (will_be_due (one_count_more x) ≡ false) × (is_due_count (one_count_more x) ≡ false)
spent x e =
    let parts : (nat_lt 0 x.cycle ≡ false) × (nat_lt x.counts x.first ≡ false) = none-of (nat_lt 0 x.cycle) (nat_lt x.counts x.first) e in
    let beyond : x.first ≤ x.counts = ltb-false x.counts x.first parts.1 in (
      both-none (nat_lt 0 x.cycle) (nat_lt (suc x.counts) x.first) parts.0 (not-less (suc x.counts) x.first (omega (arith, beyond))),
      both-none (nat_eq (suc x.counts) x.first) (nat_lt 0 x.cycle && nat_lt x.first (suc x.counts) && nat_eq ((suc x.counts - x.first) % x.cycle) 0)
          (not-same (suc x.counts) x.first (omega (arith, beyond))) (ap (λ b. b && nat_lt x.first (suc x.counts) && nat_eq ((suc x.counts - x.first) % x.cycle) 0) parts.0),
    )

-- ---- the counts that are left are the fewest until the alarm is due

pub due-at-last : (x : AlarmSetting) → will_be_due x ≡ true → is_due_count (counts_later (counts_left x) x) ≡ true
due-at-last x due = by (nat_lt x.counts x.first) refl
  where
    first-same : (p q r s : Bool) → p ≡ true → (p || (q && r && s)) ≡ true
    first-same p q r s e = ap (λ b. b || (q && r && s)) e

    at : ℕ → Bool
    at left = is_due_count (counts_later left x)

    by : (b : Bool) → nat_lt x.counts x.first ≡ b → is_due_count (counts_later (cond b (x.first - x.counts) (x.cycle - (x.counts - x.first) % x.cycle)) x) ≡ true
    by true e =
        let ahead : x.counts < x.first = ltb-true x.counts x.first e in
        first-same (nat_eq (x.counts + (x.first - x.counts)) x.first) (nat_lt 0 x.cycle) (nat_lt x.first (x.counts + (x.first - x.counts))) (nat_eq ((x.counts + (x.first - x.counts) - x.first) % x.cycle) 0)
        (eq-eqb (x.counts + (x.first - x.counts)) x.first (omega (arith, ahead)))
    by false e =
        let beyond : x.first ≤ x.counts = ltb-false x.counts x.first e in
        let some : 0 < x.cycle = has-cycle x due e in
        let below : (x.counts - x.first) % x.cycle < x.cycle = mod-lt (x.counts - x.first) some in
        let left : ℕ = x.cycle - (x.counts - x.first) % x.cycle in
        let whole : x.counts + left - x.first ≡ x.counts - x.first + left = omega (arith, beyond) in
        second-alone (nat_eq (x.counts + left) x.first) (nat_lt 0 x.cycle) (nat_lt x.first (x.counts + left)) (nat_eq ((x.counts + left - x.first) % x.cycle) 0)
        (not-same (x.counts + left) x.first (omega (arith, beyond, below))) (lt-ltb 0 x.cycle some) (lt-ltb x.first (x.counts + left) (omega (arith, beyond, below)))
        ∙ eq-eqb ((x.counts + left - x.first) % x.cycle) 0
        (ap (λ n. n % x.cycle) whole ∙ (sym (mod-add-mod (x.counts - x.first) x.cycle left)
        ∙ (ap (λ n. n % x.cycle) (let turn : (x.counts - x.first) % x.cycle + left ≡ x.cycle = omega (arith, below) in turn) ∙ mod_self x.cycle)))

pub not-due-before : (x : AlarmSetting) → will_be_due x ≡ true → (n : ℕ) → 1 ≤ n → n < counts_left x → is_due_count (counts_later n x) ≡ false
not-due-before x due n least before = by (nat_lt x.counts x.first) refl before
  where
    apart : (a b : ℕ) → a < b → nat_eq a b ≡ false
    apart a b h = of (nat_eq a b) refl
      where
        of : (c : Bool) → nat_eq a b ≡ c → c ≡ false
        of false e = refl
        of true e = let same : a ≡ b = eqb-true a b e in absurd (omega (arith, h, same))

    by : (b : Bool) → nat_lt x.counts x.first ≡ b → n < cond b (x.first - x.counts) (x.cycle - (x.counts - x.first) % x.cycle) → is_due_count (counts_later n x) ≡ false
    by true e h =
        let short : x.counts + n < x.first = omega (arith, h) in
        first-alone (nat_eq (x.counts + n) x.first) (nat_lt 0 x.cycle) (nat_lt x.first (x.counts + n)) (nat_eq ((x.counts + n - x.first) % x.cycle) 0) (not-less x.first (x.counts + n) (omega (arith, short)))
        ∙ apart (x.counts + n) x.first short
    by false e h =
        let beyond : x.first ≤ x.counts = ltb-false x.counts x.first e in
        let some : 0 < x.cycle = has-cycle x due e in
        let whole : x.counts + n - x.first ≡ x.counts - x.first + n = omega (arith, beyond) in
        let short : (x.counts - x.first) % x.cycle + n < x.cycle = omega (arith, h) in
        second-alone (nat_eq (x.counts + n) x.first) (nat_lt 0 x.cycle) (nat_lt x.first (x.counts + n)) (nat_eq ((x.counts + n - x.first) % x.cycle) 0)
        (not-same (x.counts + n) x.first (omega (arith, beyond, least))) (lt-ltb 0 x.cycle some) (lt-ltb x.first (x.counts + n) (omega (arith, beyond, least)))
        ∙ (ap (λ m. nat_eq (m % x.cycle) 0) whole ∙ (ap (λ m. nat_eq m 0) (sym (mod-add-mod (x.counts - x.first) x.cycle n) ∙ mod-eq_of_lt short)
        ∙ not-same ((x.counts - x.first) % x.cycle + n) 0 (omega (arith, least))))
