-- The value at which an alarm is due, as a function of the counts so far.
use Rattle.std.proofs.Common.{◌≡◌, ℕ, zero, suc, ◌+◌, ◌-◌, ◌<◌, ◌≤◌, ◌%◌, nat_eq, nat_le, nat_lt, Bool, true, false, true≢false, cond, ◌&&◌, ◌||◌, Option, Some, None, is_some, option_map, refl, sym, ap, ◌∙◌, arith}
use Rattle.std.specs.Option.{option_map_or}
use Rattle.std.proofs.Math.Nat.{mod-lt}
use Rattle.std.proofs.lemmas.Bool.{and_parts, false≢true, eqb-true, leb-true, leb-false, lt-ltb, ltb-false, ltb-true, or_right}
use Rattle.osbase.specs.Counting.{AlarmSetting, counts_left, counts_to, is_due, is_due_count, is_granted, is_in_turn, is_in_use, left_of, one_count_more, will_be_due}
use Rattle.oscount.specs.{declared.counters.Counter.Counter, declared.alarms.Expiry.Expiry, declared.alarms.Alarm.Alarm}
use Rattle.oscount.specs.Clocks.{advanced, alarm_at, counter_at, counts_until, due_again, expiry_at, expiry_beyond, is_due_next, is_next_value, setting_of, wrapped}
use Rattle.oscount.proofs.Turns.{further-mod, next-alone, wrapped-mod}
use Rattle.oscount.proofs.Settings.{cycle-then, due-then, left-least, left-most, left-then, over-then, spent}

-- the counter one count later
pub counted : (max count : ℕ) → advanced (counter_at max count) ≡ counter_at max (suc count)
counted max count = ap (λ v. record { max = max; value = v }) (whole ∙ ap (λ n. n % suc max) one)
  where
    next : suc (count % suc max) ≡ count % suc max + 1
    next = omega arith

    whole : wrapped max (suc (count % suc max)) ≡ (count + 1) % suc max
    whole = ap (wrapped max) next ∙ further-mod max count 1 (omega arith)

    one : count + 1 ≡ suc count
    one = omega arith

positive : (n : ℕ) → nat_eq n 0 ≡ false → 0 < n
positive zero e = absurd (true≢false e)
positive (suc n) e = omega arith

record InTurn (max : ℕ) (x : AlarmSetting) : Type 0 where
  later : 0 < x.first
  first : x.first ≤ suc max
  cycle : x.cycle ≤ max

turn-of : (max : ℕ) (x : AlarmSetting) → is_in_turn max x ≡ true → InTurn max x
turn-of max x e =
    let outer : ((nat_lt 0 x.first && nat_le x.first (suc max)) ≡ true) × (nat_le x.cycle max ≡ true) = and_parts (nat_lt 0 x.first && nat_le x.first (suc max)) (nat_le x.cycle max) e in
    let inner : (nat_lt 0 x.first ≡ true) × (nat_le x.first (suc max) ≡ true) = and_parts (nat_lt 0 x.first) (nat_le x.first (suc max)) outer.0 in
    record { later = ltb-true 0 x.first inner.0; first = leb-true x.first (suc max) inner.1; cycle = leb-true x.cycle max outer.1 }

-- the value of an alarm that will be due
abbrev value-of : ℕ → ℕ → AlarmSetting → Option Expiry
value-of max count x = Some (record { value = (count + counts_left x) % suc max; cycle = x.cycle })

abbrev kept-of : (max count : ℕ) (x : AlarmSetting) → Bool → Bool → Option Expiry
kept-of max count x turn due = cond (turn && due) (value-of max count x) None

-- an alarm's value is the counter's next value exactly if one count is left
next-is : (max count : ℕ) (x : AlarmSetting) → InTurn max x → will_be_due x ≡ true → nat_eq ((count + counts_left x) % suc max) (wrapped max (suc (count % suc max))) ≡ nat_eq (counts_left x) 1
next-is max count x turn due =
    let below : count % suc max < suc max = mod-lt count (omega arith) in
    let most : counts_left x ≤ suc max = left-most max x turn.first turn.cycle in
    ap (λ v. nat_eq v (wrapped max (suc (count % suc max)))) (sym (further-mod max count (counts_left x) most))
    ∙ next-alone max (count % suc max) (counts_left x) (omega (arith, below)) (left-least x due) most

pub beyond : (max count : ℕ) (x : Option AlarmSetting) → expiry_beyond (counter_at max count) (expiry_at max count x) ≡ expiry_at max (suc count) (option_map one_count_more x)
beyond max count None = refl
beyond max count (Some x) = by (is_in_turn max x) (will_be_due x) refl refl
  where
    later : ℕ
    later = wrapped max (suc (count % suc max))

    of : InTurn max x → will_be_due x ≡ true → (last : Bool) → nat_eq (counts_left x) 1 ≡ last
        → cond last (due_again (counter_at max count) (record { value = (count + counts_left x) % suc max; cycle = x.cycle })) (value-of max count x) ≡ cond (will_be_due (one_count_more x)) (value-of max (suc count) (one_count_more x)) None
    of turn due false e =
        let then : (will_be_due (one_count_more x) ≡ true) × (counts_left x ≡ suc (counts_left (one_count_more x))) = left-then x due e in
        let same : count + counts_left x ≡ suc count + counts_left (one_count_more x) = omega (arith, then.1) in
        ap (λ n. Some (record { value = n % suc max; cycle = x.cycle })) same ∙ ap (λ b. cond b (value-of max (suc count) (one_count_more x)) None) (sym then.0)
    of turn due true e = again (nat_eq x.cycle 0) refl
      where
        again : (none : Bool) → nat_eq x.cycle 0 ≡ none
            → cond none None (Some (record { value = wrapped max ((count + counts_left x) % suc max + x.cycle); cycle = x.cycle })) ≡ cond (will_be_due (one_count_more x)) (value-of max (suc count) (one_count_more x)) None
        again true f = ap (λ b. cond b (value-of max (suc count) (one_count_more x)) None) (sym (over-then x due e (ltb-zero f)))
          where
            ltb-zero : nat_eq x.cycle 0 ≡ true → nat_lt 0 x.cycle ≡ false
            ltb-zero g = ap (nat_lt 0) (eqb-true x.cycle 0 g)
        again false f =
            let some : 0 < x.cycle = positive x.cycle f in
            let one : counts_left x ≡ 1 = eqb-true (counts_left x) 1 e in
            let left : counts_left (one_count_more x) ≡ x.cycle = cycle-then x due e some in
            let within : x.cycle ≤ suc max = omega (arith, turn.cycle) in
            let same : count + counts_left x + x.cycle ≡ suc count + counts_left (one_count_more x) = omega (arith, one, left) in
            ap (λ n. Some (record { value = n; cycle = x.cycle })) (further-mod max (count + counts_left x) x.cycle within ∙ ap (λ n. n % suc max) same)
            ∙ ap (λ b. cond b (value-of max (suc count) (one_count_more x)) None) (sym (ap (λ b. b || nat_lt (suc x.counts) x.first) (lt-ltb 0 x.cycle some)))

    by : (turn due : Bool) → is_in_turn max x ≡ turn → will_be_due x ≡ due → expiry_beyond (counter_at max count) (kept-of max count x turn due) ≡ kept-of max (suc count) (one_count_more x) turn (will_be_due (one_count_more x))
    by false due e f = refl
    by true false e f = ap (kept-of max (suc count) (one_count_more x) true) (sym (spent x f).0)
    by true true e f = ap (λ b. cond b (due_again (counter_at max count) (record { value = (count + counts_left x) % suc max; cycle = x.cycle })) (value-of max count x)) (next-is max count x (turn-of max x e) f) ∙ of (turn-of max x e) f (nat_eq (counts_left x) 1) refl

-- whether the alarm is due at the next value
pub next-due : (max count : ℕ) (x : Option AlarmSetting) → is_granted max x ≡ true → is_due_next (counter_at max count) (alarm_at max count x) ≡ is_due (option_map one_count_more x)
next-due max count None granted = refl
next-due max count (Some x) granted = by (is_in_turn max x) (will_be_due x) granted refl
  where
    by : (turn due : Bool) → turn ≡ true → will_be_due x ≡ due
        → option_map_or (λ (e : Expiry). nat_eq e.value (wrapped max (suc (count % suc max)))) (kept-of max count x turn due) false ≡ is_due_count (one_count_more x)
    by false due e f = absurd (false≢true e)
    by true false e f = sym (spent x f).1
    by true true e f = next-is max count x (turn-of max x granted) f ∙ sym (due-then x f)

-- whether the alarm is in use
pub in-use : (max count : ℕ) (x : Option AlarmSetting) → is_granted max x ≡ true → is_some (expiry_at max count x) ≡ is_in_use x
in-use max count None granted = refl
in-use max count (Some x) granted = by (is_in_turn max x) (will_be_due x) granted
  where
    by : (turn due : Bool) → turn ≡ true → is_some (kept-of max count x turn due) ≡ due
    by false due e = absurd (false≢true e)
    by true false e = refl
    by true true e = refl

-- how many counts are left
pub left-is : (max count : ℕ) (x : Option AlarmSetting) → is_granted max x ≡ true → option_map (counts_until (counter_at max count)) (expiry_at max count x) ≡ left_of x
left-is max count None granted = refl
left-is max count (Some x) granted = by (is_in_turn max x) (will_be_due x) granted refl
  where
    until : (v left : ℕ) → v ≤ max → 1 ≤ left → left ≤ suc max → cond (nat_lt v (wrapped max (v + left))) (wrapped max (v + left) - v) (suc max + wrapped max (v + left) - v) ≡ left
    until v left value least most = at (nat_le (v + left) max) refl
      where
        less : (c : Bool) → nat_lt v (v + left) ≡ c → cond c (v + left - v) (suc max + (v + left) - v) ≡ left
        less true e = omega arith
        less false e = absurd (omega (arith, ltb-false v (v + left) e, least))

        more : suc max ≤ v + left → (c : Bool) → nat_lt v (v + left - suc max) ≡ c → cond c (v + left - suc max - v) (suc max + (v + left - suc max) - v) ≡ left
        more h true e = absurd (omega (arith, ltb-true v (v + left - suc max) e, most))
        more h false e = omega (arith, h)

        at : (b : Bool) → nat_le (v + left) max ≡ b
            → cond (nat_lt v (cond b (v + left) (v + left - suc max))) (cond b (v + left) (v + left - suc max) - v) (suc max + cond b (v + left) (v + left - suc max) - v) ≡ left
        at true e = less (nat_lt v (v + left)) refl
        at false e = more (omega (arith, leb-false (v + left) max e)) (nat_lt v (v + left - suc max)) refl

    by : (turn due : Bool) → turn ≡ true → will_be_due x ≡ due → option_map (counts_until (counter_at max count)) (kept-of max count x turn due) ≡ cond due (Some (counts_left x)) None
    by false due e f = absurd (false≢true e)
    by true false e f = refl
    by true true e f =
        let turn : InTurn max x = turn-of max x granted in
        let most : counts_left x ≤ suc max = left-most max x turn.first turn.cycle in
        let below : count % suc max < suc max = mod-lt count (omega arith) in
        ap (λ v. Some (cond (nat_lt (count % suc max) v) (v - count % suc max) (suc max + v - count % suc max))) (sym (further-mod max count (counts_left x) most))
        ∙ ap Some (until (count % suc max) (counts_left x) (omega (arith, below)) (left-least x f) most)

-- the expiry of an alarm that is set
pub as-set : (max count first cycle : ℕ) → is_in_turn max (setting_of first cycle) ≡ true → expiry_at max count (Some (setting_of first cycle)) ≡ Some (record { value = (count + first) % suc max; cycle = cycle })
as-set max count first cycle granted =
    ap (λ b. cond (b && will_be_due (setting_of first cycle)) (value-of max count (setting_of first cycle)) None) granted
    ∙ (ap (λ b. cond b (value-of max count (setting_of first cycle)) None) due ∙ ap (λ n. Some (record { value = (count + n) % suc max; cycle = cycle })) left)
  where
    less : nat_lt 0 first ≡ true
    less = lt-ltb 0 first (turn-of max (setting_of first cycle) granted).later

    due : will_be_due (setting_of first cycle) ≡ true
    due = or_right (nat_lt 0 cycle) (nat_lt 0 first) less

    whole : first - 0 ≡ first
    whole = omega arith

    left : counts_left (setting_of first cycle) ≡ first
    left = ap (λ b. cond b (first - 0) (cycle - (0 - first) % cycle)) less ∙ whole

-- the counts that lead to a value reach it
pub led-to : (max count start : ℕ) → start ≤ max → (count + counts_to max (count % suc max) start) % suc max ≡ start
led-to max count start within =
    sym (further-mod max count (counts_to max (count % suc max) start) (omega (arith, rest)))
    ∙ (ap (λ n. wrapped max (count % suc max + (n + 1))) (sym (wrapped-mod max (start + max - count % suc max) (omega (arith, within)))) ∙ at (count % suc max) (omega (arith, below)))
  where
    below : count % suc max < suc max
    below = mod-lt count (omega arith)

    rest : (start + max - count % suc max) % suc max < suc max
    rest = mod-lt (start + max - count % suc max) (omega arith)

    at : (v : ℕ) → v ≤ max → wrapped max (v + (wrapped max (start + max - v) + 1)) ≡ start
    at v value = by (nat_le (start + max - v) max) refl
      where
        behind : start + max - v ≤ max → (c : Bool) → nat_le (v + (start + max - v + 1)) max ≡ c → cond c (v + (start + max - v + 1)) (v + (start + max - v + 1) - suc max) ≡ start
        behind h true e = absurd (omega (arith, leb-true (v + (start + max - v + 1)) max e, value))
        behind h false e = omega (arith, value)

        ahead : max < start + max - v → (c : Bool) → nat_le (v + (start + max - v - suc max + 1)) max ≡ c → cond c (v + (start + max - v - suc max + 1)) (v + (start + max - v - suc max + 1) - suc max) ≡ start
        ahead h true e = omega (arith, h, value)
        ahead h false e = absurd (omega (arith, leb-false (v + (start + max - v - suc max + 1)) max e, h, within, value))

        by : (b : Bool) → nat_le (start + max - v) max ≡ b
            → wrapped max (v + (cond b (start + max - v) (start + max - v - suc max) + 1)) ≡ start
        by true e = behind (leb-true (start + max - v) max e) (nat_le (v + (start + max - v + 1)) max) refl
        by false e = ahead (omega (arith, leb-false (start + max - v) max e)) (nat_le (v + (start + max - v - suc max + 1)) max) refl

-- ---- a counter and an alarm that agree with the counts so far

value-is : (counter : Counter) (count : ℕ) → counter ≡ counter_at counter.max count → counter.value ≡ count % suc counter.max
value-is counter count is = ap (λ (c : Counter). c.value) is

pub counted-by : (counter : Counter) (count value : ℕ) → counter ≡ counter_at counter.max count → value ≡ wrapped counter.max (counter.value + 1) → record { max = counter.max; value = value } ≡ counter_at counter.max (suc count)
counted-by counter count value is next = ap (λ v. record { max = counter.max; value = v }) (next ∙ (ap (wrapped counter.max) one ∙ ap (λ (c : Counter). (advanced c).value) is')) ∙ counted counter.max count
  where
    one : counter.value + 1 ≡ suc counter.value
    one = omega arith

    is' : record { max = counter.max; value = counter.value } ≡ counter_at counter.max count
    is' = ap (λ v. record { max = counter.max; value = v }) (value-is counter count is)

pub beyond-by : (counter : Counter) (alarm : Alarm) (expiry : Expiry) (count : ℕ) (x : Option AlarmSetting) → counter ≡ counter_at counter.max count → alarm ≡ alarm_at counter.max count x → alarm.expiry ≡ Some expiry
    → expiry_beyond counter (Some expiry) ≡ expiry_at counter.max (suc count) (option_map one_count_more x)
beyond-by counter alarm expiry count x is at some =
    ap (expiry_beyond counter) (sym some ∙ ap (λ (a : Alarm). a.expiry) at) ∙ (ap (λ c. expiry_beyond c (expiry_at counter.max count x)) is ∙ beyond counter.max count x)

pub due-by : (counter : Counter) (alarm : Alarm) (expiry : Expiry) (count : ℕ) (x : Option AlarmSetting) → is_granted counter.max x ≡ true → counter ≡ counter_at counter.max count → alarm ≡ alarm_at counter.max count x → alarm.expiry ≡ Some expiry
    → nat_eq expiry.value (advanced counter).value ≡ is_due (option_map one_count_more x)
due-by counter alarm expiry count x granted is at some =
    ap (λ e. option_map_or (is_next_value counter) e false) (sym some ∙ ap (λ (a : Alarm). a.expiry) at)
    ∙ (ap (λ c. is_due_next c (alarm_at counter.max count x)) is ∙ next-due counter.max count x granted)

pub left-by : (counter : Counter) (alarm : Alarm) (expiry : Expiry) (count : ℕ) (x : Option AlarmSetting) → is_granted counter.max x ≡ true → counter ≡ counter_at counter.max count → alarm ≡ alarm_at counter.max count x → alarm.expiry ≡ Some expiry
    → Some (counts_until counter expiry) ≡ left_of x
left-by counter alarm expiry count x granted is at some =
    ap (option_map (counts_until counter)) (sym some ∙ ap (λ (a : Alarm). a.expiry) at)
    ∙ (ap (λ c. option_map (counts_until c) (expiry_at counter.max count x)) is ∙ left-is counter.max count x granted)

pub relative-by : (counter : Counter) (count first cycle value : ℕ) → counter ≡ counter_at counter.max count → is_in_turn counter.max (setting_of first cycle) ≡ true
    → value ≡ wrapped counter.max (counter.value + first) → record { expiry = Some (record { value = value; cycle = cycle }) } ≡ alarm_at counter.max count (Some (setting_of first cycle))
relative-by counter count first cycle value is granted same =
    ap (λ v. record { expiry = Some (record { value = v; cycle = cycle }) })
    (same ∙ (ap (λ v. wrapped counter.max (v + first)) (value-is counter count is) ∙ further-mod counter.max count first (turn-of counter.max (setting_of first cycle) granted).first))
    ∙ ap (λ e. record { expiry = e }) (sym (as-set counter.max count first cycle granted))

-- after this many counts the value is reached
pub reached-by : (counter : Counter) (count start left : ℕ) → counter ≡ counter_at counter.max count → start ≤ counter.max → left ≡ counts_to counter.max counter.value start
    → (count + left) % suc counter.max ≡ start
reached-by counter count start left is most same =
    ap (λ n. (count + n) % suc counter.max) (same ∙ ap (λ v. counts_to counter.max v start) (value-is counter count is)) ∙ led-to counter.max count start most
