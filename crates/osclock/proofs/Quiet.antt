-- For how many counts of a counter none of its alarms is due.
use Rattle.std.proofs.Common.{◌≡◌, ℕ, suc, ◌+◌, ◌-◌, ◌<◌, ◌≤◌, nat_eq, nat_lt, min, Bool, true, false, cond, All, IfSome, Option, Some, None, List, [], ◌∷◌, filter, length, take, get_or, refl, ap, sym, subst, ◌∙◌, arith}
use Rattle.std.specs.{List.slice_set, Option.option_map_or}
use Rattle.std.proofs.{Math.Nat.min-le_left, Math.Nat.min-le_right, lemmas.Bool.Decides.nat_tests}
use Rattle.std.proofs.lemmas.Bool.{eq-eqb, eqb-true, false_from_ne_true, false≢true, ltb-false, ltb-true}
use Rattle.std.proofs.lemmas.List.{get_or_past, get_or-set_other, get_or-set_same, set-get_or}
use Rattle.std.proofs.lemmas.List.Elements.{All-head, All-more, All-nil, All-same, All-tail, All-weaker}
use Rattle.osbase.specs.{declared.references.AlarmRef.AlarmRef, declared.references.CounterRef.CounterRef, History.Entry, History.Noted, History.CounterIncremented, Objects.counter_object, declared.limits.TheConstants.COUNTERS}
use Rattle.osplan.specs.{declared.plans.Core.Core, Objects.is_own_object}
use Rattle.osplan.proofs.Counters.{counter-other}
use Rattle.oscount.specs.{declared.alarms.Alarm.Alarm, declared.alarms.Expiry.Expiry, declared.counters.Counter.Counter}
use Rattle.oscount.specs.Clocks.{advanced, alarm_beyond, counts_until, due_again, expiry_beyond, is_due_next, is_next_value}
use Rattle.osclock.specs.Clocks.{AreClocks, AreQuiet, ClockState, IsQuiet, alarm_in, all_beyond, attached_to, clocks_by, counter_in, counter_ref, is_attached, no_counter, unset}
use Rattle.osclock.proofs.{Attached.attached-all, Attached.attached-own, Beyond.counted-is, Beyond.set-keeps, Law.after, Law.alarm-apart, Law.alarm-at, Places.counter-own}
use Rattle.osclock.proofs.Bounds.{counter-few, counter-inside, list-at, lists-length}

-- ---- one alarm

-- a count lowers the counts until an alarm is due by at most one, also from one turn to the next
fewer : (counter : Counter) (x : Expiry) → counts_until counter x ≤ suc (counts_until (advanced counter) x)
fewer counter x = grind (arith, nat_tests)

-- if an alarm is due at the next value, at most one count leads to it
next-one : (counter : Counter) (x : Expiry) → x.value ≡ (advanced counter).value → counts_until counter x ≤ 1
next-one counter x is = grind (arith, nat_tests)

one-less : (counts : ℕ) (counter : Counter) (alarm : Alarm) → IsQuiet counts counter alarm → IsQuiet (counts - 1) (advanced counter) alarm
one-less counts counter alarm quiet = by alarm.expiry quiet
  where
    by : (o : Option Expiry) → IfSome o (λ x. counts ≤ counts_until counter x - 1) → IfSome o (λ x. counts - 1 ≤ counts_until (advanced counter) x - 1)
    by None q = tt
    by (Some x) q = omega (arith, q, fewer counter x)

lesser-quiet : (few counts : ℕ) (counter : Counter) (alarm : Alarm) → few ≤ counts → IsQuiet counts counter alarm → IsQuiet few counter alarm
lesser-quiet few counts counter alarm less quiet = by alarm.expiry quiet
  where
    by : (o : Option Expiry) → IfSome o (λ x. counts ≤ counts_until counter x - 1) → IfSome o (λ x. few ≤ counts_until counter x - 1)
    by None q = tt
    by (Some x) q = omega (arith, q, less)

-- one that is not due at the next count is the same after it
not-next : (counts : ℕ) (counter : Counter) (x : Expiry) → 0 < counts → counts ≤ counts_until counter x - 1 → is_next_value counter x ≡ false
not-next counts counter x some quiet = false_from_ne_true (is_next_value counter x) (λ e. omega (arith, some, quiet, next-one counter x (eqb-true x.value (advanced counter).value e)))

not-due : (counts : ℕ) (counter : Counter) (alarm : Alarm) → 0 < counts → IsQuiet counts counter alarm → is_due_next counter alarm ≡ false
not-due counts counter alarm some quiet = by alarm.expiry quiet
  where
    by : (o : Option Expiry) → IfSome o (λ x. counts ≤ counts_until counter x - 1) → option_map_or (is_next_value counter) o false ≡ false
    by None q = refl
    by (Some x) q = not-next counts counter x some q

not-passed : (counts : ℕ) (counter : Counter) (alarm : Alarm) → 0 < counts → IsQuiet counts counter alarm → alarm_beyond counter alarm ≡ alarm
not-passed counts counter alarm some quiet = ap (λ (o : Option Expiry). let a : Alarm = record { expiry = o } in a) (by alarm.expiry quiet)
  where
    by : (o : Option Expiry) → IfSome o (λ x. counts ≤ counts_until counter x - 1) → expiry_beyond counter o ≡ o
    by None q = refl
    by (Some x) q = ap (λ (b : Bool). cond b (due_again counter x) (Some x)) (not-next counts counter x some q)

-- ---- the alarms of one counter

abbrev pub IsQuietIn : List Alarm → ℕ → Counter → AlarmRef → Type 0
IsQuietIn alarms counts counter a = IsQuiet counts counter (get_or alarms a.index unset)

pub none-due : (alarms : List Alarm) (counts : ℕ) (counter : Counter) (list : List AlarmRef) → 0 < counts → All (IsQuietIn alarms counts counter) list → [] ≡ filter (λ (a : AlarmRef). is_due_next counter (get_or alarms a.index unset)) list
none-due alarms counts counter [] some quiet = refl
none-due alarms counts counter (a ∷ list) some quiet =
    rw (not-due counts counter (get_or alarms a.index unset) some (All-head (IsQuietIn alarms counts counter) a list quiet)) (none-due alarms counts counter list some (All-tail (IsQuietIn alarms counts counter) a list quiet))

none-passed : (alarms : List Alarm) (counts : ℕ) (counter : Counter) (list : List AlarmRef) → 0 < counts → All (IsQuietIn alarms counts counter) list → alarms ≡ all_beyond counter list alarms
none-passed alarms counts counter [] some quiet = refl
none-passed alarms counts counter (a ∷ list) some quiet =
    rw (not-passed counts counter (get_or alarms a.index unset) some (All-head (IsQuietIn alarms counts counter) a list quiet), set-get_or alarms a.index unset) (none-passed alarms counts counter list some (All-tail (IsQuietIn alarms counts counter) a list quiet))

-- one more alarm moves on by one count
pub quiet-more : (alarms : List Alarm) (counts more : ℕ) (counter : Counter) (list : List AlarmRef) (i : ℕ) (none : AlarmRef) (alarm : Alarm) → i < length list → (get_or list i none).index < length alarms → All (IsQuietIn alarms counts counter) (take i list) → IsQuiet more counter alarm
    → All (IsQuietIn (slice_set alarms (get_or list i none).index alarm) (min counts more) counter) (take (i + 1) list)
quiet-more alarms counts more counter list i none alarm inside known before quiet =
    All-more IsQuietThen list i none inside
    (All-weaker (IsQuietIn alarms counts counter) IsQuietThen (λ a was. set-keeps (IsQuiet (min counts more) counter) alarms place alarm known here a.index (lesser-quiet (min counts more) counts counter (get_or alarms a.index unset) (min-le_left counts more) was)) (take i list) before)
    (rw (get_or-set_same alarms place alarm unset known) here)
  where
    place : ℕ
    place = (get_or list i none).index

    IsQuietThen : AlarmRef → Type 0
    IsQuietThen a = IsQuietIn (slice_set alarms place alarm) (min counts more) counter a

    here : IsQuiet (min counts more) counter alarm
    here = lesser-quiet (min counts more) more counter alarm (min-le_right counts more) quiet

-- ---- all alarms

-- a counter's value and its quiet counts change, and the alarms of the other counters stay the same
quiet-set : (quiet : List ℕ) (t : ClockState) (place counts : ℕ) (counter : Counter) (counters : List Counter) (alarms : List Alarm) → AreQuiet quiet t → place < length quiet → place < length t.counters → counters ≡ slice_set t.counters place counter
    → ((n : ℕ) → (n ≡ place → ⊥) → All (λ (a : AlarmRef). get_or alarms a.index unset ≡ alarm_in a t) (get_or t.attached n [])) → All (IsQuietIn alarms counts counter) (get_or t.attached place [])
    → AreQuiet (slice_set quiet place counts) (record { counters = counters; alarms = alarms; attached = t.attached })
quiet-set quiet t place counts counter counters alarms was inside known on others here = record { at = λ n. by n (nat_eq n place) refl }
  where
    by : (n : ℕ) (b : Bool) → nat_eq n place ≡ b → All (IsQuietIn alarms (get_or (slice_set quiet place counts) n 0) (get_or counters n no_counter)) (get_or t.attached n [])
    by n true e = rw (eqb-true n place e, on, get_or-set_same quiet place counts 0 inside, get_or-set_same t.counters place counter no_counter known) here
    by n false e =
        let other : n ≡ place → ⊥ = λ same. false≢true (sym e ∙ eq-eqb n place same) in
        rw (on, get_or-set_other quiet place n counts 0 other, get_or-set_other t.counters place n counter no_counter other) (λ k d within. rw (others n other k d within) (was.at n k d within))

-- a count of an own counter: `s` are the clocks before it, and `t` are their fields
module _ (core : Core) (c : CounterRef) (t s : ClockState) (same : t ≡ s) (clocks : AreClocks core s) (own : is_own_object core (counter_object c) ≡ true) (quiet : List ℕ) (all : length quiet ≡ COUNTERS) (was : AreQuiet quiet t) where
  abbrev counted : Entry
  counted = Noted (CounterIncremented c)

  abbrev before : Counter
  before = counter_in c t

  abbrev number : ℕ
  number = get_or quiet c.index 0

  inside : c.index < length quiet
  inside = omega (arith, all, counter-few core s c clocks own)

  known : c.index < length t.counters
  known = subst (λ (u : ClockState). c.index < length u.counters) (sym same) (counter-inside core s c clocks own)

  -- if the counter has quiet counts left, the count changes no alarm
  pub quiet-counted : (counter : Counter) (counters : List Counter) → counter ≡ counter_in c s → counters ≡ slice_set t.counters c.index (advanced counter) → 0 < number
      → (let u : ClockState = record { counters = counters; alarms = t.alarms; attached = t.attached } in u) ≡ clocks_by core counted s
  quiet-counted counter counters value on some =
      counted-is core c t s counter (get_or t.attached c.index []) counters t.alarms same clocks own value refl on
      (rw (value ∙ sym (ap (counter_in c) same)) (none-passed t.alarms number before (get_or t.attached c.index []) some (was.at c.index)))

  -- then its quiet counts go down by one
  pub quiet-on : (counter : Counter) (counters : List Counter) → counter ≡ counter_in c s → counters ≡ slice_set t.counters c.index (advanced counter)
      → AreQuiet (slice_set quiet c.index (number - 1)) (record { counters = counters; alarms = t.alarms; attached = t.attached })
  quiet-on counter counters value on =
      quiet-set quiet t c.index (number - 1) (advanced counter) counters t.alarms was inside known on (λ n other k d within. refl)
      (rw (value ∙ sym (ap (counter_in c) same))
      (All-weaker (IsQuietIn t.alarms number before) (IsQuietIn t.alarms (number - 1) (advanced before)) (λ a. one-less number before (alarm_in a t)) (get_or t.attached c.index []) (was.at c.index)))

  -- no count changes the alarms of another counter
  others-kept : (u : ClockState) → u ≡ clocks_by core counted s → (n : ℕ) → (n ≡ c.index → ⊥) → All (λ (a : AlarmRef). alarm_in a u ≡ alarm_in a t) (get_or t.attached n [])
  others-kept u is n other = subst (λ (v : ClockState). All (λ (a : AlarmRef). alarm_in a u ≡ alarm_in a v) (get_or v.attached n [])) (sym same) (by (nat_lt n (length core.counters)) refl)
    where
      d : CounterRef
      d = counter_ref core n

      IsKept : AlarmRef → Type 0
      IsKept a = alarm_in a u ≡ alarm_in a s

      each : (a : AlarmRef) → is_attached core d a ≡ true → IsKept a
      each a on =
          ap (alarm_in a) (is ∙ ap (clocks_by core counted) clocks.is ∙ after core counted clocks.history clocks.within)
          ∙ alarm-at core a (counted ∷ clocks.history) (attached-own core d a on)
          ∙ sym (alarm-apart core c d a clocks.history (counter-other core c n other) on)
          ∙ sym (ap (alarm_in a) clocks.is ∙ alarm-at core a clocks.history (attached-own core d a on))

      by : (b : Bool) → nat_lt n (length core.counters) ≡ b → All IsKept (get_or s.attached n [])
      by true e = All-same IsKept (get_or s.attached n []) (attached_to core d) (list-at core s d clocks (counter-own core n (ltb-true n (length core.counters) e))) (attached-all core d IsKept each)
      by false e = All-same IsKept (get_or s.attached n []) [] (get_or_past s.attached n [] (omega (arith, ltb-false n (length core.counters) e, lists-length core s clocks))) (All-nil IsKept)

  -- so quiet counts that are right for the counter's own alarms are right for all
  pub quiet-anew : (counts : ℕ) (counter : Counter) (counters : List Counter) (alarms : List Alarm) → counters ≡ slice_set t.counters c.index counter → (let u : ClockState = record { counters = counters; alarms = alarms; attached = t.attached } in u) ≡ clocks_by core counted s
      → All (IsQuietIn alarms counts counter) (get_or t.attached c.index []) → AreQuiet (slice_set quiet c.index counts) (record { counters = counters; alarms = alarms; attached = t.attached })
  quiet-anew counts counter counters alarms on is here = quiet-set quiet t c.index counts counter counters alarms was inside known on (others-kept _ is) here
