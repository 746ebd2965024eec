-- A change of only a counter's alarms is the same as a pass over all alarms that leaves the others unchanged.
use Rattle.std.proofs.Common.{◌≡◌, ℕ, suc, ◌+◌, ◌-◌, ◌<◌, ◌≤◌, nat_eq, nat_le, Bool, true, false, cond, IfSome, Option, Some, None, List, [], ◌++◌, drop, length, length-set, take, refl, ap, sym, ◌∙◌, arith, get_or}
use Rattle.std.specs.List.{refill, slice_set}
use Rattle.std.proofs.{Math.Seq.take-append_seam, lemmas.List.get_or-set_other, lemmas.List.get_or-set_same}
use Rattle.std.proofs.lemmas.Bool.{cond-true, eq-eqb, eqb-true, false≢true, leb-true}
use Rattle.osbase.specs.{declared.references.AlarmRef.AlarmRef, declared.references.CounterRef.CounterRef, History.Noted, History.CounterIncremented, Objects.counter_object}
use Rattle.osplan.specs.{declared.plans.Core.Core, Objects.is_own_object}
use Rattle.osattached.proofs.Changed.{each-all}
use Rattle.oscount.specs.{declared.alarms.Alarm.Alarm, declared.alarms.Expiry.Expiry, declared.counters.Counter.Counter}
use Rattle.oscount.specs.Clocks.{IsExpiryOf, advanced, alarm_beyond, due_again, expiry_beyond, is_next_value, wrapped}
use Rattle.osclock.specs.Clocks.{AreClocks, ClockState, IsBounded, alarm_family, all_beyond, all_passed, clocks_by, counted, counter_in, unset}
use Rattle.osclock.proofs.{Bounds.alarms-length, Bounds.list-at, Law.both}

-- ---- one alarm moves on by one count

-- the alarm is bounded as before
pub beyond-bounded : (counter : Counter) (alarm : Alarm) → IsBounded counter.max alarm → IsBounded counter.max (alarm_beyond counter alarm)
beyond-bounded counter alarm bounded = by alarm.expiry bounded
  where
    turned : (v : ℕ) → v ≤ counter.max + counter.max → (b : Bool) → nat_le v counter.max ≡ b → cond b v (v - suc counter.max) ≤ counter.max
    turned v most true e = leb-true v counter.max e
    turned v most false e = omega (arith, most)

    again : (x : Expiry) → IsExpiryOf counter.max x → (none : Bool) → IfSome (cond none None (Some (record x { value = wrapped counter.max (x.value + x.cycle) }))) (IsExpiryOf counter.max)
    again x is true = tt
    again x is false = record { value = turned (x.value + x.cycle) (omega (arith, is.value, is.cycle)) (nat_le (x.value + x.cycle) counter.max) refl; cycle = is.cycle }

    at : (x : Expiry) → IsExpiryOf counter.max x → (next : Bool) → IfSome (cond next (due_again counter x) (Some x)) (IsExpiryOf counter.max)
    at x is true = again x is (nat_eq x.cycle 0)
    at x is false = is

    by : (o : Option Expiry) → IfSome o (IsExpiryOf counter.max) → IfSome (expiry_beyond counter o) (IsExpiryOf counter.max)
    by None is = tt
    by (Some x) is = at x is (is_next_value counter x)

-- what is written back is at its place
pub written : (alarms : List Alarm) (place : ℕ) (alarm : Alarm) → refill (length alarms) alarms (slice_set alarms place alarm) ≡ slice_set alarms place alarm
written alarms place alarm =
    ap (λ (n : ℕ). take n (slice_set alarms place alarm ++ drop (length (slice_set alarms place alarm)) alarms)) (sym (length-set alarms place alarm))
    ∙ take-append_seam (slice_set alarms place alarm) (drop (length (slice_set alarms place alarm)) alarms)

-- what holds of the new alarm still holds at each place where it held before
pub set-keeps : (P : Alarm → Type 0) (alarms : List Alarm) (place : ℕ) (alarm : Alarm) → place < length alarms → P alarm → (n : ℕ) → P (get_or alarms n unset) → P (get_or (slice_set alarms place alarm) n unset)
set-keeps P alarms place alarm known here n before = by (nat_eq n place) refl
  where
    by : (b : Bool) → nat_eq n place ≡ b → P (get_or (slice_set alarms place alarm) n unset)
    by true e = rw (eqb-true n place e, get_or-set_same alarms place alarm unset known) here
    by false e = rw (get_or-set_other alarms place n alarm unset (λ same. false≢true (sym e ∙ eq-eqb n place same))) before

-- ---- a core's clocks after a count

pub counted-is : (core : Core) (c : CounterRef) (t s : ClockState) (counter : Counter) (list : List AlarmRef) (counters : List Counter) (alarms : List Alarm) → t ≡ s → AreClocks core s → is_own_object core (counter_object c) ≡ true
    → counter ≡ counter_in c s → list ≡ get_or t.attached c.index [] → counters ≡ slice_set t.counters c.index (advanced counter) → alarms ≡ all_beyond counter list t.alarms
    → (let u : ClockState = record { counters = counters; alarms = alarms; attached = t.attached } in u) ≡ clocks_by core (Noted (CounterIncremented c)) s
counted-is core c t s counter list counters alarms same clocks own value own_list on beyond =
    both
    (on ∙ ap (λ (u : ClockState). slice_set u.counters c.index (advanced counter)) same ∙ ap (λ (k : Counter). slice_set s.counters c.index (advanced k)) value)
    (beyond
    ∙ ap (λ (u : ClockState). all_beyond counter list u.alarms) same
    ∙ ap (λ (xs : List AlarmRef). all_beyond counter xs s.alarms) (own_list ∙ ap (λ (u : ClockState). get_or u.attached c.index []) same ∙ list-at core s c clocks own)
    ∙ each-all (alarm_family core) c (λ (a : AlarmRef). a.index) (λ n. refl) (λ (a : AlarmRef). alarm_beyond counter) unset s.alarms (alarms-length core s clocks)
    ∙ ap (λ (k : Counter). all_passed core c k s.alarms) value)
    (ap (λ (u : ClockState). u.attached) same)
    ∙ sym (cond-true (is_own_object core (counter_object c)) (counted core c s) s own)
