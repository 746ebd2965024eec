-- An entry changes the state of the clocks as it changes what is read off the history.
use Rattle.std.proofs.Common.{◌≡◌, ℕ, suc, ◌<◌, ◌%◌, Bool, true, false, cond, ◌&&◌, Option, Some, None, is_some, option_map, List, ◌∷◌, length, refl, ap, sym, ◌∙◌, arith}
use Rattle.std.specs.{List.slice_set, Option.option_map_or}
use Rattle.std.proofs.{Math.Nat.mod-add-mod, lemmas.Bool.cond-false, lemmas.Bool.cond-true, lemmas.Bool.false≢true}
use Rattle.osbase.specs.{declared.references.AlarmRef.AlarmRef, declared.references.CounterRef.CounterRef, Objects.alarm_object, Objects.counter_object}
use Rattle.osbase.specs.History.{History, Entry, Noted, CounterIncremented, AlarmSet, AlarmCancelled}
use Rattle.osbase.specs.Counting.{AlarmSetting, alarm_of, counts_left, counts_of, is_in_turn, one_count_more, same_alarm, same_counter, will_be_due}
use Rattle.osbase.proofs.{Same.same_alarm-refl, Same.same_counter-refl, Same.same_counter-true, Tables.table-at, Tables.table-set}
use Rattle.osplan.specs.{declared.plans.Alarm.Alarm as AlarmValue, declared.plans.Core.Core, Clocked.are_clocks_within, Objects.is_own_object, View.own_alarm}
use Rattle.osplan.proofs.Clocked.{clock-parts}
use Rattle.osattached.proofs.{Members.stands, Ranges.table-within}
use Rattle.osattached.proofs.Own.{kept-there, none-changed, one-changed, refers, those-changed}
use Rattle.osplan.proofs.Counters.{counter-apart, counter-other, counter-own, counter-place}
use Rattle.oscount.specs.{declared.counters.Counter.Counter, declared.alarms.Alarm.Alarm}
use Rattle.oscount.specs.Clocks.{advanced, alarm_at, alarm_beyond, counter_at, setting_of}
use Rattle.oscount.proofs.Expiries.{beyond, counted as next}
use Rattle.osclock.specs.Clocks.{ClockState, alarm_by, alarm_family, alarm_in, alarm_ref, all_passed, clocks_by, clocks_of, counted, counter_by, counter_for, counter_in, counter_ref, due_after, is_attached, max_of, no_counter, unset, with_alarm}
use Rattle.osclock.proofs.Places.{alarm-some, placed}

-- ---- what is at an own object's place

pub counter-at : (core : Core) (c : CounterRef) (h : History) → is_own_object core (counter_object c) ≡ true → counter_in c (clocks_of core h) ≡ counter_by core c h
counter-at core c h own =
    let place = counter-place core c own in
    table-at (λ n. counter_by core (counter_ref core n) h) 0 (length core.counters) c.index c.index no_counter (omega arith) place.inside ∙ ap (λ r. counter_by core r h) (sym place.ref)

pub alarm-at : (core : Core) (a : AlarmRef) (h : History) → is_own_object core (alarm_object a) ≡ true → alarm_in a (clocks_of core h) ≡ alarm_by core a h
alarm-at core a h own = kept-there (placed core) (λ b. alarm_by core b h) a unset own

-- the counter of an own alarm is one of the core's own
pub attached : (core : Core) (a : AlarmRef) (x : AlarmValue) → are_clocks_within core ≡ true → own_alarm core a ≡ Some x → is_own_object core (counter_object x.counter) ≡ true
attached core a x within own = refers (placed core) a x (clock-parts core within).attached own

abbrev pub read : Core → AlarmRef → History → AlarmValue → Alarm
read core a h x = alarm_at (max_of core x.counter) (counts_of x.counter h) (alarm_of x.counter a h)

-- ---- a count

counters-on : (core : Core) (c : CounterRef) (h : History) → is_own_object core (counter_object c) ≡ true
    → slice_set (clocks_of core h).counters c.index (advanced (counter_in c (clocks_of core h))) ≡ (clocks_of core (Noted (CounterIncremented c) ∷ h)).counters
counters-on core c h own =
    ap (λ (k : Counter). slice_set (clocks_of core h).counters c.index (advanced k)) (counter-at core c h own)
    ∙ ap (slice_set (clocks_of core h).counters c.index) here
    ∙ table-set (λ n. counter_by core (counter_ref core n) h) (λ n. counter_by core (counter_ref core n) (Noted (CounterIncremented c) ∷ h)) 0 (length core.counters) c.index c.index (omega arith) (counter-place core c own).inside others
  where
    here : advanced (counter_by core c h) ≡ counter_by core (counter_ref core c.index) (Noted (CounterIncremented c) ∷ h)
    here =
        next (max_of core c) (counts_of c h)
        ∙ ap (counter_at (max_of core c)) (sym (cond-true (same_counter c c) (suc (counts_of c h)) (counts_of c h) (same_counter-refl c)))
        ∙ ap (λ r. counter_by core r (Noted (CounterIncremented c) ∷ h)) (counter-place core c own).ref

    others : (m : ℕ) → (m ≡ c.index → ⊥) → counter_by core (counter_ref core m) h ≡ counter_by core (counter_ref core m) (Noted (CounterIncremented c) ∷ h)
    others m apart = ap (counter_at (max_of core (counter_ref core m))) (sym (cond-false (same_counter c (counter_ref core m)) (suc (counts_of (counter_ref core m) h)) (counts_of (counter_ref core m) h) (counter-other core c m apart)))

alarm-on : (core : Core) (c : CounterRef) (a : AlarmRef) (h : History) (o : Option AlarmValue)
    → cond (option_map_or (λ (x : AlarmValue). same_counter c x.counter) o false) (alarm_beyond (counter_by core c h) (option_map_or (read core a h) o unset)) (option_map_or (read core a h) o unset)
    ≡ option_map_or (read core a (Noted (CounterIncremented c) ∷ h)) o unset
alarm-on core c a h None = refl
alarm-on core c a h (Some x) = by (same_counter c x.counter) refl
  where
    by : (b : Bool) → same_counter c x.counter ≡ b → cond b (alarm_beyond (counter_by core c h) (read core a h x)) (read core a h x)
        ≡ alarm_at (max_of core x.counter) (cond b (suc (counts_of x.counter h)) (counts_of x.counter h)) (cond b (option_map one_count_more (alarm_of x.counter a h)) (alarm_of x.counter a h))
    by false e = refl
    by true e =
        ap (λ (d : CounterRef). alarm_beyond (counter_by core d h) (read core a h x)) (same_counter-true c x.counter e)
        ∙ ap (λ y. let alarm : Alarm = record { expiry = y } in alarm) (beyond (max_of core x.counter) (counts_of x.counter h) (alarm_of x.counter a h))

-- an alarm of another counter
read-apart : (core : Core) (c : CounterRef) (a : AlarmRef) (x : AlarmValue) (h : History) → same_counter c x.counter ≡ false → read core a h x ≡ read core a (Noted (CounterIncremented c) ∷ h) x
read-apart core c a x h apart =
    ap (λ (t : Bool). alarm_at (max_of core x.counter) (cond t (suc (counts_of x.counter h)) (counts_of x.counter h)) (cond t (option_map one_count_more (alarm_of x.counter a h)) (alarm_of x.counter a h))) (sym apart)

pub alarm-apart : (core : Core) (c d : CounterRef) (a : AlarmRef) (h : History) → same_counter c d ≡ false → is_attached core d a ≡ true → alarm_by core a h ≡ alarm_by core a (Noted (CounterIncremented c) ∷ h)
alarm-apart core c d a h apart on =
    let own = stands (alarm_family core) d a on in
    ap (λ (o : Option AlarmValue). option_map_or (read core a h) o unset) own.is
    ∙ read-apart core c a own.value h (ap (same_counter c) (sym own.by) ∙ apart)
    ∙ ap (λ (o : Option AlarmValue). option_map_or (read core a (Noted (CounterIncremented c) ∷ h)) o unset) (sym own.is)

alarms-on : (core : Core) (c : CounterRef) (h : History) → is_own_object core (counter_object c) ≡ true
    → all_passed core c (counter_in c (clocks_of core h)) (clocks_of core h).alarms ≡ (clocks_of core (Noted (CounterIncremented c) ∷ h)).alarms
alarms-on core c h own =
    ap (λ (k : Counter). all_passed core c k (clocks_of core h).alarms) (counter-at core c h own)
    ∙ those-changed (placed core) (λ a. alarm_by core a h) (λ a. alarm_by core a (Noted (CounterIncremented c) ∷ h)) c (λ (a : AlarmRef). alarm_beyond (counter_by core c h)) unset (λ a. alarm-on core c a h (own_alarm core a))

pub both : {s t : ClockState} → s.counters ≡ t.counters → s.alarms ≡ t.alarms → s.attached ≡ t.attached → s ≡ t
both {s} {t} counters alarms attached =
    ap (λ (x : List Counter). let u : ClockState = record { counters = x; alarms = s.alarms; attached = s.attached } in u) counters
    ∙ ap (λ (x : List Alarm). let u : ClockState = record { counters = t.counters; alarms = x; attached = s.attached } in u) alarms
    ∙ ap (λ (x : List (List AlarmRef)). let u : ClockState = record { counters = t.counters; alarms = t.alarms; attached = x } in u) attached

pub count-on : (core : Core) (c : CounterRef) (h : History) → is_own_object core (counter_object c) ≡ true → counted core c (clocks_of core h) ≡ clocks_of core (Noted (CounterIncremented c) ∷ h)
count-on core c h own = both (counters-on core c h own) (alarms-on core c h own) refl

-- ---- an alarm that is set or cancelled

-- an alarm is the same for the counter's value as for its counts
seen : (max count : ℕ) (x : AlarmSetting) → alarm_at max (count % suc max) (Some x) ≡ alarm_at max count (Some x)
seen max count x =
    ap (λ n. let alarm : Alarm = record { expiry = cond (is_in_turn max x && will_be_due x) (Some (record { value = n; cycle = x.cycle })) None } in alarm) (mod-add-mod count (suc max) (counts_left x))

set-here : (core : Core) (a : AlarmRef) (first cycle : ℕ) (h : History) → are_clocks_within core ≡ true → is_own_object core (alarm_object a) ≡ true → (o : Option AlarmValue) → own_alarm core a ≡ o
    → due_after (option_map_or (λ (x : AlarmValue). counter_in x.counter (clocks_of core h)) o no_counter) first cycle ≡ option_map_or (read core a (Noted (AlarmSet a first cycle) ∷ h)) o unset
set-here core a first cycle h within there None own = absurd (false≢true (ap (λ (o : Option AlarmValue). is_some o) (sym own) ∙ alarm-some core a there))
set-here core a first cycle h within there (Some x) own =
    ap (λ (k : Counter). due_after k first cycle) (counter-at core x.counter h (attached core a x within own))
    ∙ seen (max_of core x.counter) (counts_of x.counter h) (setting_of first cycle)
    ∙ ap (alarm_at (max_of core x.counter) (counts_of x.counter h)) (sym (cond-true (same_alarm a a) (Some (setting_of first cycle)) (alarm_of x.counter a h) (same_alarm-refl a)))

set-other : (core : Core) (a b : AlarmRef) (first cycle : ℕ) (h : History) → same_alarm a b ≡ false → alarm_by core b h ≡ alarm_by core b (Noted (AlarmSet a first cycle) ∷ h)
set-other core a b first cycle h apart =
    ap (λ (t : Bool). option_map_or (λ (x : AlarmValue). alarm_at (max_of core x.counter) (counts_of x.counter h) (cond t (Some (setting_of first cycle)) (alarm_of x.counter b h))) (own_alarm core b) unset) (sym apart)

cancelled-here : (core : Core) (a : AlarmRef) (h : History) (o : Option AlarmValue) → unset ≡ option_map_or (read core a (Noted (AlarmCancelled a) ∷ h)) o unset
cancelled-here core a h None = refl
cancelled-here core a h (Some x) = ap (alarm_at (max_of core x.counter) (counts_of x.counter h)) (sym (cond-true (same_alarm a a) None (alarm_of x.counter a h) (same_alarm-refl a)))

cancelled-other : (core : Core) (a b : AlarmRef) (h : History) → same_alarm a b ≡ false → alarm_by core b h ≡ alarm_by core b (Noted (AlarmCancelled a) ∷ h)
cancelled-other core a b h apart =
    ap (λ (t : Bool). option_map_or (λ (x : AlarmValue). alarm_at (max_of core x.counter) (counts_of x.counter h) (cond t None (alarm_of x.counter b h))) (own_alarm core b) unset) (sym apart)

-- ---- each entry

-- a count of a counter that is not the core's own
count-off : (core : Core) (c : CounterRef) (h : History) → are_clocks_within core ≡ true → is_own_object core (counter_object c) ≡ false → clocks_of core h ≡ clocks_of core (Noted (CounterIncremented c) ∷ h)
count-off core c h within other =
    both
    (table-within (λ n. counter_by core (counter_ref core n) h) (λ n. counter_by core (counter_ref core n) (Noted (CounterIncremented c) ∷ h)) 0 (length core.counters) (λ n inside. counter-off n (omega (arith, inside))))
    (table-within (λ n. alarm_by core (alarm_ref core n) h) (λ n. alarm_by core (alarm_ref core n) (Noted (CounterIncremented c) ∷ h)) 0 (length core.alarms) (λ n inside. alarm-off (alarm_ref core n) (own_alarm core (alarm_ref core n)) refl))
    refl
  where
    counter-off : (n : ℕ) → n < length core.counters → counter_by core (counter_ref core n) h ≡ counter_by core (counter_ref core n) (Noted (CounterIncremented c) ∷ h)
    counter-off n inside = ap (λ (t : Bool). counter_at (max_of core (counter_ref core n)) (cond t (suc (counts_of (counter_ref core n) h)) (counts_of (counter_ref core n) h))) (sym (counter-apart core c (counter_ref core n) other (counter-own core n inside)))

    alarm-off : (a : AlarmRef) (o : Option AlarmValue) → own_alarm core a ≡ o → option_map_or (read core a h) o unset ≡ option_map_or (read core a (Noted (CounterIncremented c) ∷ h)) o unset
    alarm-off a None own = refl
    alarm-off a (Some x) own = read-apart core c a x h (counter-apart core c x.counter other (attached core a x within own))

pub count-after : (core : Core) (c : CounterRef) (h : History) → are_clocks_within core ≡ true → clocks_by core (Noted (CounterIncremented c)) (clocks_of core h) ≡ clocks_of core (Noted (CounterIncremented c) ∷ h)
count-after core c h within = by (is_own_object core (counter_object c)) refl
  where
    by : (b : Bool) → is_own_object core (counter_object c) ≡ b → cond b (counted core c (clocks_of core h)) (clocks_of core h) ≡ clocks_of core (Noted (CounterIncremented c) ∷ h)
    by true own = count-on core c h own
    by false other = count-off core c h within other

pub set-after : (core : Core) (a : AlarmRef) (first cycle : ℕ) (h : History) → are_clocks_within core ≡ true → clocks_by core (Noted (AlarmSet a first cycle)) (clocks_of core h) ≡ clocks_of core (Noted (AlarmSet a first cycle) ∷ h)
set-after core a first cycle h within = by (is_own_object core (alarm_object a)) refl
  where
    others : (b : AlarmRef) → same_alarm a b ≡ false → alarm_by core b h ≡ alarm_by core b (Noted (AlarmSet a first cycle) ∷ h)
    others b apart = set-other core a b first cycle h apart

    by : (b : Bool) → is_own_object core (alarm_object a) ≡ b → cond b (with_alarm a (due_after (counter_for core a (clocks_of core h)) first cycle) (clocks_of core h)) (clocks_of core h) ≡ clocks_of core (Noted (AlarmSet a first cycle) ∷ h)
    by true own = both refl (one-changed (placed core) (λ b. alarm_by core b h) (λ b. alarm_by core b (Noted (AlarmSet a first cycle) ∷ h)) a (due_after (counter_for core a (clocks_of core h)) first cycle) own (set-here core a first cycle h within own (own_alarm core a) refl) others) refl
    by false other = both refl (none-changed (placed core) (λ b. alarm_by core b h) (λ b. alarm_by core b (Noted (AlarmSet a first cycle) ∷ h)) a other others) refl

pub cancel-after : (core : Core) (a : AlarmRef) (h : History) → clocks_by core (Noted (AlarmCancelled a)) (clocks_of core h) ≡ clocks_of core (Noted (AlarmCancelled a) ∷ h)
cancel-after core a h = by (is_own_object core (alarm_object a)) refl
  where
    others : (b : AlarmRef) → same_alarm a b ≡ false → alarm_by core b h ≡ alarm_by core b (Noted (AlarmCancelled a) ∷ h)
    others b apart = cancelled-other core a b h apart

    by : (b : Bool) → is_own_object core (alarm_object a) ≡ b → cond b (with_alarm a unset (clocks_of core h)) (clocks_of core h) ≡ clocks_of core (Noted (AlarmCancelled a) ∷ h)
    by true own = both refl (one-changed (placed core) (λ b. alarm_by core b h) (λ b. alarm_by core b (Noted (AlarmCancelled a) ∷ h)) a unset own (cancelled-here core a h (own_alarm core a)) others) refl
    by false other = both refl (none-changed (placed core) (λ b. alarm_by core b h) (λ b. alarm_by core b (Noted (AlarmCancelled a) ∷ h)) a other others) refl

-- The clocks of a longer history are those of the history, changed by the newest entry.
pub after : (core : Core) (e : Entry) (h : History) → are_clocks_within core ≡ true → clocks_by core e (clocks_of core h) ≡ clocks_of core (e ∷ h)
after core (Noted (CounterIncremented c)) h within = count-after core c h within
after core (Noted (AlarmSet a first cycle)) h within = set-after core a first cycle h within
after core (Noted (AlarmCancelled a)) h within = cancel-after core a h
after core e h within = refl
