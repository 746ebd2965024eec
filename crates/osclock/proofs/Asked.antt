-- A query of the clocks is answered as the same query of the history is.
use Rattle.std.proofs.Common.{◌≡◌, ℕ, true, Option, Some, None, is_some, option_map, filter, List, [], ◌∷◌, get_or, refl, ap, sym, ◌∙◌}
use Rattle.std.specs.Option.{option_map_or}
use Rattle.std.proofs.lemmas.Bool.{false≢true}
use Rattle.osbase.specs.{declared.references.AlarmRef.AlarmRef, declared.references.CounterRef.CounterRef, History.History, History.Entry, Objects.alarm_object, Objects.counter_object}
use Rattle.osbase.specs.Counting.{alarm_of, counts_of, counts_to, is_due, is_in_use, left_of, one_count_more}
use Rattle.osplan.specs.{declared.plans.Alarm.Alarm as AlarmValue, declared.plans.Core.Core, Clocked.are_clocks_within, Objects.is_own_object, View.own_alarm}
use Rattle.oscount.specs.{declared.alarms.Alarm.Alarm, declared.counters.Counter.Counter, Clocks.counts_until, Clocks.is_due_next}
use Rattle.oscount.proofs.Expiries.{in-use, left-is, next-due}
use Rattle.osclock.specs.Clocks.{AreClocks, ClockState, alarm_in, alarm_refs, are_settings_granted, clocks_by, clocks_of, counter_for, counter_in, counts_to_by, counts_to_in, counts_to_value_by, counts_to_value_in, due_by, due_in, is_attached, is_due_by, is_due_in, is_in_use_by, is_used, left_by, left_in, max_of, no_counter, unset, value_by}
use Rattle.osattached.proofs.Members.{kept-same}
use Rattle.osclock.proofs.{Attached.attached-counter, Attached.attached-own, Bounds.list-at, Places.alarm-some, Granted.granted}
use Rattle.osclock.proofs.Law.{after, alarm-at, attached, counter-at, read}

-- The clocks after an entry are clocks again.
pub kept : (core : Core) (e : Entry) (s : ClockState) → AreClocks core s → AreClocks core (clocks_by core e s)
kept core e s clocks = record { within = clocks.within; history = e ∷ clocks.history; is = ap (clocks_by core e) clocks.is ∙ after core e clocks.history clocks.within }

pub value-read : (core : Core) (c : CounterRef) (h : History) → is_own_object core (counter_object c) ≡ true → (counter_in c (clocks_of core h)).value ≡ value_by core c h
value-read core c h own = ap (λ (k : Counter). k.value) (counter-at core c h own)

pub used-read : (core : Core) (a : AlarmRef) (h : History) → is_own_object core (alarm_object a) ≡ true → are_settings_granted core h ≡ true → is_used (alarm_in a (clocks_of core h)) ≡ is_in_use_by core a h
used-read core a h own set = ap (λ (x : Alarm). is_used x) (alarm-at core a h own) ∙ by (own_alarm core a) refl
  where
    by : (o : Option AlarmValue) → own_alarm core a ≡ o → is_used (option_map_or (read core a h) o unset) ≡ is_in_use (option_map_or (λ (x : AlarmValue). alarm_of x.counter a h) o None)
    by None e = refl
    by (Some x) e = in-use (max_of core x.counter) (counts_of x.counter h) (alarm_of x.counter a h) (granted core a x e h set)

pub left-read : (core : Core) (a : AlarmRef) (h : History) → are_clocks_within core ≡ true → is_own_object core (alarm_object a) ≡ true → are_settings_granted core h ≡ true → left_in core a (clocks_of core h) ≡ left_by core a h
left-read core a h within own set = ap (λ (x : Alarm). option_map (counts_until (counter_for core a (clocks_of core h))) x.expiry) (alarm-at core a h own) ∙ by (own_alarm core a) refl
  where
    by : (o : Option AlarmValue) → own_alarm core a ≡ o
        → option_map (counts_until (option_map_or (λ (x : AlarmValue). counter_in x.counter (clocks_of core h)) o no_counter)) (option_map_or (read core a h) o unset).expiry
        ≡ left_of (option_map_or (λ (x : AlarmValue). alarm_of x.counter a h) o None)
    by None e = refl
    by (Some x) e =
        ap (λ (k : Counter). option_map (counts_until k) (read core a h x).expiry) (counter-at core x.counter h (attached core a x within e))
        ∙ left-is (max_of core x.counter) (counts_of x.counter h) (alarm_of x.counter a h) (granted core a x e h set)

pub counts_to-read : (core : Core) (a : AlarmRef) (start : ℕ) (h : History) → are_clocks_within core ≡ true → is_own_object core (alarm_object a) ≡ true → counts_to_in core a start (clocks_of core h) ≡ counts_to_by core a start h
counts_to-read core a start h within own = by (own_alarm core a) refl
  where
    by : (o : Option AlarmValue) → own_alarm core a ≡ o
        → (let k : Counter = option_map_or (λ (x : AlarmValue). counter_in x.counter (clocks_of core h)) o no_counter in counts_to k.max k.value start) ≡ option_map_or (λ (x : AlarmValue). counts_to (max_of core x.counter) (value_by core x.counter h) start) o 0
    by None e = absurd (false≢true (ap (λ (o : Option AlarmValue). is_some o) (sym e) ∙ alarm-some core a own))
    by (Some x) e = ap (λ (k : Counter). counts_to k.max k.value start) (counter-at core x.counter h (attached core a x within e))

pub counts_to_value-read : (core : Core) (c : CounterRef) (start : ℕ) (h : History) → is_own_object core (counter_object c) ≡ true → counts_to_value_in c start (clocks_of core h) ≡ counts_to_value_by core c start h
counts_to_value-read core c start h own = ap (λ (k : Counter). counts_to k.max k.value start) (counter-at core c h own)

pub due-read : (core : Core) (a : AlarmRef) (h : History) → are_clocks_within core ≡ true → is_own_object core (alarm_object a) ≡ true → are_settings_granted core h ≡ true → is_due_in core a (clocks_of core h) ≡ is_due_by core a h
due-read core a h within own set = ap (is_due_next (counter_for core a (clocks_of core h))) (alarm-at core a h own) ∙ by (own_alarm core a) refl
  where
    by : (o : Option AlarmValue) → own_alarm core a ≡ o
        → is_due_next (option_map_or (λ (x : AlarmValue). counter_in x.counter (clocks_of core h)) o no_counter) (option_map_or (read core a h) o unset)
        ≡ is_due (option_map one_count_more (option_map_or (λ (x : AlarmValue). alarm_of x.counter a h) o None))
    by None e = refl
    by (Some x) e =
        ap (λ (k : Counter). is_due_next k (read core a h x)) (counter-at core x.counter h (attached core a x within e))
        ∙ next-due (max_of core x.counter) (counts_of x.counter h) (alarm_of x.counter a h) (granted core a x e h set)

pub dues-read : (core : Core) (c : CounterRef) (h : History) → are_clocks_within core ≡ true → are_settings_granted core h ≡ true → due_in core c (clocks_of core h) ≡ due_by core c h
dues-read core c h within set =
    kept-same (is_attached core c) (λ (a : AlarmRef). is_due_in core a (clocks_of core h)) (λ (a : AlarmRef). is_due_by core a h) (alarm_refs core)
    (λ a on. due-read core a h within (attached-own core c a on) set)

-- the alarms that the code finds due are those that are due in the clocks' state
pub dues-in : (core : Core) (c : CounterRef) (t s : ClockState) (counter : Counter) (list : List AlarmRef) (alarms : List Alarm) → t ≡ s → AreClocks core s → is_own_object core (counter_object c) ≡ true
    → counter ≡ counter_in c s → list ≡ get_or t.attached c.index [] → alarms ≡ t.alarms → filter (λ (a : AlarmRef). is_due_next counter (get_or alarms a.index unset)) list ≡ due_in core c s
dues-in core c t s counter list alarms same clocks own value own_list are =
    ap (λ (k : Counter). filter (λ (a : AlarmRef). is_due_next k (get_or alarms a.index unset)) list) value
    ∙ ap (λ (xs : List Alarm). filter (λ (a : AlarmRef). is_due_next (counter_in c s) (get_or xs a.index unset)) list) (are ∙ ap (λ (u : ClockState). u.alarms) same)
    ∙ ap (filter (λ (a : AlarmRef). is_due_next (counter_in c s) (alarm_in a s))) (own_list ∙ ap (λ (u : ClockState). get_or u.attached c.index []) same ∙ list-at core s c clocks own)
    ∙ kept-same (is_attached core c) (λ (a : AlarmRef). is_due_next (counter_in c s) (alarm_in a s)) (λ (a : AlarmRef). is_due_in core a s) (alarm_refs core)
    (λ a on. ap (λ (k : Counter). is_due_next k (alarm_in a s)) (sym (attached-counter core c a s on)))
