-- What holds of the alarms of a counter.
use Rattle.std.proofs.Common.{◌≡◌, Bool, true, All, Option, filter, length, ap, sym, ◌∙◌}
use Rattle.std.specs.{List.list_all, Option.option_map_or}
use Rattle.osbase.specs.{declared.references.AlarmRef.AlarmRef, declared.references.CounterRef.CounterRef, Objects.alarm_object}
use Rattle.osplan.specs.{declared.plans.Alarm.Alarm as AlarmValue, declared.plans.Core.Core, Objects.is_own_object}
use Rattle.osplan.proofs.Tests.{all-filter}
use Rattle.osattached.proofs.{Members.kept-all, Members.kept-passes, Members.stands, Own.goes-own, Ranges.length-table}
use Rattle.osclock.proofs.Places.{placed}
use Rattle.osclock.specs.Clocks.{ClockState, alarm_family, alarm_ref, alarm_refs, attached_to, counter_for, counter_in, is_attached, max_for, max_of, no_counter}

pub attached-own : (core : Core) (c : CounterRef) (a : AlarmRef) → is_attached core c a ≡ true → is_own_object core (alarm_object a) ≡ true
attached-own core c a on = goes-own (placed core) c a on

-- the counter of an alarm that is attached to a counter is this counter
pub attached-counter : (core : Core) (c : CounterRef) (a : AlarmRef) (s : ClockState) → is_attached core c a ≡ true → counter_for core a s ≡ counter_in c s
attached-counter core c a s on =
    let own = stands (alarm_family core) c a on in
    ap (λ (o : Option AlarmValue). option_map_or (λ (x : AlarmValue). counter_in x.counter s) o no_counter) own.is ∙ ap (λ (d : CounterRef). counter_in d s) (sym own.by)

pub attached-max : (core : Core) (c : CounterRef) (a : AlarmRef) → is_attached core c a ≡ true → max_for core a ≡ max_of core c
attached-max core c a on =
    let own = stands (alarm_family core) c a on in
    ap (λ (o : Option AlarmValue). option_map_or (λ (x : AlarmValue). max_of core x.counter) o 0) own.is ∙ ap (max_of core) (sym own.by)

-- each alarm that is picked out of a counter's alarms is the core's own
pub picked-own : (core : Core) (c : CounterRef) (f : AlarmRef → Bool) → list_all (λ (a : AlarmRef). is_own_object core (alarm_object a)) (filter f (attached_to core c)) ≡ true
picked-own core c f =
    all-filter (λ (a : AlarmRef). is_own_object core (alarm_object a)) f (attached_to core c) (kept-passes (is_attached core c) (λ (a : AlarmRef). is_own_object core (alarm_object a)) (alarm_refs core) (λ a on. attached-own core c a on))

pub attached-all : (core : Core) (c : CounterRef) (P : AlarmRef → Type 0) → ((a : AlarmRef) → is_attached core c a ≡ true → P a) → All P (attached_to core c)
attached-all core c P each = kept-all (is_attached core c) P (alarm_refs core) each

pub alarm-refs-length : (core : Core) → length (alarm_refs core) ≡ length core.alarms
alarm-refs-length core = length-table (alarm_ref core) (length core.alarms)
