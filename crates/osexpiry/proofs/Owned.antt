-- What is known of an alarm of the core, and how many there are.
use Rattle.std.proofs.Common.{◌≡◌, ◌≤◌, true, Option, Some, None, option_map, length, ap, arith}
use Rattle.std.specs.Option.{option_map_or}
use Rattle.osbase.specs.{declared.references.AlarmRef.AlarmRef, declared.references.CounterRef.CounterRef, declared.messages.RemoteCall.RemoteCall}
use Rattle.osplan.specs.{declared.plans.Alarm.Alarm, declared.plans.Core.Core, Clocked.are_clocks_within, View.own_alarm}
use Rattle.osplan.proofs.{Clocked.clock-parts, Tests.length-filter-le}
use Rattle.osclock.specs.Clocks.{alarm_refs, attached_to, is_attached}
use Rattle.osclock.proofs.Attached.{alarm-refs-length}

-- A core has at most 32 alarms, and so has each of its counters.
pub alarms-few : (core : Core) → are_clocks_within core ≡ true → length (alarm_refs core) ≤ 32
alarms-few core within = omega (arith, alarm-refs-length core, (clock-parts core within).alarms)

pub attached-few : (core : Core) (c : CounterRef) → are_clocks_within core ≡ true → length (attached_to core c) ≤ 32
attached-few core c within = omega (arith, length-filter-le (is_attached core c) (alarm_refs core), alarms-few core within)

-- An alarm of the core with this action.
module _ (core : Core) (a : AlarmRef) (action : RemoteCall) (is : option_map (λ (x : Alarm). x.action) (own_alarm core a) ≡ Some action) where
  pub by-action : {B : Type 0} (f : RemoteCall → B) (other : B) → option_map_or (λ (x : Alarm). f x.action) (own_alarm core a) other ≡ f action
  by-action f other = by (own_alarm core a) is
    where
      by : (o : Option Alarm) → option_map (λ (x : Alarm). x.action) o ≡ Some action → option_map_or (λ (x : Alarm). f x.action) o other ≡ f action
      by None e = cc
      by (Some x) e = let same : x.action ≡ action = cc in ap f same
