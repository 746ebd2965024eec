-- A core's own alarms, by place.
use Rattle.std.proofs.Common.{◌≡◌, ℕ, ◌<◌, true, is_some, length, refl, ap}
use Rattle.std.specs.List.{slice_get}
use Rattle.osbase.specs.{declared.references.AlarmRef.AlarmRef, Objects.alarm_object, Objects.alarm_of, Objects.alarm_place}
use Rattle.osplan.specs.{declared.plans.Core.Core, Objects.is_own_object, View.own_alarm}
pub use Rattle.osplan.proofs.Counters.{counter-own}
use Rattle.osattached.proofs.Own.{Placed, own-is, own-some, own-there}
use Rattle.osclock.specs.Clocks.{alarm_family, alarm_ref}

-- The family of alarms has all of the core's alarms, by their places.
abbrev pub placed : (core : Core) → Placed core.id (length core.counters) (alarm_family core)
placed core = record { place = alarm_place; plans = core.alarms; ref = (λ a is. ap alarm_of is); at = (λ n. refl); own = (λ a. refl); all = refl }

pub alarm-is : (core : Core) (a : AlarmRef) → is_own_object core (alarm_object a) ≡ true → own_alarm core a ≡ slice_get core.alarms a.index
alarm-is core a own = own-is (placed core) a own

pub alarm-some : (core : Core) (a : AlarmRef) → is_own_object core (alarm_object a) ≡ true → is_some (own_alarm core a) ≡ true
alarm-some core a own = own-some (placed core) a own

pub alarm-own : (core : Core) (n : ℕ) → n < length core.alarms → is_own_object core (alarm_object (alarm_ref core n)) ≡ true
alarm-own core n inside = own-there (placed core) n inside
