-- The acts of each service are allowed: they name the caller alone, ask no core, and set an alarm as a service grants
-- it.
use Rattle.std.proofs.Common.{◌≡◌, ◌<◌, ◌≤◌, ℕ, suc, Bool, true, is_some, IfSome, arith}
use Rattle.std.proofs.lemmas.Bool.{or_right}
use Rattle.osbase.specs.{declared.statuses.ServiceId.TheVariants.GetCounterValue, declared.references.AlarmRef.AlarmRef, declared.references.Runner.Runner, History.AlarmSet, History.Noted, Objects.counter_object}
use Rattle.oscript.specs.declared.Op.{Op}
use Rattle.osplan.specs.{declared.plans.Core.Core, View.own_alarm}
use Rattle.osclock.specs.Clocks.{is_setting_granted, max_for}
use Rattle.osacts.specs.Seen.{Seen}
use Rattle.osservice.specs.{Checks.first_failing, Checks.is_ok_status, Named.own_of, Service.effect_of}
use Rattle.osservice.proofs.Kept.{AreAllowed, IsNamed, IsSeen, Leave, serves_own-ok}
use Rattle.osservice_alarms.specs.Alarms.{absolute_setting, is_increment, is_setting, is_start, relative_setting, setting_checks}
use Rattle.osservice_alarms.specs.Counters.{counter_acts, value_inquiry}

-- ---- an alarm that is set

admitted : (s : Seen) (a : AlarmRef) (b : Bool) → is_ok_status (first_failing (setting_checks s a b)) ≡ true → b ≡ true
admitted s a b ok = grind arith

relative-granted : (core : Core) (a : AlarmRef) (increment cycle : ℕ) → is_setting (is_increment increment) cycle core a ≡ true → is_setting_granted core (Noted (AlarmSet a increment cycle)) ≡ true
relative-granted core a increment cycle is = grind arith

absolute-granted : (core : Core) (a : AlarmRef) (start first cycle : ℕ) → is_setting (is_start start) cycle core a ≡ true → (is_some (own_alarm core a) ≡ true → (0 < first) × (first ≤ suc (max_for core a))) → is_setting_granted core (Noted (AlarmSet a first cycle)) ≡ true
absolute-granted core a start first cycle is turns = let within = turns (grind arith) in grind (arith, within.0, within.1)

module _ (l : Leave) where
  pub relative-ok : (a : AlarmRef) (increment cycle : ℕ) (s : Seen) → IsSeen l s → AreAllowed l (effect_of (relative_setting a increment cycle s))
  relative-ok a increment cycle s seen = (λ ok. (or_right _ _ (relative-granted l.view.own a increment cycle (rw seen.core at (admitted s a _ ok))), tt), λ e. tt)

  pub absolute-ok : (a : AlarmRef) (start cycle : ℕ) (s : Seen) → IsSeen l s → AreAllowed l (effect_of (absolute_setting a start cycle s))
  absolute-ok a start cycle s seen = (λ ok. (or_right _ _ (absolute-granted l.view.own a start _ cycle (rw seen.core at (admitted s a _ ok)) (seen.turns a start)), tt), λ e. tt)

  pub counter_acts-ok : (r : Runner) (op : Op) → IsNamed l r → IfSome (counter_acts r op) (AreAllowed l)
  counter_acts-ok r (Op.GetCounterValue target x) n =
      serves_own-ok l r GetCounterValue value_inquiry (λ core. own_of counter_object core target) n (λ c s seen. tt)
  counter_acts-ok r op n = tt
