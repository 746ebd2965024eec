-- A service grants the last setting of each alarm.
use Rattle.std.proofs.Common.{◌≡◌, Bool, true, false, cond, Option, Some, None, option_map, [], ◌∷◌, refl, ap, sym, ◌∙◌}
use Rattle.std.specs.Option.{option_map_or}
use Rattle.std.proofs.lemmas.Bool.{and_parts}
use Rattle.osbase.specs.declared.references.AlarmRef.{AlarmRef}
use Rattle.osbase.specs.History.{History, Entry, Noted, CounterIncremented, AlarmSet, AlarmCancelled}
use Rattle.osbase.specs.Counting.{AlarmSetting, alarm_after, alarm_of, is_granted, is_in_turn, one_count_more, same_alarm, same_counter}
use Rattle.osbase.proofs.Same.{same_alarm-true}
use Rattle.osplan.specs.{declared.plans.Alarm.Alarm as AlarmValue, declared.plans.Core.Core, View.own_alarm}
use Rattle.oscount.specs.Clocks.{setting_of}
use Rattle.osclock.specs.Clocks.{are_settings_granted, is_setting_granted, max_for, max_of}

module _ (core : Core) (a : AlarmRef) (x : AlarmValue) (own : own_alarm core a ≡ Some x) where
  step : (e : Entry) (setting : Option AlarmSetting) → is_setting_granted core e ≡ true → is_granted (max_of core x.counter) setting ≡ true → is_granted (max_of core x.counter) (alarm_after x.counter a e setting) ≡ true
  step (Noted (AlarmSet b first cycle)) setting set before = by (same_alarm b a) refl
    where
      here : same_alarm b a ≡ true → is_in_turn (max_of core x.counter) (setting_of first cycle) ≡ true
      here same =
          ap (λ (o : Option AlarmValue). is_in_turn (option_map_or (λ (y : AlarmValue). max_of core y.counter) o 0) (setting_of first cycle)) (sym own)
          ∙ ap (λ (r : AlarmRef). is_in_turn (max_for core r) (setting_of first cycle)) (sym (same_alarm-true b a same)) ∙ set

      by : (c : Bool) → same_alarm b a ≡ c → is_granted (max_of core x.counter) (cond c (Some (setting_of first cycle)) setting) ≡ true
      by true same = here same
      by false same = before
  step (Noted (AlarmCancelled b)) setting set before = by (same_alarm b a)
    where
      by : (c : Bool) → is_granted (max_of core x.counter) (cond c None setting) ≡ true
      by true = refl
      by false = before
  step (Noted (CounterIncremented d)) setting set before = by (same_counter d x.counter) setting before
    where
      by : (c : Bool) (o : Option AlarmSetting) → is_granted (max_of core x.counter) o ≡ true → is_granted (max_of core x.counter) (cond c (option_map one_count_more o) o) ≡ true
      by true None held = held
      by true (Some y) held = held
      by false o held = held
  step e setting set before = before

  pub granted : (h : History) → are_settings_granted core h ≡ true → is_granted (max_of core x.counter) (alarm_of x.counter a h) ≡ true
  granted [] set = refl
  granted (e ∷ h) set = let parts = and_parts (is_setting_granted core e) _ set in step e (alarm_of x.counter a h) parts.0 (granted h parts.1)
