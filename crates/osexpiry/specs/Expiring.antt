-- What an alarm does when it expires.
use Rattle.std.specs.{Prelude.List, Option.option_map_or}
use Rattle.osbase.specs.{declared.references.AlarmRef.AlarmRef, declared.messages.RemoteCall.RemoteCall}
use Rattle.osbase.specs.declared.marks.Mark.TheVariants as Mark
use Rattle.osplan.specs.{declared.plans.Alarm.Alarm, View.own_alarm}
use Rattle.osacts.specs.Acts.{Acts, Prints, for_each, look, nothing, one_then}
use Rattle.osaction.specs.Actions.{acts}

-- Prints the alarm's line, and then does its action. [OSEK/VDX OS 2.2.3, section 9.2]
abbrev pub expires_by : AlarmRef → RemoteCall → Acts
expires_by a action = one_then (Prints (Mark.AlarmExpired a)) (acts action)

-- The core's alarm expires, and does its configured action. An alarm of another core does nothing.
abbrev pub expires : AlarmRef → Acts
expires a = look (λ s. option_map_or (λ (x : Alarm). expires_by a x.action) (own_alarm s.core a) nothing)

abbrev pub expire_each : List AlarmRef → Acts
expire_each due = for_each expires due
