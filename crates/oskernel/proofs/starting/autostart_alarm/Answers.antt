use Rattle.std.proofs.Common.{◌≡◌, Some, IsTrue, rules, ap, ◌∙◌}
use Rattle.std.proofs.lemmas.Option.{slice_get_within}
use Rattle.osbase.specs.{declared.references.AlarmRef.AlarmRef, Objects.alarm_object}
use Rattle.osplan.specs.{Objects.is_own_object, View.own_alarm}
use Rattle.osclock.specs.Clocks.{alarm_ref}
use Rattle.osclock.proofs.{Places.alarm-is, Places.alarm-own, Starts.starts-within}
use Rattle.oskernel.proofs.starting.autostart_alarm.Goals as goal

pub set_alarm-requires : goal.set_alarm-requires
set_alarm-requires g c =
    let own = c.args.state.now.view.own in
    let alarm : AlarmRef = record { core = c.id-core.result; index = c.args.index } in
    let here : alarm ≡ alarm_ref own c.args.index = λ i. record { core = c.id-core.ensures.own i; index = c.args.index } in
    let place = alarm-own own c.args.index (slice_get_within own.alarms c.args.index c.args.alarm.now c.requires.own) in
    let found : own_alarm own alarm ≡ Some c.args.alarm.now = ap (own_alarm own) here ∙ alarm-is own (alarm_ref own c.args.index) place ∙ c.requires.own in
    let bounds = starts-within own alarm c.args.alarm.now c.in-Some.start c.requires.within found c.in-Some.is in
    let mine : IsTrue (is_own_object own (alarm_object alarm)) = ap (λ (a : AlarmRef). is_own_object own (alarm_object a)) here ∙ place in
    search (rules, mine, bounds.later, bounds.turn, bounds.cycle)
