use Rattle.std.proofs.Common.{◌≡◌, ℕ, Some, rules, subst, arith}
use Rattle.std.specs.List.{slice_get}
use Rattle.osplan.specs.{declared.plans.Core.Core}
use Rattle.osacts.specs.Steps.{QuietSteps}
use Rattle.oskernel.specs.{Step.autostarts_alarm, Taking.agreement_on}
use Rattle.osservice.proofs.Numbered.{all-noted, object-at, one-noted}
use Rattle.oskernel.proofs.starting.start_alarms.Goals as goal

pub autostart_alarm-requires : goal.autostart_alarm-requires
autostart_alarm-requires g c =
    let before = c.loop-alarm.invariant in
    let own : slice_get c.loop-alarm.state.view.own.alarms c.loop-alarm.index ≡ Some c.alarm-item.result =
    object-at (autostarts_alarm (Some (agreement_on c.args.mode))) (λ (core : Core). core.alarms) c.args.state.now c.loop-alarm.state c.alarms-alarms.result.now c.loop-alarm.index c.loop-alarm.alarm-index c.alarm-item.result c.alarms-alarms.ensures.value before.steps.view before.place c.loop-alarm-test.true c.alarm-item.is in
    search (rules, arith, own)

pub loop-alarm-preserved : goal.loop-alarm-preserved
loop-alarm-preserved g c = record {
  place = omega arith;
  steps = one-noted (autostarts_alarm (Some (agreement_on c.args.mode))) (λ (core : Core). core.alarms) c.alarms-alarms.result.now c.loop-alarm.alarm-index c.alarms-alarms.ensures.value c.alarm-item.result c.loop-alarm-test.true c.alarm-item.is
      (omega arith) c.loop-alarm.invariant.steps
      (subst (λ (n : ℕ). QuietSteps 1 (autostarts_alarm (Some (agreement_on c.args.mode)) c.loop-alarm.state.view.own n c.alarm-item.result) c.loop-alarm.state c.autostart_alarm.new.state) c.loop-alarm.invariant.place c.autostart_alarm.ensures);
}

pub returns : goal.returns
returns g c =
    all-noted (autostarts_alarm (Some (agreement_on c.args.mode))) (λ (core : Core). core.alarms) c.alarms-alarms.result.now c.loop-alarm.alarm-index c.alarms-alarms.ensures.value c.loop-alarm-test.false
    (omega (arith, c.alarms-alarms.ensures.few)) c.loop-alarm.invariant.steps
