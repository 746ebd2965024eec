use Rattle.std.proofs.Common.{◌≡◌, Some}
use Rattle.osplan.specs.declared.plans.Core.{Core}
use Rattle.osacts.specs.Steps.{QuietSteps}
use Rattle.oskernel.specs.{Step.autostarts_alarm, Taking.agreement_on}
use Rattle.osservice.proofs.Numbered.{acted}
use Rattle.oskernel.proofs.starting.start_alarms.Given as goal

abbrev pub invariant-loop-alarm : goal.invariant-loop-alarm
invariant-loop-alarm g l = record {
  place : l.index ≡ l.alarm-index;
  steps : QuietSteps l.alarm-index (acted (autostarts_alarm (Some (agreement_on l.mode))) (λ (core : Core). core.alarms) l.initial.state.view.own l.alarm-index) l.initial.state l.state;
}
