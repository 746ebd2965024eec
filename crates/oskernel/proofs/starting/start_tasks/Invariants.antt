use Rattle.std.proofs.Common.{◌≡◌, Some}
use Rattle.osplan.specs.declared.plans.Core.{Core}
use Rattle.osacts.specs.Steps.{Steps}
use Rattle.oskernel.specs.{Step.autostarts_task, Taking.agreement_on, Taking.have_places}
use Rattle.osservice.proofs.Numbered.{acted}
use Rattle.oskernel.proofs.starting.start_tasks.Given as goal

abbrev pub invariant-loop-task : goal.invariant-loop-task
invariant-loop-task g l = record {
  place : l.index ≡ l.task-index;
  ready : have_places l.task-index l.state;
  steps : Steps l.task-index l.task-index (acted (autostarts_task (Some (agreement_on l.mode))) (λ (core : Core). core.tasks) l.initial.state.view.own l.task-index) l.initial.state l.state l.initial.marks l.marks;
}
