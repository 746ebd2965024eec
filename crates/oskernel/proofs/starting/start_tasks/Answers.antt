use Rattle.std.proofs.Common.{◌≡◌, ℕ, Some, rules, sym, subst, arith}
use Rattle.std.specs.List.{slice_get}
use Rattle.osplan.specs.declared.plans.Core.{Core}
use Rattle.osacts.specs.Steps.{Steps}
use Rattle.osacts.proofs.Each.{unmoved}
use Rattle.oskernel.specs.{Step.autostarts_task, Taking.agreement_on, Taking.have_places}
use Rattle.oskernel.proofs.Autostart.{first-places}
use Rattle.osservice.proofs.Numbered.{all-acted, object-at, one-more}
use Rattle.oskernel.proofs.starting.start_tasks.Goals as goal

pub loop-task-init : goal.loop-task-init
loop-task-init g c = record { place = omega arith; ready = first-places c.args.state.now c.tasks-tasks.ensures.some c.requires.fresh; steps = unmoved }

pub autostart_task-requires : goal.autostart_task-requires
autostart_task-requires g c =
    let own : slice_get c.loop-task.state.view.own.tasks c.loop-task.index ≡ Some c.task-item.result =
    object-at (autostarts_task (Some (agreement_on c.args.mode))) (λ (core : Core). core.tasks) c.args.state.now c.loop-task.state c.tasks-tasks.result.now c.loop-task.index c.loop-task.task-index c.task-item.result c.tasks-tasks.ensures.value c.loop-task.invariant.steps.view c.loop-task.invariant.place c.loop-task-test.true c.task-item.is in
    let ready : have_places c.loop-task.index c.loop-task.state = subst (λ (n : ℕ). have_places n c.loop-task.state) (sym c.loop-task.invariant.place) c.loop-task.invariant.ready in
    search (rules, own, ready)

pub loop-task-preserved : goal.loop-task-preserved
loop-task-preserved g c = record {
  place = omega arith;
  ready = subst (λ (n : ℕ). have_places n c.autostart_task.new.state) (omega arith) c.autostart_task.ensures.ready;
  steps = one-more (autostarts_task (Some (agreement_on c.args.mode))) (λ (core : Core). core.tasks) c.tasks-tasks.result.now c.loop-task.task-index c.tasks-tasks.ensures.value c.task-item.result c.loop-task-test.true c.task-item.is
      (omega arith) (omega arith) c.loop-task.invariant.steps
      (subst (λ (n : ℕ). Steps 1 1 (autostarts_task (Some (agreement_on c.args.mode)) c.loop-task.state.view.own n c.task-item.result) c.loop-task.state c.autostart_task.new.state c.loop-task.marks c.autostart_task.new.marks) c.loop-task.invariant.place c.autostart_task.ensures.steps);
}

pub returns : goal.returns
returns g c =
    all-acted (autostarts_task (Some (agreement_on c.args.mode))) (λ (core : Core). core.tasks) c.tasks-tasks.result.now c.loop-task.task-index c.tasks-tasks.ensures.value c.loop-task-test.false
    (omega (arith, c.tasks-tasks.ensures.few)) (omega (arith, c.tasks-tasks.ensures.few)) c.loop-task.invariant.steps
