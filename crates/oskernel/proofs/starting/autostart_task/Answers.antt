use Rattle.std.proofs.Common.{◌≡◌, ◌<◌, ◌++◌, ◌∷◌, [], rules, ap, sym, subst, ◌∙◌, arith}
use Rattle.std.proofs.lemmas.Option.{slice_get_within}
use Rattle.osbase.specs.{declared.references.TaskRef.TaskRef, History.job_count}
use Rattle.osbase.specs.declared.references.Runner.TheVariants as Runner
use Rattle.osstate.specs.{Readings.task_ref, Sound.activation_limit, State.KernelState}
use Rattle.oskernel.proofs.Autostart.{later-places}
use Rattle.oskernel.proofs.starting.autostart_task.Goals as goal

pub activate-requires : goal.activate-requires
activate-requires g c =
    let task : TaskRef = record { core = c.id-core.result; index = c.args.index } in
    let here : task_ref c.args.state.now.view.own c.args.index ≡ task = λ i. record { core = sym c.id-core.ensures.own i; index = c.args.index } in
    let limit : job_count (Runner.Task task) c.args.state.now.tasks.jobs < activation_limit c.args.state.now.view.own (Runner.Task task) =
    subst (λ (r : TaskRef). job_count (Runner.Task r) c.args.state.now.tasks.jobs < activation_limit c.args.state.now.view.own (Runner.Task r)) here (c.requires.ready c.args.index (omega arith) (slice_get_within c.args.state.now.view.own.tasks c.args.index c.args.task.now c.requires.own)) in
    search (rules, limit)

pub returns-then-is_started_in-clause-ready : goal.returns-then-is_started_in-clause-ready
returns-then-is_started_in-clause-ready g c =
    let here : record { core = c.id-core.result; index = c.args.index } ≡ task_ref c.args.state.now.view.own c.args.index = λ i. record { core = c.id-core.ensures.own i; index = c.args.index } in
    later-places c.args.state.now c.activate.new.self c.args.index c.args.state.now.progress.entries (ap (λ (s : KernelState). s.view) c.activate.ensures.state)
    (ap (λ (s : KernelState). s.tasks.jobs) c.activate.ensures.state ∙ (λ i. c.args.state.now.tasks.jobs ++ record { runner = Runner.Task (here i); stamp = c.args.state.now.progress.entries } ∷ [])) c.requires.ready
