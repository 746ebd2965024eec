use Rattle.std.proofs.Common.{◌≡◌, ◌<◌, ◌&&◌, Bool, true, false, not, refl, sym, subst, ◌∙◌, rules, arith}
use Rattle.std.proofs.lemmas.Bool.{leb-false}
use Rattle.osbase.specs.{declared.references.Runner.Runner, declared.references.TaskRef.TaskRef, History.job_count, History.same_runner, History.without_oldest}
use Rattle.osbase.proofs.Same.{same_runner-true}
use Rattle.osstate.specs.{Queries.is_at_limit_in, Sound.activation_limit, State.KernelState}
use Rattle.osstate.proofs.JobLists.{job_count-without_oldest}
use Rattle.oschain.proofs.chaining.chain_here.Goals as goal

-- once the caller has ended, the task has fewer jobs than it may have
below : (old new : KernelState) (caller t : TaskRef) → new.view ≡ old.view → new.tasks.jobs ≡ without_oldest (Runner.Task caller) old.tasks.jobs → job_count (Runner.Task caller) new.tasks.jobs < activation_limit new.view.own (Runner.Task caller) → (not (same_runner (Runner.Task caller) (Runner.Task t)) && is_at_limit_in t old) ≡ false → job_count (Runner.Task t) new.tasks.jobs < activation_limit new.view.own (Runner.Task t)
below old new caller t view jobs own allowed = by (same_runner (Runner.Task caller) (Runner.Task t)) refl allowed
  where
    by : (b : Bool) → same_runner (Runner.Task caller) (Runner.Task t) ≡ b → (not b && is_at_limit_in t old) ≡ false → job_count (Runner.Task t) new.tasks.jobs < activation_limit new.view.own (Runner.Task t)
    by true same a = subst (λ (q : Runner). job_count q new.tasks.jobs < activation_limit new.view.own q) (same_runner-true (Runner.Task caller) (Runner.Task t) same) own
    by false same a =
        rw (view, jobs) (let less = leb-false (activation_limit old.view.own (Runner.Task t)) (job_count (Runner.Task t) old.tasks.jobs) a in
        omega (arith, less, job_count-without_oldest (Runner.Task t) (Runner.Task caller) old.tasks.jobs))

pub activate-requires : goal.activate-requires
activate-requires g c =
    let limit : job_count (Runner.Task c.args.task) c.end_task.new.state.tasks.jobs < activation_limit c.end_task.new.state.view.own (Runner.Task c.args.task) =
    below c.args.state.now c.end_task.new.state c.args.caller c.args.task c.end_task.ensures.steps.view c.end_task.ensures.jobs c.end_task.ensures.below (sym c.exceeds_limit.ensures ∙ c.if-exceeds_limit.false) in
    search (rules, limit)
