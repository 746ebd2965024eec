use Rattle.std.proofs.Common.{◌≡◌, ◌<◌, false, rules, arith, sym, subst}
use Rattle.osbase.specs.declared.references.Runner.TheVariants as Runner
use Rattle.osbase.specs.{History.Printed, History.job_count, Phases.is_before_live}
use Rattle.osjobs.proofs.Configured.{own-listed}
use Rattle.osbase.specs.declared.marks.Mark.TheVariants as Mark
use Rattle.osstate.specs.{Sound.IsSound, Sound.activation_limit, State.KernelState}
use Rattle.osstate.proofs.{Sounds.activated, Sounds.place, Histories.own-step, Room.own_from_place}
use Rattle.osstate.proofs.state.CoreState.activate.Goals as goal

pub activate-requires : goal.activate-requires
activate-requires g c =
    let below : job_count (Runner.Task c.args.task) c.self.inside.jobs.jobs < activation_limit c.self.inside.core.now (Runner.Task c.args.task)
    = subst (λ (s : KernelState). job_count (Runner.Task c.args.task) s.tasks.jobs < activation_limit s.view.own (Runner.Task c.args.task)) (sym c.self.view_is) c.requires.limit in
    (search rules, (place g.row.P g.row.J c.args.task _ c.self.invariant below, (rw c.self.invariant.jobs.tasks (own-listed c.self.inside.core.now c.args.task (own_from_place c.self.inside.core.now (Runner.Task c.args.task) (omega (arith, below)))), c.self.invariant.jobs.stamps)))

pub invariant_of-self : goal.invariant_of-self
invariant_of-self g c =
    rw (c.activate.ensures, c.record.ensures.progress) (activated g.row.P g.row.J c.args.task _ c.self.invariant
    (subst (λ (s : KernelState). job_count (Runner.Task c.args.task) s.tasks.jobs < activation_limit s.view.own (Runner.Task c.args.task)) (sym c.self.view_is) c.requires.limit)
    (subst (λ (s : KernelState). is_before_live s.progress.phase ≡ false) (sym c.self.view_is) c.requires.live))

pub returns-clause-state : goal.returns-clause-state
returns-clause-state g c = own-step (Printed (Mark.Activated c.args.task)) (subst (IsSound g.row.P g.row.J) c.self.view_is c.self.invariant) (own_from_place c.args.self.now.view.own (Runner.Task c.args.task) (omega (arith, c.requires.limit))) (search rules)
