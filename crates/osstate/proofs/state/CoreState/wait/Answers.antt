use Rattle.std.proofs.Common.{rules, refl, subst, ◌≡◌, true, sym, []}
use Rattle.osbase.specs.declared.marks.Mark.TheVariants as Mark
use Rattle.osbase.specs.History.{Printed}
use Rattle.osbase.specs.declared.references.Runner.TheVariants as Runner
use Rattle.osjobs.specs.Priorities.{is_extended, is_own_runner}
use Rattle.osjobs.proofs.Configured.{own-listed}
use Rattle.osstate.specs.{Sound.IsSound, State.KernelState}
use Rattle.osstate.proofs.{Room.one-job, Histories.own-step, Sounds.same-jobs}
use Rattle.osstate.proofs.state.CoreState.wait.Goals as goal

pub wait-requires : goal.wait-requires
wait-requires g c =
    let own : is_own_runner c.self.inside.core.now (Runner.Task c.args.task) ≡ true = subst (λ (s : KernelState). is_own_runner s.view.own (Runner.Task c.args.task) ≡ true) (sym c.self.view_is) c.requires.own in
    let extended : is_extended c.self.inside.core.now (Runner.Task c.args.task) ≡ true = subst (λ (s : KernelState). is_extended s.view.own (Runner.Task c.args.task) ≡ true) (sym c.self.view_is) c.requires.extended in
    let single = one-job c.self.inside.core.now c.args.task c.self.inside.jobs.jobs c.self.invariant.tasks.single c.self.invariant.jobs.within extended in
    (search rules, (rw c.self.invariant.jobs.tasks (own-listed c.self.inside.core.now c.args.task own), single))

pub invariant_of-self : goal.invariant_of-self
invariant_of-self g c = rw (c.wait.ensures, c.record.ensures.progress) (same-jobs [] (Printed (Mark.EventAwaited c.args.task c.args.mask)) refl refl c.self.invariant)

pub returns-clause-state : goal.returns-clause-state
returns-clause-state g c = own-step (Printed (Mark.EventAwaited c.args.task c.args.mask)) (subst (IsSound g.row.P g.row.J) c.self.view_is c.self.invariant) c.requires.own (search rules)
