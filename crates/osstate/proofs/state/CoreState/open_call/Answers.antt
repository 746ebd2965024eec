use Rattle.std.proofs.Common.{◌≡◌, true, arith, sym, subst}
use Rattle.osjobs.specs.Priorities.{is_own_runner}
use Rattle.osstate.specs.State.{KernelState}
use Rattle.osstate.proofs.Sounds.{goes-on, jobs-later}
use Rattle.osstate.proofs.state.CoreState.open_call.Goals as goal

pub invariant_of-self : goal.invariant_of-self
invariant_of-self g c =
    goes-on _ _ c.self.invariant (jobs-later c.self.invariant.jobs)
    (record {
      caller = subst (λ (s : KernelState). is_own_runner s.view.own c.args.call.runner ≡ true) (sym c.self.view_is) c.requires.own;
      awaited = c.requires.lock;
      queued = (λ k. omega (arith, c.self.invariant.border.queued k));
      received = (λ k. omega (arith, c.self.invariant.border.received k));
    })
    c.self.invariant.times
