use Rattle.std.proofs.Common.{arith}
use Rattle.osstate.proofs.Sounds.{goes-on, jobs-later, one_more-within}
use Rattle.osstate.proofs.state.CoreState.queue.Goals as goal

pub invariant_of-self : goal.invariant_of-self
invariant_of-self g c = rw c.count_one.ensures (goes-on _ _ c.self.invariant (jobs-later c.self.invariant.jobs)
    (record {
      caller = c.self.invariant.border.caller;
      awaited = c.self.invariant.border.awaited;
      queued = one_more-within _ c.args.to _ c.self.invariant.border.queued;
      received = (λ k. omega (arith, c.self.invariant.border.received k));
    }) c.self.invariant.times)
