use Rattle.std.proofs.Common.{ap, ◌∙◌}
use Rattle.osclock.specs.Clocks.{counts_to_in}
use Rattle.osstate.specs.State.{KernelState}
use Rattle.osstate.proofs.state.CoreState.counts_to.Goals as goal

pub returns-clause-value : goal.returns-clause-value
returns-clause-value g c = c.counts_to.ensures.state ∙ ap (λ (s : KernelState). counts_to_in s.view.own c.args.alarm c.args.start s.clocks) c.self.view_is
