use Rattle.std.proofs.Common.{ap, ◌∙◌}
use Rattle.osclock.specs.Clocks.{left_in}
use Rattle.osstate.specs.State.{KernelState}
use Rattle.osstate.proofs.state.CoreState.counts_left.Goals as goal

pub returns : goal.returns
returns g c = c.left.ensures ∙ ap (λ (s : KernelState). left_in s.view.own c.args.alarm s.clocks) c.self.view_is
