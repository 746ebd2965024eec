use Rattle.osstate.proofs.Sounds.{went-down}
use Rattle.osstate.proofs.state.CoreState.go_down.Goals as goal

pub invariant_of-self : goal.invariant_of-self
invariant_of-self g c = rw (c.owe_all.ensures, c.go_down.ensures) (went-down c.self.invariant)
