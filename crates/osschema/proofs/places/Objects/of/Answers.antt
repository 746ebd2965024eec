use Rattle.osschema.proofs.Naming.{declared-named}
use Rattle.osschema.proofs.places.Objects.of.Goals as goal

pub invariant_of-result-clause-named : goal.invariant_of-result-clause-named
invariant_of-result-clause-named c = rw c.in_ok-declared.ensures (declared-named c.args.text.now c.requires.named)
