use Rattle.osgroup.proofs.Least.{IsWithin}
use Rattle.osgroup.proofs.groups.least_of.Given as goal

abbrev pub invariant-loop-round : goal.invariant-loop-round
invariant-loop-round l = IsWithin l.plan l.fn.core l._round l.cores
