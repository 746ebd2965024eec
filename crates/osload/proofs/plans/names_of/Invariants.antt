use Rattle.std.proofs.Common.{◌≡◌, take}
use Rattle.osload.proofs.plans.names_of.Given as goal

abbrev pub invariant-loop-text : goal.invariant-loop-text
invariant-loop-text l = l.names ≡ take l.text-index l.texts
