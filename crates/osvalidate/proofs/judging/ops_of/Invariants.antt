use Rattle.std.proofs.Common.{◌≡◌, map, take}
use Rattle.osvalidate.specs.{Words.Op, declared.verdicts.Judged.Judged}
use Rattle.osvalidate.proofs.judging.ops_of.Given as goal

abbrev pub invariant-loop-part : goal.invariant-loop-part
invariant-loop-part l = l.ops.items ≡ map (λ (part : Judged Op). part.value) (take l.part-index l.parts)
