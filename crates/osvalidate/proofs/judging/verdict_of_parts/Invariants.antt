use Rattle.std.proofs.Common.{◌≡◌, take}
use Rattle.osvalidate.specs.{Verdict.each, Words.Op, declared.verdicts.Judged.Judged}
use Rattle.osvalidate.proofs.judging.verdict_of_parts.Given as goal

abbrev pub invariant-loop-part : goal.invariant-loop-part
invariant-loop-part l = l.verdict ≡ each (λ (part : Judged Op). part.verdict) (take l.part-index l.parts)
