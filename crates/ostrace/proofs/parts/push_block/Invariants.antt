use Rattle.std.proofs.Common.{◌≡◌, ◌++◌, length}
use Rattle.ostrace.specs.Parts.{part_text, parts_text}
use Rattle.ostrace.proofs.parts.push_block.Given as goal

abbrev pub invariant-loop-rest : goal.invariant-loop-rest
invariant-loop-rest l = parts_text l.parts.items ++ part_text l.rest ≡ parts_text l.initial.parts.items ++ part_text l.fn.block

abbrev pub decreases-loop-rest : goal.decreases-loop-rest
decreases-loop-rest l = length l.rest.marks.now
