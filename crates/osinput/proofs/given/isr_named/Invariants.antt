use Rattle.std.proofs.Common.{◌≡◌}
use Rattle.std.specs.Prelude.{find}
use Rattle.osinput.specs.Given.{is_isr_named, isr_named}
use Rattle.osinput.proofs.Interrupts.{refs_from}
use Rattle.osinput.proofs.given.isr_named.Given as goal

abbrev pub invariant-loop-index : goal.invariant-loop-index
invariant-loop-index l = find (is_isr_named l.core l.name) (refs_from l.core l.index) ≡ isr_named l.core l.name
