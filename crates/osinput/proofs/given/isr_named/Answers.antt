use Rattle.std.proofs.Common.{◌∙◌, sym, arith}
use Rattle.osinput.proofs.Interrupts.{found-here, found-later, none-left}
use Rattle.osinput.proofs.given.isr_named.Goals as goal

pub returns-then-is_isr_named : goal.returns-then-is_isr_named
returns-then-is_isr_named c = sym (found-here c.args.core.now c.args.name.now c.loop-index.index (omega arith) (sym c.is_isr_named.ensures ∙ c.if-is_isr_named.true)) ∙ c.loop-index.invariant

pub loop-index-preserved : goal.loop-index-preserved
loop-index-preserved c = sym (found-later c.args.core.now c.args.name.now c.loop-index.index (omega arith) (sym c.is_isr_named.ensures ∙ c.if-is_isr_named.false)) ∙ c.loop-index.invariant

pub returns : goal.returns
returns c = sym (none-left c.args.core.now c.args.name.now c.loop-index.index (omega arith)) ∙ c.loop-index.invariant
