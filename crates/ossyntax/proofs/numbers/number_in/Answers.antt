use Rattle.std.proofs.Common.{sym, arith}
use Rattle.ossyntax.proofs.Numerals.{too-large}
use Rattle.ossyntax.proofs.numbers.number_in.Goals as goal

pub returns-in-Err-clause-value : goal.returns-in-Err-clause-value
returns-in-Err-clause-value c = sym (too-large c.args.low c.args.high c.args.word.now c.in-Err.field-0 (omega arith) (sym c.if-not-is_decimal.ensures) c.in-Err.ensures.value.0)
