use Rattle.std.proofs.Common.{sym, ap, ◌∙◌, pos, option_map}
use Rattle.ossyntax.proofs.Numerals.{int_of-plain}
use Rattle.ossyntax.proofs.numbers.int_of.Goals as goal

pub returns-in-None-number_in-2 : goal.returns-in-None-number_in-2
returns-in-None-number_in-2 c = ap (option_map (λ n. pos n)) c.in-None-number_in-2.ensures.value ∙ sym (int_of-plain c.args.word.now c.in-None.ensures.cases)
