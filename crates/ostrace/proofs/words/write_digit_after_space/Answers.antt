use Rattle.std.proofs.lemmas.Fmt.{decimal_digit}
use Rattle.ostrace.proofs.words.write_digit_after_space.Goals as goal

pub returns : goal.returns
returns g c = rw (decimal_digit c.args.digit c.requires.digit) c.put.ensures
