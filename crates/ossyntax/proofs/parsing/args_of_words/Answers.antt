use Rattle.std.proofs.Common.{sym}
use Rattle.ossyntax.proofs.Meant.{none_left}
use Rattle.ossyntax.proofs.parsing.args_of_words.Goals as goal

pub returns-in-Some : goal.returns-in-Some
returns-in-Some g c = rw (c.in-Zero.is, c.in-Some.is) (sym (none_left (g.P.Places.place c.args.places.now) c.in-Some.field-0.now))
