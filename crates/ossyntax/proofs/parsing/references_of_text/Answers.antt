use Rattle.std.proofs.Common.{None}
use Rattle.ossyntax.specs.{ParsedOp.words_of, Operation.references_with_verb}
use Rattle.ossyntax.proofs.FirstWord.{first-asked}
use Rattle.ossyntax.proofs.parsing.references_of_text.Goals as goal

pub returns-in-Some : goal.returns-in-Some
returns-in-Some g c =
    let place = g.P.Places.place c.args.places.now in
    rw (first-asked (references_with_verb place) None (words_of c.args.text.now), ← c.first_verb.ensures, c.in-Some.is) c.references_with_verb.ensures

pub returns-in-None : goal.returns-in-None
returns-in-None g c =
    let place = g.P.Places.place c.args.places.now in
    rw (first-asked (references_with_verb place) None (words_of c.args.text.now), ← c.first_verb.ensures, c.in-None.is)
