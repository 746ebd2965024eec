use Rattle.std.proofs.Common.{rules, map}
use Rattle.oscript.specs.Rows.{kinds_of}
use Rattle.ossyntax.specs.{ParsedOp.rest_words, Operation.unranged}
use Rattle.ossyntax.proofs.Meant.{meant-args}
use Rattle.ossyntax.proofs.parsing.references_with_verb.Goals as goal

pub returns-in-Some : goal.returns-in-Some
returns-in-Some g c = rw (meant-args (g.P.Places.place c.args.places.now) (map unranged (kinds_of c.args.verb)) (rest_words c.args.rest)) (search rules)
