use Rattle.std.proofs.Common.{arith}
use Rattle.ossyntax.proofs.Known.{known_named}
use Rattle.ossyntax.proofs.parsing.is_known.Goals as goal

pub returns-then-is_some : goal.returns-then-is_some
returns-then-is_some g c = rw (← known_named (g.P.Places.place c.args.places.now) c.args.text.now, ← c.references_of_text.ensures) (grind arith)

pub returns-else-is_some : goal.returns-else-is_some
returns-else-is_some g c =
    rw (← known_named (g.P.Places.place c.args.places.now) c.args.text.now, ← c.references_of_text.ensures, ← c.references_of_text-else-is_some.ensures) (grind arith)
