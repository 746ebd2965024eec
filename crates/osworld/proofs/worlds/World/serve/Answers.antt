use Rattle.std.proofs.{Common.List, Common.sym, Common.subst, lemmas.Bool.ne_eqb}
use Rattle.std.specs.Result.{IfOk, OnErr}
use Rattle.osbase.specs.{declared.references.CoreId.CoreId, declared.turns.Choice.Choice}
use Rattle.osworld.specs.Playing.{PlaysTurns, StopsShort}
use Rattle.osworld.proofs.Served.{serves-other}
use Rattle.osworld.proofs.worlds.World.serve.Goals as goal

pub returns-else-other-id-clause-ok : goal.returns-else-other-id-clause-ok
returns-else-other-id-clause-ok c =
    subst (λ (ts : List (CoreId × Choice)). IfOk c.turn.result (λ changed. PlaysTurns ts c.args.self.now changed c.turn.new.self))
    (sym (serves-other c.args.other c.args.id (ne_eqb c.args.other.number c.args.id.number c.if-other-id.false))) c.turn.ensures.ok

pub returns-else-other-id-clause-err : goal.returns-else-other-id-clause-err
returns-else-other-id-clause-err c =
    subst (λ (ts : List (CoreId × Choice)). OnErr c.turn.result (StopsShort ts c.args.self.now c.turn.new.self))
    (sym (serves-other c.args.other c.args.id (ne_eqb c.args.other.number c.args.id.number c.if-other-id.false))) c.turn.ensures.err
