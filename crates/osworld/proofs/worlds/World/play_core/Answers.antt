use Rattle.std.proofs.Common.{◌∷◌, [], ◌++◌, ◌||◌, ◌∙◌, List, append_assoc, subst}
use Rattle.osbase.specs.{declared.references.CoreId.CoreId, declared.turns.Choice.Choice, declared.turns.Choice.TheVariants.Look, declared.turns.Choice.TheVariants.Own}
use Rattle.osworld.specs.{Playing.PlaysTurns, Playing.StopsShort, Runs.serves_of}
use Rattle.osworld.proofs.{Played.plays-on, Played.stops-first, Played.stops-on, Turned.on_err}
use Rattle.osworld.proofs.worlds.World.play_core.Goals as goal

pub returns-in_err-served-clause-err : goal.returns-in_err-served-clause-err
returns-in_err-served-clause-err c =
    on_err c.from_residual.result (stops-first c.args.self.now c.serve_all.new.self (serves_of c.args.ids.now c.args.id) ((c.args.id, Own) ∷ (c.args.id, Look) ∷ []) c.in_err-served.ensures.err)

pub returns-in_err-own-clause-err : goal.returns-in_err-own-clause-err
returns-in_err-own-clause-err c =
    on_err c.from_residual-in_err-own.result
    (stops-on c.args.self.now c.serve_all.new.self c.turn.new.self c.in_ok-served.ensures.config (serves_of c.args.ids.now c.args.id) ((c.args.id, Own) ∷ []) c.in_ok-served.served c.in_ok-served.ensures.ok ((c.args.id, Look) ∷ []) c.in_err-own.ensures.err)

pub returns-in_err-looked-clause-err : goal.returns-in_err-looked-clause-err
returns-in_err-looked-clause-err c =
    let serves : List (CoreId × Choice) = serves_of c.args.ids.now c.args.id in
    let own : List (CoreId × Choice) = (c.args.id, Own) ∷ [] in
    let look : List (CoreId × Choice) = (c.args.id, Look) ∷ [] in
    on_err c.from_residual-in_err-looked.result
    (subst (λ (ts : List (CoreId × Choice)). StopsShort ts c.args.self.now c.turn-2.new.self) (append_assoc serves own look)
    (stops-on c.args.self.now c.turn.new.self c.turn-2.new.self (c.in_ok-own.ensures.config ∙ c.in_ok-served.ensures.config) (serves ++ own) look (c.in_ok-own.own || c.in_ok-served.served)
    (plays-on c.args.self.now c.serve_all.new.self c.turn.new.self c.in_ok-served.ensures.config serves own c.in_ok-served.served c.in_ok-served.ensures.ok c.in_ok-own.own c.in_ok-own.ensures.ok)
    [] c.in_err-looked.ensures.err))

pub returns-clause-ok : goal.returns-clause-ok
returns-clause-ok c =
    let serves : List (CoreId × Choice) = serves_of c.args.ids.now c.args.id in
    let own : List (CoreId × Choice) = (c.args.id, Own) ∷ [] in
    let look : List (CoreId × Choice) = (c.args.id, Look) ∷ [] in
    (subst (λ (ts : List (CoreId × Choice)). PlaysTurns ts c.args.self.now (c.in_ok-looked.looked || (c.in_ok-own.own || c.in_ok-served.served)) c.turn-2.new.self) (append_assoc serves own look)
    (plays-on c.args.self.now c.turn.new.self c.turn-2.new.self (c.in_ok-own.ensures.config ∙ c.in_ok-served.ensures.config) (serves ++ own) look (c.in_ok-own.own || c.in_ok-served.served)
    (plays-on c.args.self.now c.serve_all.new.self c.turn.new.self c.in_ok-served.ensures.config serves own c.in_ok-served.served c.in_ok-served.ensures.ok c.in_ok-own.own c.in_ok-own.ensures.ok)
    c.in_ok-looked.looked c.in_ok-looked.ensures.ok))
