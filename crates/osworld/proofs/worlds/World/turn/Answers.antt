use Rattle.std.proofs.Common.{[], ◌∷◌, sym, ◌∙◌}
use Rattle.std.proofs.lemmas.{Result.IfOk-weaker, Result.on_err_weaker}
use Rattle.osbase.specs.declared.references.CoreId.{CoreId}
use Rattle.osworld.specs.Playing.{SitsAt, StopsShort}
use Rattle.osworld.proofs.Turned.{idle-look, nobody-played, unanswered-played}
use Rattle.osworld.proofs.worlds.World.turn.Goals as goal

pub returns-in_default-clause-ok : goal.returns-in_default-clause-ok
returns-in_default-clause-ok c stimuli w plays =
    nobody-played c.args.self.now.config.now stimuli w c.args.self.now.core_runs.items c.args.self.now.shared plays c.args.core c.args.choice (sym c.place_of.ensures.place ∙ c.in_default.is)

pub returns-then-is_idle_look-clause-ok : goal.returns-then-is_idle_look-clause-ok
returns-then-is_idle_look-clause-ok c stimuli w plays =
    unanswered-played c.args.self.now.config.now stimuli w c.args.self.now.core_runs.items c.args.self.now.shared plays c.args.core c.args.choice c.in-Some.at c.index.result.now
    (sym c.place_of.ensures.place ∙ c.in-Some.is) c.index.ensures (idle-look c.index.result.now.plan.now c.args.self.now.shared c.index.result.now.id c.index.result.now.stimuli.now c.index.result.now.kernel c.args.choice (sym c.is_idle_look.ensures ∙ c.if-is_idle_look.true))

pub returns-clause-ok : goal.returns-clause-ok
returns-clause-ok c =
    IfOk-weaker c.take_turn.result _ _ (λ changed plays. plays c.args.core (sym c.place_of.ensures.place ∙ c.in-Some.is)) c.take_turn.ensures.ok

pub returns-clause-err : goal.returns-clause-err
returns-clause-err c =
    on_err_weaker c.take_turn.result (λ (stops : (core : CoreId) → SitsAt c.args.self.now.core_runs.items core c.in-Some.at → StopsShort ((core, c.args.choice) ∷ []) c.args.self.now c.take_turn.new.self). stops c.args.core (sym c.place_of.ensures.place ∙ c.in-Some.is)) c.take_turn.ensures.err
