use Rattle.std.proofs.Common.{List, refl, subst, ◌∙◌}
use Rattle.std.proofs.lemmas.List.{take_all}
use Rattle.osbase.specs.{declared.references.CoreId.CoreId, declared.turns.Choice.Choice}
use Rattle.osworld.specs.Playing.{PlaysTurns}
use Rattle.osworld.proofs.{Played.plays-next, Played.stops-next, Turned.on_err}
use Rattle.osworld.proofs.worlds.World.play.Goals as goal

pub returns-in_err-changed-clause-err : goal.returns-in_err-changed-clause-err
returns-in_err-changed-clause-err c =
    on_err c.from_residual.result
    (stops-next (λ ts. ts) (λ xs ys. refl) c.args.turns.now c.loop-turn.turn-index _ c.loop-turn-test.true c.args.self.now c.loop-turn.self c.turn.new.self c.loop-turn.invariant.0 c.loop-turn.changed c.loop-turn.invariant.3 c.in_err-changed.ensures.err)

pub loop-turn-preserved : goal.loop-turn-preserved
loop-turn-preserved c = (
  c.in_ok-changed.ensures.config ∙ c.loop-turn.invariant.0,
  c.in_ok-changed.ensures.reports ∙ c.loop-turn.invariant.1,
  c.in_ok-changed.ensures.len ∙ c.loop-turn.invariant.2,
  plays-next (λ ts. ts) (λ xs ys. refl) c.args.turns.now c.loop-turn.turn-index _ c.loop-turn-test.true c.args.self.now c.loop-turn.self c.turn.new.self c.loop-turn.invariant.0 c.loop-turn.changed c.loop-turn.invariant.3 c.in_ok-changed.field-0 c.in_ok-changed.ensures.ok,
)

pub returns-clause-ok : goal.returns-clause-ok
returns-clause-ok c =
    subst (λ (ts : List (CoreId × Choice)). PlaysTurns ts c.args.self.now c.loop-turn.changed c.loop-turn.self) (take_all c.loop-turn.turn-index c.args.turns.now c.loop-turn-test.false) c.loop-turn.invariant.3
