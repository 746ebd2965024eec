use Rattle.std.proofs.Common.{sym, subst, ◌∙◌, List}
use Rattle.std.specs.List.{flat_map}
use Rattle.std.proofs.{lemmas.Grind.flat_map-append, lemmas.List.take_all}
use Rattle.osbase.specs.{declared.references.CoreId.CoreId, declared.turns.Choice.Choice}
use Rattle.osworld.specs.{Playing.PlaysTurns, Playing.StopsShort, Runs.turns_in_round}
use Rattle.osworld.proofs.{Played.flat_map-one, Played.plays-next, Played.stops-next, Turned.on_err}
use Rattle.osworld.proofs.worlds.World.play_round.Goals as goal

pub returns-in_err-changed-clause-err : goal.returns-in_err-changed-clause-err
returns-in_err-changed-clause-err c =
    on_err c.from_residual.result
    (stops-next (flat_map (turns_in_round c.args.ids.now)) (flat_map-append (turns_in_round c.args.ids.now)) c.args.ids.now c.loop-id.id-index _ c.loop-id-test.true c.args.self.now c.loop-id.self c.play_core.new.self c.loop-id.invariant.0 c.loop-id.changed c.loop-id.invariant.3
    (subst (λ (ts : List (CoreId × Choice)). StopsShort ts c.loop-id.self c.play_core.new.self) (sym (flat_map-one (turns_in_round c.args.ids.now) _)) c.in_err-changed.ensures.err))

pub loop-id-preserved : goal.loop-id-preserved
loop-id-preserved c = (
  c.in_ok-changed.ensures.config ∙ c.loop-id.invariant.0,
  c.in_ok-changed.ensures.reports ∙ c.loop-id.invariant.1,
  c.in_ok-changed.ensures.len ∙ c.loop-id.invariant.2,
  (plays-next (flat_map (turns_in_round c.args.ids.now)) (flat_map-append (turns_in_round c.args.ids.now)) c.args.ids.now c.loop-id.id-index _ c.loop-id-test.true c.args.self.now c.loop-id.self c.play_core.new.self c.loop-id.invariant.0 c.loop-id.changed c.loop-id.invariant.3 c.in_ok-changed.field-0
      (subst (λ (ts : List (CoreId × Choice)). PlaysTurns ts c.loop-id.self c.in_ok-changed.field-0 c.play_core.new.self) (sym (flat_map-one (turns_in_round c.args.ids.now) _)) c.in_ok-changed.ensures.ok)),
)

pub returns-clause-ok : goal.returns-clause-ok
returns-clause-ok c =
    subst (λ (ids : List CoreId). PlaysTurns (flat_map (turns_in_round c.args.ids.now) ids) c.args.self.now c.loop-id.changed c.loop-id.self) (take_all c.loop-id.id-index c.args.ids.now c.loop-id-test.false) c.loop-id.invariant.3
