use Rattle.std.proofs.Common.{◌≡◌, ◌<◌, IsTrue, false, get_or, length, rules, ap, sym, ◌∙◌}
use Rattle.osbase.specs.{History.same_core, Phases.is_before_live}
use Rattle.std.proofs.lemmas.List.{take_all}
use Rattle.oscript.specs.Calls.{any_action}
use Rattle.osplan.specs.Objects.{may_act}
use Rattle.osplan.proofs.Tests.{all-filter}
use Rattle.osstate.specs.Does.{HasRoom}
use Rattle.oscall.specs.Border.{core_of_call, is_known_call}
use Rattle.osaction.specs.Points.{is_of_kind}
use Rattle.osaction.proofs.{Joining.joined, Joining.known-call, Joining.place-left, points.act_each.Goals.then-is_of_kind, points.act_each.Goals.else-is_of_kind}
use Rattle.osservice.proofs.InTurn.{left-out, next-kept, one-acted, places-left, room-left, still-passes}
use Rattle.osaction.proofs.points.act_each.Goals as goal

pub act-requires : goal.act-requires
act-requires g c =
    let a = get_or c.args.actions.now c.loop-action.action-index any_action in
    let next = next-kept (is_of_kind c.args.activating) c.args.actions.now c.loop-action.action-index any_action c.loop-action-test.true (sym c.is_of_kind.ensures ∙ c.if-is_of_kind.true) in
    let known : IsTrue (is_known_call c.loop-action.state.view.own a) =
    known-call c.loop-action.state.view.own a (still-passes next c.loop-action.invariant may_act (all-filter (may_act c.args.state.now.view.own) (is_of_kind c.args.activating) c.args.actions.now c.requires.known)) in
    let place : (same_core (core_of_call a) c.loop-action.state.view.own.id ≡ false → length c.loop-action.state.border.outbox < g.row.OUT) = place-left _ _ _ (places-left next c.loop-action.invariant c.requires.posts.outbox) in
    let room : HasRoom 2 2 c.loop-action.state c.loop-action.marks = room-left next c.loop-action.invariant c.requires.posts.room in
    let live : is_before_live c.loop-action.state.progress.phase ≡ false = ap is_before_live c.loop-action.invariant.steps.phase ∙ c.requires.posts.live in
    search (rules, known, place, room, live)

pub loop-action-preserved : goal.loop-action-preserved
loop-action-preserved g c = elim c.if-is_of_kind.branch [
  | then-is_of_kind w ↦
      let next = next-kept (is_of_kind c.args.activating) c.args.actions.now c.loop-action.action-index any_action c.loop-action-test.true (sym c.is_of_kind.ensures ∙ w.if-is_of_kind.true) in
      rw (w.state-is, w.marks-is) (one-acted next c.loop-action.invariant w.act.ensures.steps (joined _ _ _ (λ same. ap (λ s. length s.outbox) (w.act.ensures.here same)) w.act.ensures.outbox))
  | else-is_of_kind w ↦
      let same = left-out (is_of_kind c.args.activating) c.args.actions.now c.loop-action.action-index any_action c.loop-action-test.true (sym c.is_of_kind.ensures ∙ w.if-is_of_kind.false) in
      rw (w.state-is, w.marks-is, same) c.loop-action.invariant
]

pub returns : goal.returns
returns g c =
    let done = rw (take_all c.loop-action.action-index c.args.actions.now c.loop-action-test.false) at c.loop-action.invariant in
    record { steps = done.steps; outbox = done.outbox }
