use Rattle.std.proofs.Common.{Some, inr, ap, sym, ◌∙◌}
use Rattle.osbase.specs.{declared.turns.Choice.Choice}
use Rattle.osplan.specs.View.{view_of}
use Rattle.std.specs.List.{slice_get}
use Rattle.oskernel.specs.Wants.{want_in}
use Rattle.osrun.specs.declared.requests.Request.TheVariants.{OfBoard, OfSpins, StartUnknown, TakeStimulus}
use Rattle.osworker.proofs.Requests.{one-asked, own-board, start-fruitless, stimulus-fruitless, unless-weaker}
use Rattle.osworker.proofs.worker.Worker.own.Goals as goal

pub write_board-requires-clause-request : goal.write_board-requires-clause-request
write_board-requires-clause-request g c =
    let core = c.args.self.now.core in
    let asks = sym (rw c.args.self.now.same_plan at c.request_of_turn.ensures.value) ∙ c.in-Some.is ∙ ap Some c.in-OfBoard.is in
    record {
      asked = (Choice.Own, asks);
      place = (own-board c.args.self.now.run.now.config.now (rw c.args.self.now.same_plan at core.limits) core.id (slice_get core.stimuli.now 0) (want_in core.kernel) c.in-OfBoard.call asks).1;
    }

pub returns-in-OfBoard-clause-stuck : goal.returns-in-OfBoard-clause-stuck
returns-in-OfBoard-clause-stuck g c =
    let self = c.args.self.now in
    one-asked (view_of self.run.now.config.now self.core.id) self.core.kernel _ (OfBoard c.in-OfBoard.call) c.write_board.result (sym (rw c.args.self.now.same_plan at c.request_of_turn.ensures.value) ∙ c.in-Some.is ∙ ap Some c.in-OfBoard.is)
    (unless-weaker c.write_board.result inr c.write_board.ensures.stuck)

pub returns-in-OfSpins-clause-stuck : goal.returns-in-OfSpins-clause-stuck
returns-in-OfSpins-clause-stuck g c =
    let self = c.args.self.now in
    one-asked (view_of self.run.now.config.now self.core.id) self.core.kernel _ (OfSpins c.in-OfSpins.wish) c.call_spinlock.result (sym (rw c.args.self.now.same_plan at c.request_of_turn.ensures.value) ∙ c.in-Some.is ∙ ap Some c.in-OfSpins.is)
    c.call_spinlock.ensures.stuck

pub returns-in-StartUnknown-clause-stuck : goal.returns-in-StartUnknown-clause-stuck
returns-in-StartUnknown-clause-stuck g c =
    let self = c.args.self.now in
    one-asked (view_of self.run.now.config.now self.core.id) self.core.kernel _ (StartUnknown c.in-StartUnknown.field-0) c.take_without_call.result (sym (rw c.args.self.now.same_plan at c.request_of_turn.ensures.value) ∙ c.in-Some.is ∙ ap Some c.in-StartUnknown.is)
    (unless-weaker c.take_without_call.result (λ none. inr (start-fruitless self.core.id self.core.kernel c.in-StartUnknown.field-0 (rw c.in-StartUnknown.is at none))) c.take_without_call.ensures.stuck)

pub returns-in-TakeStimulus-clause-stuck : goal.returns-in-TakeStimulus-clause-stuck
returns-in-TakeStimulus-clause-stuck g c =
    let self = c.args.self.now in
    one-asked (view_of self.run.now.config.now self.core.id) self.core.kernel _ (TakeStimulus c.in-TakeStimulus.field-0) c.take_without_call-in-TakeStimulus.result (sym (rw c.args.self.now.same_plan at c.request_of_turn.ensures.value) ∙ c.in-Some.is ∙ ap Some c.in-TakeStimulus.is)
    (unless-weaker c.take_without_call-in-TakeStimulus.result (λ none. inr (stimulus-fruitless self.core.id self.core.kernel c.in-TakeStimulus.field-0 (rw c.in-TakeStimulus.is at none))) c.take_without_call-in-TakeStimulus.ensures.stuck)
