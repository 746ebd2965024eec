use Rattle.std.proofs.Common.{refl, ap, sym, ◌∙◌, append-nil}
use Rattle.osadmit.specs.Admission.{takes_in}
use Rattle.oskernel.specs.{Wants.watch_in, Step.outbox_size}
use Rattle.osrun.specs.{declared.requests.Request.TheVariants.OfBoard, declared.requests.Reply.TheVariants.Replied}
use Rattle.osworker.proofs.{Requests.board-takes, Requests.call-fruitless, Requests.call-results, Working.plainly-took}
use Rattle.osworker.proofs.worker.Worker.write_board.Goals as goal

pub unreachable-requires : goal.unreachable-requires
unreachable-requires g c =
    let old = c.args.self.now in
    let results = call-results old.core.id (watch_in old.core.kernel) old.seats.board c.call.new.seat c.args.call c.call.result old.same c.requires.changes c.call.ensures in
    c.in_default.not-Some results.item (c.item_for_reply.ensures ∙ results.names)

pub take-requires-clause-taken : goal.take-requires-clause-taken
take-requires-clause-taken g c =
    let old = c.args.self.now in
    let results = call-results old.core.id (watch_in old.core.kernel) old.seats.board c.call.new.seat c.args.call c.call.result old.same c.requires.changes c.call.ensures in
    board-takes old.core.id old.core.kernel c.args.call c.call.result c.in-Some.item results (sym c.item_for_reply.ensures ∙ c.in-Some.is)
    ∙ ap (takes_in outbox_size old.core.kernel) (sym c.item_of_call.ensures) ∙ sym c.may_take.ensures.state ∙ c.if-not-may_take.false

pub returns-clause-turn : goal.returns-clause-turn
returns-clause-turn g c =
    let old = c.args.self.now in
    let names = sym c.item_for_reply.ensures ∙ c.in-Some.is in
    let results = call-results old.core.id (watch_in old.core.kernel) old.seats.board c.call.new.seat c.args.call c.call.result old.same c.requires.changes c.call.ensures in
    plainly-took _ _ _ 0 old _ _ (OfBoard c.args.call) (Replied c.call.result) c.in-Some.item c.requires.request.asked names
    (board-takes old.core.id old.core.kernel c.args.call c.call.result c.in-Some.item results names ∙ ap (takes_in outbox_size old.core.kernel) (sym c.item_of_call.ensures) ∙ sym c.may_take.ensures.state ∙ c.if-not-may_take.false)
    c.take.ensures refl refl refl (rw old.same at c.call.ensures.mine) (sym (append-nil old.seats.spins.mine)) (λ plain. plain) (λ d. refl) (λ d. refl)

pub returns-then-not-may_take-clause-stuck : goal.returns-then-not-may_take-clause-stuck
returns-then-not-may_take-clause-stuck g c =
    let old = c.args.self.now in
    call-fruitless old.core.id old.core.kernel c.args.call c.requires.changes (ap (takes_in outbox_size old.core.kernel) (sym c.item_of_call.ensures) ∙ sym c.may_take.ensures.state ∙ c.if-not-may_take.true)
