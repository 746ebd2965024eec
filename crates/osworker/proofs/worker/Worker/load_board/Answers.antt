use Rattle.std.proofs.Common.{refl, sym, ◌∙◌, append-nil}
use Rattle.osshared.specs.Histories.{entry}
use Rattle.osrun.specs.{declared.requests.Request.TheVariants.OfBoard, declared.requests.Reply.TheVariants.Replied}
use Rattle.osworker.proofs.{Requests.refused-item, Working.look-idle, Working.plainly-took}
use Rattle.osworker.proofs.worker.Worker.load_board.Goals as goal

pub returns-in_default : goal.returns-in_default
returns-in_default g c =
    look-idle _ _ _ c.args.self.now _ refl refl refl (entry c.args.self.now.seats.board.core c.args.call c.call.result) c.requires.loads (λ item names. absurd (c.in_default.not-Some item (c.item_for_reply.ensures ∙ names))) c.call.ensures.mine refl

pub returns-then-take_found : goal.returns-then-take_found
returns-then-take_found g c =
    let old = c.args.self.now in
    plainly-took _ _ _ 1 old _ _ (OfBoard c.args.call) (Replied c.call.result) c.in-Some.item c.requires.request.asked (sym c.item_for_reply.ensures ∙ c.in-Some.is) (sym c.take_found.ensures.result ∙ c.if-take_found.true)
    (c.take_found.ensures.taken c.if-take_found.true) refl refl refl (rw old.same at c.call.ensures.mine) (sym (append-nil old.seats.spins.mine)) (λ plain. plain) (λ d. refl) (λ d. refl)

pub returns-else-take_found : goal.returns-else-take_found
returns-else-take_found g c =
    let old = c.args.self.now in
    rw (c.take_found.ensures.none c.if-take_found.false)
    (look-idle _ _ _ old _ refl refl refl (entry old.seats.board.core c.args.call c.call.result) c.requires.loads
    (refused-item old.core.id old.core.kernel (OfBoard c.args.call) (Replied c.call.result) c.in-Some.item (sym c.item_for_reply.ensures ∙ c.in-Some.is) (sym c.take_found.ensures.result ∙ c.if-take_found.false)) c.call.ensures.mine refl)
