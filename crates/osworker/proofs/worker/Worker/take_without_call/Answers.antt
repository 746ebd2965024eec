use Rattle.std.proofs.Common.{refl, sym, ◌∙◌, append-nil}
use Rattle.osrun.specs.declared.requests.Reply.TheVariants.{Unasked}
use Rattle.osworker.proofs.{Requests.unasked-silent, Working.plainly-took}
use Rattle.osworker.proofs.worker.Worker.take_without_call.Goals as goal

pub returns-clause-turn : goal.returns-clause-turn
returns-clause-turn g c =
    let old = c.args.self.now in
    let silent = unasked-silent old.core.id c.args.request in
    plainly-took _ _ _ 0 old _ _ c.args.request Unasked c.in-Some.item c.requires.asked (sym c.item_for_reply.ensures ∙ c.in-Some.is) (sym c.may_take.ensures.state ∙ c.if-not-may_take.false)
    c.take.ensures refl refl refl (rw (silent, append-nil old.seats.board.mine)) (rw (silent, append-nil old.seats.spins.mine)) (λ plain. plain) (λ d. refl) (λ d. refl)
