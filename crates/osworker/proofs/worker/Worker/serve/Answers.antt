use Rattle.std.proofs.Common.{refl, sym, ◌∙◌, Some, append-nil}
use Rattle.osbase.specs.{declared.items.Item.Item, declared.turns.Choice.Choice}
use Rattle.osrun.specs.{declared.requests.Request.TheVariants.Oldest, declared.requests.Reply.TheVariants.Found}
use Rattle.osworker.proofs.Working.{turn-took}
use Rattle.osworker.proofs.worker.Worker.serve.Goals as goal

pub returns-clause-turn : goal.returns-clause-turn
returns-clause-turn g c =
    let old = c.args.self.now in
    let e = c.in-Some.envelope.letter in
    turn-took _ _ _ 0 old _ _ (Oldest c.args.from) (Found (Some e)) (Item.Received c.args.from e.number e.message) (Choice.Serve c.args.from, refl) refl (sym c.may_take.ensures.state ∙ c.if-not-may_take.false)
    c.take-2.ensures refl refl c.take.ensures.which (sym (append-nil old.seats.board.mine)) (sym (append-nil old.seats.spins.mine)) (λ stimuli loads done. (c.take.ensures.sent, c.in-Some.ensures.some))
