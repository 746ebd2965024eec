use Rattle.std.proofs.Common.{refl, sym, ◌∙◌, true, append-nil}
use Rattle.osbase.specs.declared.items.Item.{Item}
use Rattle.osrun.specs.{declared.requests.Request.TheVariants.Room, declared.requests.Reply.TheVariants.HasRoom}
use Rattle.osworker.proofs.Working.{front-sent, turn-took}
use Rattle.osworker.proofs.worker.Worker.post.Goals as goal

pub returns-in-Ok : goal.returns-in-Ok
returns-in-Ok g c =
    let old = c.args.self.now in
    turn-took _ _ _ 0 old _ _ (Room c.args.to) (HasRoom true) (Item.Posted c.args.to) c.requires.asked refl (sym c.may_take.ensures.state ∙ c.if-not-may_take.false)
    c.take.ensures refl refl c.send.ensures.which (sym (append-nil old.seats.board.mine)) (sym (append-nil old.seats.spins.mine))
    (λ stimuli loads done. (front-sent (g.M.Mail.sent) (g.M.Mail.taken) stimuli loads old _ c.args.to c.in-Some.field-0-0 c.in-Some.envelope done (sym c.front.ensures.state ∙ c.in-Some.is) c.in-Ok.ensures.ok, c.send.ensures.taken))
