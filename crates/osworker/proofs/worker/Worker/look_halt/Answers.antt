use Rattle.std.proofs.Common.{refl, sym, inr, ◌∙◌, append-nil}
use Rattle.osbase.specs.declared.{items.Item.TheVariants.Halt, turns.Choice.TheVariants.Look}
use Rattle.osboard.specs.{Boards.look_halt_call, declared.calls.BoardCall.TheVariants.LookHalt, declared.calls.BoardReply.TheVariants.Halting}
use Rattle.osrun.specs.{declared.requests.Request.TheVariants.OfBoard, declared.requests.Reply.TheVariants.Replied}
use Rattle.osworker.proofs.{Requests.halts, Requests.refused-item, Requests.unasked, Working.look-idle, Working.plainly-took}
use Rattle.osworker.proofs.worker.Worker.look_halt.Goals as goal

pub returns-in_default : goal.returns-in_default
returns-in_default g c =
    let old = c.args.self.now in
    look-idle _ _ _ old _ refl refl refl (look_halt_call old.seats.board.core c.look_halt.result) (inr (inr refl)) (unasked old.core.id old.core.kernel c.requires.watch c.look_halt.result c.in_default.not-Some) c.look_halt.ensures.mine refl

pub returns-then-take_found : goal.returns-then-take_found
returns-then-take_found g c =
    let old = c.args.self.now in
    plainly-took _ _ _ 1 old _ _ (OfBoard LookHalt) (Replied (Halting c.look_halt.result)) (Halt c.in-Some.core c.in-Some.status) (Look, rw (c.requires.watch) refl) (halts old.core.id old.core.kernel c.requires.watch c.look_halt.result _ c.in-Some.is)
    (sym c.take_found.ensures.result ∙ c.if-take_found.true) (c.take_found.ensures.taken c.if-take_found.true) refl refl refl (rw old.same at c.look_halt.ensures.mine) (sym (append-nil old.seats.spins.mine)) (λ plain. plain) (λ d. refl) (λ d. refl)

pub returns-else-take_found : goal.returns-else-take_found
returns-else-take_found g c =
    let old = c.args.self.now in
    rw (c.take_found.ensures.none c.if-take_found.false)
    (look-idle _ _ _ old _ refl refl refl (look_halt_call old.seats.board.core c.look_halt.result) (inr (inr refl))
    (refused-item old.core.id old.core.kernel (OfBoard LookHalt) (Replied (Halting c.look_halt.result)) (Halt c.in-Some.core c.in-Some.status) (halts old.core.id old.core.kernel c.requires.watch c.look_halt.result _ c.in-Some.is) (sym c.take_found.ensures.result ∙ c.if-take_found.false)) c.look_halt.ensures.mine refl)
