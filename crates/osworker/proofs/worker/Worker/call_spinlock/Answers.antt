use Rattle.std.proofs.Common.{inl, inr, refl, ap, sym, subst, ◌∙◌, append-nil}
use Rattle.osshared.specs.{Histories.entry, Seats.Extends}
use Rattle.osspin.specs.Spins.{SpinEntry, spinlocks}
use Rattle.osadmit.specs.Admission.{takes_in}
use Rattle.oskernel.specs.Step.{outbox_size}
use Rattle.osrun.specs.{declared.requests.Request.TheVariants.OfSpins, declared.requests.Reply.TheVariants.Spun}
use Rattle.osworker.proofs.Requests.{spinlock-same, unspun, wish-fruitless}
use Rattle.osworker.proofs.Working.{plainly-took, spin-idle}
use Rattle.osworker.proofs.worker.Worker.call_spinlock.Goals as goal

pub take-requires-clause-taken : goal.take-requires-clause-taken
take-requires-clause-taken g c =
    let old = c.args.self.now in
    spinlock-same old.core.kernel c.args.wish c.call.result c.in-Some.item (sym c.item_for_reply.ensures ∙ c.in-Some.is)
    ∙ ap (takes_in outbox_size old.core.kernel) (sym c.item_of_wish.ensures) ∙ sym c.may_take.ensures.state ∙ c.if-not-may_take.false

pub returns-clause-turn : goal.returns-clause-turn
returns-clause-turn g c =
    let old = c.args.self.now in
    let names = sym c.item_for_reply.ensures ∙ c.in-Some.is in
    let may = spinlock-same old.core.kernel c.args.wish c.call.result c.in-Some.item names
    ∙ ap (takes_in outbox_size old.core.kernel) (sym c.item_of_wish.ensures) ∙ sym c.may_take.ensures.state ∙ c.if-not-may_take.false in
    plainly-took _ _ _ 0 old _ _ (OfSpins c.args.wish) (Spun c.call.result) c.in-Some.item c.requires.asked names may
    c.take.ensures refl refl refl (sym (append-nil old.seats.board.mine)) (rw (old.same_spins, c.spin_call_of.ensures) at c.call.ensures.mine) (λ plain. plain) (λ d. refl) (λ d. refl)

pub returns-in_default-clause-turn : goal.returns-in_default-clause-turn
returns-in_default-clause-turn g c =
    let old = c.args.self.now in
    let none = unspun old.core.id c.args.wish old.seats.spins c.call.new.seat c.spin_call_of.result c.call.result old.same_spins c.spin_call_of.ensures c.call.ensures (λ item names. c.in_default.not-Some item (c.item_for_reply.ensures ∙ names)) in
    spin-idle _ _ _ old _ refl refl refl c.args.wish (entry old.seats.spins.core c.spin_call_of.result c.call.result) c.requires.asked none.waits
    (λ i. entry (old.same_spins i) (c.spin_call_of.ensures i) (none.refused i)) refl c.call.ensures.mine

pub returns-in_default-clause-stuck : goal.returns-in_default-clause-stuck
returns-in_default-clause-stuck g c =
    let old = c.args.self.now in
    inl (unspun old.core.id c.args.wish old.seats.spins c.call.new.seat c.spin_call_of.result c.call.result old.same_spins c.spin_call_of.ensures c.call.ensures (λ item names. c.in_default.not-Some item (c.item_for_reply.ensures ∙ names))).waits

pub returns-in_default-clause-called : goal.returns-in_default-clause-called
returns-in_default-clause-called g c =
    let old = c.args.self.now in
    let none = unspun old.core.id c.args.wish old.seats.spins c.call.new.seat c.spin_call_of.result c.call.result old.same_spins c.spin_call_of.ensures c.call.ensures (λ item names. c.in_default.not-Some item (c.item_for_reply.ensures ∙ names)) in
    inr (subst (λ (e : SpinEntry). Extends spinlocks old.seats.spins e c.call.new.seat) (λ i. entry (old.same_spins i) (c.spin_call_of.ensures i) (none.refused i)) c.call.ensures)

pub returns-then-not-may_take-clause-stuck : goal.returns-then-not-may_take-clause-stuck
returns-then-not-may_take-clause-stuck g c =
    let old = c.args.self.now in
    inr (wish-fruitless old.core.id old.core.kernel c.args.wish (ap (takes_in outbox_size old.core.kernel) (sym c.item_of_wish.ensures) ∙ sym c.may_take.ensures.state ∙ c.if-not-may_take.true))
