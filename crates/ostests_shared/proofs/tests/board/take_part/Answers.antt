use Rattle.std.proofs.Common.{rules, ◌≡◌, inl, inr, refl}
use Rattle.osbase.specs.declared.statuses.Status.TheVariants.{EOsState}
use Rattle.osshared.specs.Histories.{Thinned}
use Rattle.osshared.proofs.Thins.{logged, unlogged}
use Rattle.osboard.specs.Boards.{IsLook, ask_halt_call, drain_call, enter_call, ready_call, start_call}
use Rattle.ostests_shared.proofs.tests.board.take_part.Goals as goal

pub returns-clause-log : goal.returns-clause-log
returns-clause-log c =
    let none : Thinned IsLook c.args.seat.mine c.reserve.new.self.items = search rules in
    let started = logged IsLook _ _ _ _ _ _ none c.start-started.ensures.mine c.push_reserved.ensures.items
    (let e : c.entry.result ≡ start_call c.args.seat.core (record { number = 1 }) c.start-started.result = search rules in e) in
    let entered = logged IsLook _ _ _ _ _ _ started c.enter.ensures.mine c.push_reserved-2.ensures.items
    (let e : c.entry-2.result ≡ enter_call c.start-started.new.seat.core _ = search rules in e) in
    let shown = c.is_shown_often-run.ensures.log _ entered in
    let ready = logged IsLook _ _ _ _ _ _ shown c.ready.ensures.mine c.push_reserved-3.ensures.items
    (let e : c.entry-3.result ≡ ready_call c.is_shown_often-run.new.seat.core = search rules in e) in
    let drained = logged IsLook _ _ _ _ _ _ ready c.drain.ensures.mine c.push_reserved-4.ensures.items
    (let e : c.entry-4.result ≡ drain_call c.ready.new.seat.core = search rules in e) in
    let asked = logged IsLook _ _ _ _ _ _ drained c.ask_halt-decided.ensures.mine c.push_reserved-5.ensures.items
    (let e : c.entry-5.result ≡ ask_halt_call c.drain.new.seat.core EOsState c.ask_halt-decided.result = search rules in e) in
    let shown_drained = unlogged IsLook _ _ _ _ _ asked (inr (inl refl)) c.look_drained-drained.ensures.mine refl in
    unlogged IsLook _ _ _ _ _ shown_drained (inr (inr refl)) c.look_halt-halt.ensures.mine refl
