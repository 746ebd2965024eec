use Rattle.std.proofs.Common.{rules, ◌≡◌, ◌∷◌, [], ◌++◌, ap, ◌∙◌, refl}
use Rattle.osshared.proofs.Thins.{logged, unlogged}
use Rattle.osspin.specs.Spins.{IsRefusedCall, try_take_call, look_call, free_call}
use Rattle.osspin.specs.declared.calls.SpinReply.TheVariants.{Answered}
use Rattle.ostests_shared.proofs.tests.spinlocks.visit.Goals as goal

pub returns-clause-log : goal.returns-clause-log
returns-clause-log c =
    let t1 = logged IsRefusedCall _ _ _ _ _ _ c.requires.log c.try_take.ensures.mine (c.push_reserved.ensures.items ∙ ap (λ l. l ++ c.entry.result ∷ []) c.reserve.ensures.items)
    (let e : c.entry.result ≡ try_take_call c.args.run.now.seat.core c.args.lock c.try_take.result = search rules in e) in
    let t2 = logged IsRefusedCall _ _ _ _ _ _ t1 c.look-holder.ensures.mine c.push_reserved-2.ensures.items
    (let e : c.entry-2.result ≡ look_call c.try_take.new.seat.core c.args.lock c.look-holder.result = search rules in e) in
    logged IsRefusedCall _ _ _ _ _ _ t2 c.free-freed.ensures.mine c.push_reserved-3.ensures.items
    (let e : c.entry-3.result ≡ free_call c.look-holder.new.seat.core c.args.lock c.free-freed.result = search rules in e)

pub returns-then-not-try_take-clause-log : goal.returns-then-not-try_take-clause-log
returns-then-not-try_take-clause-log c = unlogged IsRefusedCall _ _ _ _ _ c.requires.log (ap Answered c.if-not-try_take.true) c.try_take.ensures.mine c.reserve.ensures.items
