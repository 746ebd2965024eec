use Rattle.std.proofs.Common.{◌≡◌, ◌∙◌, false, below_more, length, sym, arith}
use Rattle.std.proofs.lemmas.Map.Keys.{any_passes_from_place}
use Rattle.osgroup.proofs.{Among.no-number, Among.number-at, Members.both_name, Members.lock_of}
use Rattle.osgroup.proofs.groups.share_spinlock.Goals as goal

pub returns-then-both_name : goal.returns-then-both_name
returns-then-both_name c =
    let n = c.loop-number.number in
    sym (any_passes_from_place (both_name c.args.a.now c.args.b.now) _ n (lock_of n) (number-at lock_of (length c.args.plan.now.spinlocks) n (omega arith)) (sym c.both_name.ensures ∙ c.if-both_name.true))

pub loop-number-preserved : goal.loop-number-preserved
loop-number-preserved c = below_more (λ k. both_name c.args.a.now c.args.b.now (lock_of k) ≡ false) c.loop-number.number c.loop-number.invariant (sym c.both_name.ensures ∙ c.if-both_name.false)

pub returns : goal.returns
returns c = sym (no-number lock_of (both_name c.args.a.now c.args.b.now) 0 (length c.args.plan.now.spinlocks) (λ n lt. c.loop-number.invariant n (omega (arith, lt))))
