use Rattle.std.proofs.Common.{◌≡◌, Some, List, true, false, rules, sym, subst, ◌∙◌, ap}
use Rattle.osbase.specs.{declared.histories.GotSpinlock.GotSpinlock, Spins.has_spinlock}
use Rattle.osgot.specs.Grants.{are_apart}
use Rattle.osgot.proofs.Apart.{room, together}
use Rattle.osgot.proofs.grants.Grants.take.Goals as goal

pub insert-requires : goal.insert-requires
insert-requires c =
    let other : has_spinlock c.args.lock c.self.inside.got.items ≡ false = ap (has_spinlock c.args.lock) c.self.view_is ∙ sym c.has.ensures ∙ c.if-has.false in
    let g : GotSpinlock = record { lock = c.args.lock; holder = Some c.in-Some.call.runner } in
    (search rules, (search rules, room g c.self.inside.got.items c.requires other c.self.invariant))

pub invariant_of-self : goal.invariant_of-self
invariant_of-self c =
    let other : has_spinlock c.args.lock c.self.inside.got.items ≡ false = ap (has_spinlock c.args.lock) c.self.view_is ∙ sym c.has.ensures ∙ c.if-has.false in
    let g : GotSpinlock = record { lock = c.args.lock; holder = Some c.in-Some.call.runner } in
    subst (λ (got : List GotSpinlock). are_apart got ≡ true) (sym c.insert.ensures.items) (together g c.self.inside.got.items c.requires other c.self.invariant)
