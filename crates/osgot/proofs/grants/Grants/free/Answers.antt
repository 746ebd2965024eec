use Rattle.std.proofs.Common.{◌≡◌, List, true, sym, subst, ◌∙◌}
use Rattle.std.specs.List.{remove}
use Rattle.osbase.specs.{declared.histories.GotSpinlock.GotSpinlock, Spins.without_spinlock}
use Rattle.osgot.specs.Grants.{are_apart}
use Rattle.osgot.proofs.Apart.{freed}
use Rattle.osgot.proofs.grants.Grants.free.Goals as goal

pub invariant_of-self : goal.invariant_of-self
invariant_of-self c =
    let is : c.remove.new.self.items ≡ without_spinlock c.args.lock c.self.inside.got.items =
    c.remove.ensures.items ∙ subst (λ (got : List GotSpinlock). remove got c.in-Some.place ≡ without_spinlock c.args.lock got) c.as_slice.ensures.value c.in-Some.ensures.found in
    subst (λ (got : List GotSpinlock). are_apart got ≡ true) (sym is) (freed c.args.lock c.self.inside.got.items c.self.invariant)
