use Rattle.std.proofs.Common.{◌≡◌, List, true, cond, ap, length, sym, subst, ◌∙◌}
use Rattle.std.specs.List.{refill}
use Rattle.osbase.specs.{declared.histories.GotSpinlock.GotSpinlock, Spins.is_got_by, Spins.owed, Spins.owed_by}
use Rattle.osgot.specs.Grants.{are_apart}
use Rattle.osgot.proofs.Apart.{owed-of, written-back}
use Rattle.osgot.proofs.grants.Grants.owe.Goals as goal

pub invariant_of-self : goal.invariant_of-self
invariant_of-self c =
    let is : refill (length c.self.inside.got.items) c.self.inside.got.items c.owe_by.new.got ≡ owed_by c.args.runner c.self.inside.got.items =
    written-back (λ (g : GotSpinlock). cond (is_got_by c.args.runner g) (owed g) g) c.as_mut_slice.result.now _ _ c.owe_by.ensures c.as_mut_slice.ensures.value in
    subst (λ (got : List GotSpinlock). are_apart got ≡ true) (sym is) (owed-of c.args.runner c.self.inside.got.items c.self.invariant)

pub returns : goal.returns
returns c =
    written-back (λ (g : GotSpinlock). cond (is_got_by c.args.runner g) (owed g) g) c.as_mut_slice.result.now _ _ c.owe_by.ensures c.as_mut_slice.ensures.value
    ∙ ap (owed_by c.args.runner) c.self.view_is
