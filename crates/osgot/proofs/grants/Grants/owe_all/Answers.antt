use Rattle.std.proofs.Common.{◌≡◌, List, true, ap, length, sym, subst, ◌∙◌}
use Rattle.std.specs.List.{refill}
use Rattle.osbase.specs.{declared.histories.GotSpinlock.GotSpinlock, Spins.all_owed, Spins.owed}
use Rattle.osgot.specs.Grants.{are_apart}
use Rattle.osgot.proofs.Apart.{owed-each, written-back}
use Rattle.osgot.proofs.grants.Grants.owe_all.Goals as goal

pub invariant_of-self : goal.invariant_of-self
invariant_of-self c =
    let is : refill (length c.self.inside.got.items) c.self.inside.got.items c.owe_each.new.got ≡ all_owed c.self.inside.got.items =
    written-back owed c.as_mut_slice.result.now _ _ c.owe_each.ensures c.as_mut_slice.ensures.value in
    subst (λ (got : List GotSpinlock). are_apart got ≡ true) (sym is) (owed-each c.self.inside.got.items c.self.invariant)

pub returns : goal.returns
returns c = written-back owed c.as_mut_slice.result.now _ _ c.owe_each.ensures c.as_mut_slice.ensures.value ∙ ap all_owed c.self.view_is
