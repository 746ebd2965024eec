-- If each item that an answer of some kind can result in has a property, every item that results from one has it.
use Rattle.std.proofs.Common.{◌≡◌, Bool, Option, Some, subst, arith}
use Rattle.std.proofs.lemmas.Option.{same_Some}
use Rattle.osbase.specs.{declared.statuses.Status.Status, declared.references.CoreId.CoreId, declared.references.SpinlockId.SpinlockId, declared.items.Agreement.Agreement, declared.items.CoreSet.CoreSet, declared.items.Item.Item}
use Rattle.oskernel.specs.{declared.wants.Watch.Watch, declared.wants.SpinWish.SpinWish}
use Rattle.osspin.specs.declared.calls.SpinReply.{SpinReply}
use Rattle.osboard.specs.{declared.calls.BoardView.BoardView, Boards.agreement_in}
use Rattle.osrun.specs.Requests.{item_of_drained, item_of_halt, item_of_look, item_of_spinlock}

module _ (P : Item → Type 0) where
  pub is-item : (i j : Item) → P i → Some i ≡ Some j → P j
  is-item i j has e = subst P (same_Some _ _ e) has

  -- Items that result from a look at the board.
  pub look-item : P Item.On → ((agreement : Agreement) → P (Item.Pass1 agreement)) → ((cores : CoreSet) → P (Item.Pass2 cores))
      → (id : CoreId) (view : BoardView) (watch : Watch) (i : Item) → item_of_look id view watch ≡ Some i → P i
  look-item on first second id view watch i e = grind (arith, first (agreement_in view.modes), second view.started)

  -- Items that result from the set of drained cores.
  pub drained-item : P Item.PassEnd → (watch : Watch) (drained : CoreSet) (i : Item) → item_of_drained watch drained ≡ Some i → P i
  drained-item end watch drained i e = grind arith

  -- Items that result from a look for a shutdown of all cores, while a core works and at its end.
  pub halt-item : ((asked : Option (CoreId × Status)) → P (Item.Last asked)) → ((core : CoreId) (status : Status) → P (Item.Halt core status))
      → (watch : Watch) (halt : Option (CoreId × Status)) (i : Item) → item_of_halt watch halt ≡ Some i → P i
  halt-item last halts watch halt i e = grind (arith, last halt)

  -- Items that result from a spinlock's reply.
  pub spinlock-item : ((l : SpinlockId) → P (Item.Granted l)) → ((l : SpinlockId) (taken : Bool) → P (Item.Tried l taken)) → ((l : SpinlockId) → P (Item.Freed l))
      → (wish : SpinWish) (reply : SpinReply) (i : Item) → item_of_spinlock wish reply ≡ Some i → P i
  spinlock-item granted tried freed wish reply i e = grind arith
