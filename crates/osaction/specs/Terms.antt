-- What an action requires and ensures.
use Rattle.std.specs.Prelude.{◌≡◌, ◌<◌, ◌≤◌, ℕ, suc, IsTrue, true, false, length, Vec}
use Rattle.std.specs.declared.alloc.Global.{Global}
use Rattle.osbase.specs.{declared.marks.Mark.Mark, declared.messages.RemoteCall.RemoteCall, History.same_core}
use Rattle.osstate.specs.State.{KernelState}
use Rattle.osacts.specs.Steps.{Steps}
use Rattle.osservice.specs.Terms.{MayBegin}
use Rattle.oscall.specs.Border.{core_of_call, is_known_call}
use Rattle.osaction.specs.Actions.{acts}

-- The core may name the call's object and has passed the second gate, and there is room for two entries and two marks.
-- If the object is another core's, the outbox has at least one of its `size` places left. [own]
pub record MayTakeAction (size : ℕ) (call : RemoteCall) (s : KernelState) (vec : Vec Mark Global) : Type 0 where
  pub known : IsTrue (is_known_call s.view.own call)
  pub outbox : same_core (core_of_call call) s.view.own.id ≡ false → length s.border.outbox < size
  pub begins : MayBegin 2 2 s vec

-- The action was done, with at most two entries and two marks. If it is on an object of this core, the border is as
-- before. In any case at most one letter joined the outbox. [own]
pub record TakesAction (call : RemoteCall) (old new : KernelState) (old_vec new_vec : Vec Mark Global) : Type 0 where
  pub steps : Steps 2 2 (acts call) old new old_vec new_vec
  pub here : same_core (core_of_call call) old.view.own.id ≡ true → new.border ≡ old.border
  pub outbox : length new.border.outbox ≤ suc (length old.border.outbox)
