-- What a core holds, by its own calls alone.
use Rattle.std.specs.Prelude.{◌==◌, Bool, true, false, if◌then◌else◌, List, [], ◌∷◌}
use Rattle.osbase.specs.declared.references.SpinlockId.{SpinlockId}
use Rattle.osspin.specs.{declared.calls.SpinAction.SpinAction, declared.calls.SpinAction.TheVariants.Take, declared.calls.SpinAction.TheVariants.Free, declared.calls.SpinReply.SpinReply, declared.calls.SpinReply.TheVariants.Answered, Spins.SpinEntry}

-- Whether a core holds a lock after a call of its own with this reply; `held` says whether it held the lock before. The
-- core holds the lock once it took it, and no longer once it freed it. A refused call and a look change nothing.
-- [AUTOSAR SWS OS 4.x, TryToGetSpinlock and ReleaseSpinlock]
abbrev pub holds_after : SpinAction → SpinReply → Bool → Bool
holds_after Take (Answered true) held = true
holds_after Free (Answered true) held = false
holds_after action reply held = held

-- Whether a core holds the lock after these calls of its own; `held` says whether it held the lock before.
abbrev pub holds_by : SpinlockId → List SpinEntry → Bool → Bool
holds_by lock [] held = held
holds_by lock (e ∷ es) held = holds_by lock es (if e.call.lock.index == lock.index then holds_after e.call.action e.reply held else held)
