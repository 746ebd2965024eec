use Rattle.std.proofs.Common.{◌≡◌, take}
use Rattle.osreplay.proofs.Replaying.{HasTaken}
use Rattle.osreplay.proofs.replays.replay.Given as goal

abbrev pub invariant-loop-item : goal.invariant-loop-item
invariant-loop-item l = HasTaken l.config l.fn.core (take l.item-index l.items) l.core_run × (l.taken ≡ l.item-index)
