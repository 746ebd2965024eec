-- Whose job has each spinlock that a core got, and what holds of all these spinlocks.
use Rattle.std.specs.Prelude.{nat_lt, Bool, true, ◌&&◌, not, List, [], ◌∷◌}
use Rattle.std.specs.List.{list_any}
use Rattle.osbase.specs.{declared.references.Runner.Runner, declared.references.SpinlockId.SpinlockId, declared.histories.GotSpinlock.GotSpinlock, declared.limits.TheConstants.SPINLOCKS, Spins.has_spinlock, Spins.is_got_by, Spins.same_spinlock}

-- The runner's job has the spinlock. [AUTOSAR SWS OS 4.x, ReleaseSpinlock, E_OS_STATE]
abbrev pub is_held_by : Runner → SpinlockId → List GotSpinlock → Bool
is_held_by r l got = list_any (λ (g : GotSpinlock). is_got_by r g && same_spinlock g.lock l) got

-- Each of these spinlocks has an index below `SPINLOCKS`, and no spinlock is among them twice. [own]
abbrev pub are_apart : List GotSpinlock → Bool
are_apart [] = true
are_apart (g ∷ got) = nat_lt g.lock.index SPINLOCKS && (not (has_spinlock g.lock got) && are_apart got)
