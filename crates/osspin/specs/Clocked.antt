-- What has a logical clock.
use Rattle.std.specs.Prelude.{◌<◌}
use Rattle.osbase.specs.declared.limits.TheConstants.{SPINLOCKS}
use Rattle.osspin.specs.{declared.clocks.Clocked.Clocked, declared.clocks.Clocked.TheVariants.Spinlock, declared.clocks.Clocked.TheVariants.Board}

-- The clock is the board's, or that of a spinlock which exists.
abbrev pub IsKnown : Clocked → Type 0
IsKnown (Spinlock lock) = lock.index < SPINLOCKS
IsKnown Board = Unit {0}
