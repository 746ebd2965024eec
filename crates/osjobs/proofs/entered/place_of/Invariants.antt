use Rattle.std.proofs.Common.{◌≡◌, ◌++◌, take, drop}
use Rattle.osbase.specs.Interrupts.{without_isr}
use Rattle.osjobs.proofs.entered.place_of.Given as goal

-- what was passed is not the ISR
abbrev pub invariant-loop-place : goal.invariant-loop-place
invariant-loop-place l = without_isr l.isr l.isrs ≡ take l.place l.isrs ++ without_isr l.isr (drop l.place l.isrs)
