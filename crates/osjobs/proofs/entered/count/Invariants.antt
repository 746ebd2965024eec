use Rattle.std.proofs.Common.{◌≡◌, ◌+◌, ◌≤◌, drop, length}
use Rattle.osbase.specs.Interrupts.{isr_count}
use Rattle.osjobs.proofs.entered.count.Given as goal

abbrev pub invariant-loop-place : goal.invariant-loop-place
invariant-loop-place l = record {
  within : l.count + l.place ≤ length l.isrs;
  counted : l.count ≡ isr_count l.isr (drop l.place l.isrs);
}

abbrev pub decreases-loop-place : goal.decreases-loop-place
decreases-loop-place l = l.place
