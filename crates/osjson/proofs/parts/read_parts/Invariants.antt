use Rattle.std.proofs.Common.{◌≡◌, ◌==◌, ◌-◌, ◌≤◌, length}
use Rattle.std.specs.List.{slice_split}
use Rattle.osjson.specs.Reading.{each, later_parts}
use Rattle.osjson.proofs.Each.{with_front}
use Rattle.osjson.proofs.parts.read_parts.Given as goal

-- what was read, and what is still to read, are the whole
abbrev pub invariant-loop-left : goal.invariant-loop-left
invariant-loop-left g l = record {
  few : length l.read ≤ l.fn.most;
  reads : with_front l.read (each (g.R.PartReader.shape l.reader) (later_parts l.fn.separator l.left)) ≡ each (g.R.PartReader.shape l.reader) (slice_split (λ b. b == l.fn.separator) l.fn.text);
}

abbrev pub decreases-loop-left : goal.decreases-loop-left
decreases-loop-left g l = l.fn.most - length l.read
