use Rattle.std.proofs.Common.{◌≡◌, replicate}
use Rattle.oscript.specs.Runners.{first_row}
use Rattle.osrunner.proofs.rows.Rows.new.Given as goal

abbrev pub invariant-loop-place : goal.invariant-loop-place
invariant-loop-place l = l.rows.items ≡ replicate l._place first_row
