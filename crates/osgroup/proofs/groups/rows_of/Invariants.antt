use Rattle.std.proofs.Common.{◌≡◌, length}
use Rattle.osgroup.proofs.Rows.{AreRowsBelow}
use Rattle.osgroup.proofs.groups.rows_of.Given as goal

abbrev pub invariant-loop-number : goal.invariant-loop-number
invariant-loop-number l = record {
  len : length l.rows ≡ 16;
  rows : AreRowsBelow l.plan l.number l.rows;
}
