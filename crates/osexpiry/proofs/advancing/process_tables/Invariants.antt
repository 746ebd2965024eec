use Rattle.std.proofs.Common.{take}
use Rattle.osexpiry.specs.ExpiryPoints.{processes_table, posted_by_table}
use Rattle.osservice.proofs.InTurn.{InTurn}
use Rattle.osexpiry.proofs.advancing.process_tables.Given as goal

abbrev pub invariant-loop-table : goal.invariant-loop-table
invariant-loop-table g l = InTurn processes_table posted_by_table 38 36 (take l.table-index l.due) l.initial.state l.state l.initial.marks l.marks
