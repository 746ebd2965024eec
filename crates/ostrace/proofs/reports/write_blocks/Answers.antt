use Rattle.ostrace.proofs.Gathering.{Writes-gathered, Writes-not_gathered}
use Rattle.ostrace.proofs.reports.write_blocks.Goals as goal

pub returns-in_err-gather_blocks : goal.returns-in_err-gather_blocks
returns-in_err-gather_blocks g c = Writes-not_gathered _ c.from_residual.ensures.0 (rw c.new-gathered.ensures at c.in_err-gather_blocks.ensures)

pub returns : goal.returns
returns g c = Writes-gathered _ (rw c.new-gathered.ensures at c.in_ok-gather_blocks.ensures) c.send.ensures.written
