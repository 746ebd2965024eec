use Rattle.ostrace.proofs.Gathering.{Writes-gathered, Writes-not_gathered}
use Rattle.ostrace.proofs.parts.write_parts.Goals as goal

pub returns-in_err-gather_parts : goal.returns-in_err-gather_parts
returns-in_err-gather_parts g c = Writes-not_gathered _ c.from_residual.ensures.0 (rw c.new-gathered.ensures at c.in_err-gather_parts.ensures)

pub returns : goal.returns
returns g c = Writes-gathered _ (rw c.new-gathered.ensures at c.in_ok-gather_parts.ensures) c.send.ensures.written
