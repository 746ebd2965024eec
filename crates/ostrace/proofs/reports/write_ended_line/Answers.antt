use Rattle.std.proofs.Common.{refl}
use Rattle.ostrace_text.specs.Trace.{line_end}
use Rattle.ostrace.proofs.Gathering.{Gathers-stop, Gathers-then}
use Rattle.ostrace.proofs.reports.write_ended_line.Goals as goal

pub returns-in_err-write_line : goal.returns-in_err-write_line
returns-in_err-write_line g c = Gathers-stop line_end _ c.from_residual.ensures.0 c.in_err-write_line.ensures refl

pub returns : goal.returns
returns g c = Gathers-then _ c.in_ok-write_line.ensures c.put_text.ensures refl
