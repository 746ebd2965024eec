use Rattle.std.proofs.Common.{refl}
use Rattle.ostrace_text.specs.Trace.{line_end}
use Rattle.ostrace.proofs.Gathering.{Gathers-stop, Gathers-then}
use Rattle.ostrace.proofs.reports.write_ended_title.Goals as goal

pub returns-in_err-write_verb_and_core : goal.returns-in_err-write_verb_and_core
returns-in_err-write_verb_and_core g c = Gathers-stop line_end _ c.from_residual.ensures.0 c.in_err-write_verb_and_core.ensures refl

pub returns : goal.returns
returns g c = Gathers-then _ c.in_ok-write_verb_and_core.ensures c.put_text.ensures refl
