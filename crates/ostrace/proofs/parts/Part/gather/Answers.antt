use Rattle.std.proofs.Common.{refl}
use Rattle.ostrace_text.specs.Trace.{lines_of}
use Rattle.ostrace.proofs.Gathering.{Gathers-stop, Gathers-then}
use Rattle.ostrace.proofs.parts.Part.gather.Goals as goal

pub returns-in_err-gather_title : goal.returns-in_err-gather_title
returns-in_err-gather_title g c = Gathers-stop (lines_of c.args.self.now.plan.now c.args.self.now.marks.now) _ c.from_residual.ensures.0 c.in_err-gather_title.ensures refl

pub returns : goal.returns
returns g c = Gathers-then _ c.in_ok-gather_title.ensures (rw c.new-names.ensures at c.write_lines.ensures) refl
