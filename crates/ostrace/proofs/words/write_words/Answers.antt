use Rattle.std.proofs.Common.{refl}
use Rattle.ostrace_text.specs.Trace.{line_end}
use Rattle.ostrace.proofs.Gathering.{Gathers-stop, Gathers-then}
use Rattle.ostrace.proofs.words.write_words.Goals as goal

pub returns-in_err-write_spaced : goal.returns-in_err-write_spaced
returns-in_err-write_spaced g c = Gathers-stop line_end _ c.from_residual.ensures.0 c.in_err-write_spaced.ensures refl

pub returns : goal.returns
returns g c = Gathers-then _ c.in_ok-write_spaced.ensures c.put_text.ensures refl
