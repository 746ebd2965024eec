use Rattle.std.proofs.Common.{[], ◌∷◌}
use Rattle.std.specs.Fmt.{decimal}
use Rattle.ostrace_text.specs.Trace.{after_spaces}
use Rattle.ostrace.proofs.Gathering.{Gathers-stop, Gathers-then, joining}
use Rattle.ostrace.proofs.lines.write_number.Goals as goal

pub returns-in_err-put_pair : goal.returns-in_err-put_pair
returns-in_err-put_pair g c = Gathers-stop (after_spaces (decimal c.args.number ∷ [])) _ c.from_residual.ensures.0 c.in_err-put_pair.ensures (simp joining)

pub returns : goal.returns
returns g c = Gathers-then _ c.in_ok-put_pair.ensures c.write_whole_after_space.ensures (simp joining)
