use Rattle.std.specs.Fmt.{decimal}
use Rattle.ostrace.proofs.Gathering.{Gathers-stop, Gathers-then, joining}
use Rattle.ostrace.proofs.words.write_variable_after_space.Goals as goal

pub returns-in_err-put_text : goal.returns-in_err-put_text
returns-in_err-put_text g c = Gathers-stop (decimal c.args.number) _ c.from_residual.ensures.0 c.in_err-put_text.ensures (simp joining)

pub returns : goal.returns
returns g c = Gathers-then _ c.in_ok-put_text.ensures c.write_decimal.ensures (simp joining)
