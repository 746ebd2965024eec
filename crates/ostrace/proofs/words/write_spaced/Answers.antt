use Rattle.std.proofs.Common.{refl}
use Rattle.ostrace.specs.Pieces.{text_after_spaces}
use Rattle.ostrace.proofs.Gathering.{Gathers-stop, Gathers-then}
use Rattle.ostrace.proofs.words.write_spaced.Goals as goal

pub returns-in_err-put_text : goal.returns-in_err-put_text
returns-in_err-put_text g c = Gathers-stop (text_after_spaces c.args.others.now) _ c.from_residual.ensures.0 c.in_err-put_text.ensures refl

pub returns : goal.returns
returns g c = Gathers-then _ c.in_ok-put_text.ensures c.write_after_space.ensures refl
