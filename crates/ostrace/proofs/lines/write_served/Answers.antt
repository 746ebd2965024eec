use Rattle.std.proofs.Common.{◌∷◌, codes}
use Rattle.std.specs.Fmt.{decimal}
use Rattle.ostrace_text.specs.Trace.{call_words}
use Rattle.ostrace.specs.Pieces.{text_after_spaces}
use Rattle.ostrace.proofs.Gathering.{Gathers-stop, Gathers-then, spaced-append}
use Rattle.ostrace.proofs.lines.write_served.Goals as goal

pub returns-in_err-write_remote : goal.returns-in_err-write_remote
returns-in_err-write_remote g c =
    Gathers-stop (text_after_spaces c.args.answer.now) _ c.from_residual.ensures.0 c.in_err-write_remote.ensures (spaced-append (codes "in") (decimal c.args.core.number ∷ call_words c.args.names.now c.args.call) c.args.answer.now)

pub returns : goal.returns
returns g c =
    Gathers-then _ c.in_ok-write_remote.ensures c.write_after_space.ensures (spaced-append (codes "in") (decimal c.args.core.number ∷ call_words c.args.names.now c.args.call) c.args.answer.now)
