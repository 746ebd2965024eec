use Rattle.std.proofs.Common.{rules, ◌≡◌, None, arith}
use Rattle.oslog.proofs.Steps.{no-word}
use Rattle.oslog.proofs.reading.read_words.Goals as goal

pub returns-in_err-left : goal.returns-in_err-left
returns-in_err-left c =
    let none : c.from_residual.result ≡ None = search rules in
    let left : c.loop-kind.left ≡ None = search rules in
    let lacks = no-word c.args.names.now.config.now c.args.kinds.now c.loop-kind.kind-index c.loop-kind.parts (omega arith) in
    rw (← c.loop-kind.invariant, none, left, lacks)
