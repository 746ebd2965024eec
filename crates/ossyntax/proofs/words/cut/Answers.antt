use Rattle.std.proofs.{Common.Some, Common.None, Common.lit<, lemmas.Str.Pattern.split_once_first, lemmas.Str.Pattern.split_parts, lemmas.List.Splits.slice_split_first, lemmas.List.Splits.slice_split_none, Common.◌==◌}
use Rattle.ossyntax.proofs.Wording.{no-byte}
use Rattle.ossyntax.proofs.words.cut.Goals as goal

pub returns-in-Some : goal.returns-in-Some
returns-in-Some c =
    let p = split_once_first 32 c.args.text.now (Some (c.in-Some.word, c.in-Some.rest)) c.in-Some.ensures.cases (lit< tt) in
    rw (p.1, p.2) (slice_split_first (λ b. b == 32) c.args.text.now 0 p.0)

pub returns-in-None : goal.returns-in-None
returns-in-None c =
    slice_split_none (λ b. b == 32) c.args.text.now (no-byte 32 c.args.text.now (split_parts 32 c.args.text.now None c.in-None.ensures.cases (lit< tt)))
