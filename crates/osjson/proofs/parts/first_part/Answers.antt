use Rattle.std.proofs.Common.{◌≡◌, ◌-◌, arith}
use Rattle.osjson.proofs.Parting.{cut-behind, ends-at, ends-nowhere}
use Rattle.osjson.proofs.parts.first_part.Goals as goal

pub range_from-requires : goal.range_from-requires
range_from-requires c = λ _. cut-behind c.args.separator c.args.text.now c.in-Some.at c.requires c.utf8.text (rw c.as_bytes.ensures.value at c.in-Some.ensures)

pub returns-in-Some : goal.returns-in-Some
returns-in-Some c =
    let whole : c.in-Some.at - 0 ≡ c.in-Some.at = omega arith in
    rw (c.range.ensures.value, c.range_from.ensures.value, whole) (ends-at c.args.separator c.args.text.now c.in-Some.at (rw c.as_bytes.ensures.value at c.in-Some.ensures))

pub returns-in-None : goal.returns-in-None
returns-in-None c = ends-nowhere c.args.separator c.args.text.now (rw c.as_bytes.ensures.value at c.in-None.ensures)
