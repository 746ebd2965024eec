use Rattle.std.proofs.{Common.◌==◌, Common.sym, lemmas.List.Splits.length-slice_split}
use Rattle.osjson.proofs.words.part_count.Goals as goal

pub returns : goal.returns
returns c = rw (← c.if-is_empty.ensures, c.count_of.ensures, c.as_bytes.ensures.value) (sym (length-slice_split (λ b. b == c.args.separator) c.args.text.now))
