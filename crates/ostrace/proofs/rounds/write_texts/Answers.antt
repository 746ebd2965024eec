use Rattle.std.proofs.Common.{◌≡◌, ◌+◌, IfSome, drop, rules}
use Rattle.std.proofs.lemmas.List.{take_more}
use Rattle.ostrace.specs.Parts.{part_text, parts_text}
use Rattle.ostrace.proofs.{Joined.part-rest, Writing.Writes-broken}
use Rattle.ostrace.proofs.rounds.write_texts.Goals as goal

pub write_part-requires-clause-text : goal.write_part-requires-clause-text
write_part-requires-clause-text g c = told (rw (← c.index-texts-at.is, ← c.index-parts-at.is) at (c.requires.made c.loop-at.at c.index-texts-at.result c.index-parts-at.result c.loop-at-test.true))
  where
    told : IfSome c.index-texts-at.result (λ text. text.items ≡ part_text c.index-parts-at.result) → IfSome c.map.result (λ bytes. bytes.now ≡ part_text c.index-parts-at.result)
    told made = search rules

pub returns-in_err-write_part : goal.returns-in_err-write_part
returns-in_err-write_part g c =
    let at = c.loop-at.at in
    let parts = c.args.parts.now in
    let more = rw (← c.index-parts-at.is) at (take_more parts at c.index-parts-at.result (rw c.requires.all at c.loop-at-test.true)) in
    Writes-broken _ _ _ _ _ _ _ _ (parts_text (drop (at + 1) parts)) _ _ c.from_residual.ensures.0 (part-rest parts at _ more) c.loop-at.invariant c.in_err-write_part.ensures
