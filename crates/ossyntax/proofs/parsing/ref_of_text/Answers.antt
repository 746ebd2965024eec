use Rattle.std.proofs.Common.{rules}
use Rattle.ossyntax.proofs.Meant.{last_ref}
use Rattle.ossyntax.proofs.parsing.ref_of_text.Goals as goal

pub returns-in-Some-Some : goal.returns-in-Some-Some
returns-in-Some-Some g c =
    let made = last_ref (g.P.Places.place c.args.places.now) g.R.Reference.ref_of g.R.Reference.KIND c.in-Some.word.now c.target_of_word.result (rw c.KIND.ensures at c.target_of_word.ensures) in
    rw (c.in-Some.is, ← made) (search rules)

pub returns-in-Some-None : goal.returns-in-Some-None
returns-in-Some-None g c =
    let made = last_ref (g.P.Places.place c.args.places.now) g.R.Reference.ref_of g.R.Reference.KIND c.in-Some.word.now c.target_of_word.result (rw c.KIND.ensures at c.target_of_word.ensures) in
    rw (c.in-Some.is, ← made) (search rules)

pub returns-in-None-target_of_word : goal.returns-in-None-target_of_word
returns-in-None-target_of_word g c =
    let made = last_ref (g.P.Places.place c.args.places.now) g.R.Reference.ref_of g.R.Reference.KIND c.in-Some.word.now c.target_of_word.result (rw c.KIND.ensures at c.target_of_word.ensures) in
    rw (c.in-Some.is, ← made) (search rules)
