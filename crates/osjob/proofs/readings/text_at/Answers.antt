use Rattle.std.proofs.{Common.refl, lemmas.Bool.false_from_ne_true, lemmas.Str.IsUtf8-from_is_utf8, lemmas.Str.is_utf8-from_IsUtf8}
use Rattle.osjob.proofs.Reading.{absent-asked}
use Rattle.osjob.proofs.readings.text_at.Goals as goal

pub returns-in-Ok-clause-text : goal.returns-in-Ok-clause-text
returns-in-Ok-clause-text g c =
    rw (← c.in-Some.ensures, is_utf8-from_IsUtf8 _ c.in-Ok.ensures.cases.1, c.in-Ok.ensures.cases.0) refl

pub returns-in-Err-clause-text : goal.returns-in-Err-clause-text
returns-in-Err-clause-text g c =
    rw (← c.in-Some.ensures, false_from_ne_true _ (λ e. c.in-Err.ensures.cases.0 (IsUtf8-from_is_utf8 _ e))) refl

pub returns-in-Err-clause-asked : goal.returns-in-Err-clause-asked
returns-in-Err-clause-asked g c = λ unreadable. absurd (c.requires.apart unreadable)

pub returns-in-None-clause-asked : goal.returns-in-None-clause-asked
returns-in-None-clause-asked g c = λ unreadable. absent-asked _ _ c.args.at c.requires.read c.requires.next c.in-None.ensures
