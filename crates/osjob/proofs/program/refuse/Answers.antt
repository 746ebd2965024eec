use Rattle.std.proofs.Common.{◌≡◌, ◌∙◌, ap, refl, sym, true, false}
use Rattle.clap.specs.Words.{kind_of}
use Rattle.osjob.specs.Program.{corrects, is_request, shows}
use Rattle.osjob.proofs.program.refuse.Goals as goal

pub returns-in-Ok : goal.returns-in-Ok
returns-in-Ok g c =
    let request : is_request (kind_of c.args.error.now) ≡ true =
    sym (c.is_request.ensures ∙ ap is_request c.kind.ensures) ∙ c.if-is_request.true in
    shows request _ _ _ c.show-shown.ensures c.close.ensures

pub returns-in-Ok-2 : goal.returns-in-Ok-2
returns-in-Ok-2 g c =
    let none : is_request (kind_of c.args.error.now) ≡ false =
    sym (c.is_request.ensures ∙ ap is_request c.kind.ensures) ∙ c.if-is_request.false in
    corrects c.in-Ok.ensures.ok none _ c.mistake.ensures refl
