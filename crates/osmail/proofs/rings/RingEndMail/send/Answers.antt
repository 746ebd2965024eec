use Rattle.std.proofs.Common.{◌<◌, length, refl, arith}
use Rattle.std.proofs.lemmas.Result.{IfOk-weaker}
use Rattle.osmail.specs.Rings.{sent_by}
use Rattle.osmail.proofs.Through.{one_more}
use Rattle.osmail.proofs.rings.RingEndMail.send.Goals as goal

pub returns-clause-ok : goal.returns-clause-ok
returns-clause-ok c =
    let places = c.args.self.now.to in
    let letter = c.args.envelope.letter in
    let within : c.from.result < length places.items = omega (arith, c.in-Some.ensures.variant.0 refl, places.ok.0) in
    IfOk-weaker c.send_through.result _ _
    (λ _ more d. rw (← c.from.ensures) (one_more sent_by places.items c.from.result c.in-Some.place.now c.send_through.new.place letter within c.in-Some.ensures.value more d.number))
    c.send_through.ensures.ok
