use Rattle.std.proofs.{Common.arith, lemmas.Grind.common_steps}
use Rattle.osmail.specs.Ends.{sent_to, taken_from}
use Rattle.osmail.proofs.Left.{left_differs, left_whole}
use Rattle.osmail.proofs.mailbox.Mailbox.settles.Goals as goal

pub returns-in_default-without_left : goal.returns-in_default-without_left
returns-in_default-without_left g c =
    let differs = left_differs (taken_from c.args.taken.now c.args.from) c.args.self.now.letters _ _ c.in-Some.ensures.some c.in_default-without_left.ensures.none in
    grind (arith, differs)

pub returns : goal.returns
returns g c =
    let whole = left_whole (taken_from c.args.taken.now c.args.from) c.args.self.now.letters _ _ (sent_to c.in-Some-without_left.sent.now c.args.to) c.in-Some.ensures.some c.in-Some-without_left.ensures.some in
    grind (arith, common_steps, whole, c.next_sent.ensures.some, c.next_sent.ensures.none)
