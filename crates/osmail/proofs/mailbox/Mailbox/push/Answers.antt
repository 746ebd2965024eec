use Rattle.std.proofs.Common.{◌≡◌, ◌+◌, ◌∷◌, ◌∙◌, List, [], length, length-append, subst, sym, ap, arith}
use Rattle.std.proofs.lemmas.List.{length-map}
use Rattle.osbase.specs.{declared.messages.Envelope.Envelope, declared.messages.Letter.Letter}
use Rattle.osmail.specs.{Ends.letters_of, Mailboxes.AreNumbered, Mailboxes.IsNext, Mailboxes.MailboxState}
use Rattle.osmail.proofs.{Steps.numbered-push, Through.letters_more}
use Rattle.osmail.proofs.mailbox.Mailbox.push.Goals as goal

pub invariant_of-self : goal.invariant_of-self
invariant_of-self g c =
    let old = c.self.inside in
    let e = c.args.envelope in
    let next = subst (λ (t : MailboxState). IsNext t e.letter) (sym c.self.view_is) (c.is_next.ensures.0 c.if-not-is_next.false) in
    let i = c.self.invariant in
    let letters = letters_more old.envelopes.items c.push_back.new.self.items e c.in-Ok.ensures.items in
    let l : length (letters_of c.push_back.new.self.items) ≡ length (letters_of old.envelopes.items) + 1 = ap (λ (ls : List Letter). length ls) letters ∙ length-append (letters_of old.envelopes.items) (e.letter ∷ []) in
    let k : length (letters_of old.envelopes.items) ≡ c.len.result = omega (arith, length-map old.envelopes.items (λ (x : Envelope). x.letter), c.len.ensures, old.envelopes.ok.0) in (
      omega (arith, i.0, c.push_back.ensures.capacity),
      record {
        within = omega (arith, l, k, c.if-len-self.false);
        fits = i.1.fits;
        small = omega (arith, l, next.number, next.small);
        numbered = subst (λ (ls : List Letter). AreNumbered old.next ls) (sym letters) (numbered-push old.next (letters_of old.envelopes.items) e.letter i.1.numbered next.number);
      },
    )
