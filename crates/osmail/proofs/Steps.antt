-- What an end sent and took, with one step more; and a mailbox with one letter more.
use Rattle.std.proofs.Common.{◌≡◌, ◌+◌, ℕ, List, [], ◌∷◌, ◌++◌, length, refl, ◌∙◌, append-nil, arith}
use Rattle.osbase.specs.{declared.references.CoreId.CoreId, declared.messages.Letter.Letter}
use Rattle.osmail.specs.{declared.ends.MailStep.MailStep, declared.ends.MailStep.TheVariants.Sent, declared.ends.MailStep.TheVariants.Taken, Mailboxes.AreNumbered}
use Rattle.osmail.specs.Ends.{AreUnchanged, HasOneMore, sent_to, taken_from}

sent-append : (xs ys : List MailStep) (d : CoreId) → sent_to (xs ++ ys) d ≡ sent_to xs d ++ sent_to ys d
sent-append [] ys d = refl
sent-append (Sent to e ∷ xs) ys d = grind (arith, sent-append xs ys d)
sent-append (Taken from e ∷ xs) ys d = sent-append xs ys d

taken-append : (xs ys : List MailStep) (d : CoreId) → taken_from (xs ++ ys) d ≡ taken_from xs d ++ taken_from ys d
taken-append [] ys d = refl
taken-append (Sent to e ∷ xs) ys d = taken-append xs ys d
taken-append (Taken from e ∷ xs) ys d = grind (arith, taken-append xs ys d)

-- One more letter was sent.
pub sent_after_sent : (xs new : List MailStep) (to : CoreId) (e : Letter) → new ≡ xs ++ Sent to e ∷ [] → HasOneMore to e (sent_to xs) (sent_to new)
sent_after_sent xs new to e is d = grind (arith, is, sent-append xs (Sent to e ∷ []) d, append-nil (sent_to xs d))

pub taken_after_sent : (xs new : List MailStep) (to : CoreId) (e : Letter) → new ≡ xs ++ Sent to e ∷ [] → AreUnchanged (taken_from xs) (taken_from new)
taken_after_sent xs new to e is d = rw is (taken-append xs (Sent to e ∷ []) d ∙ append-nil (taken_from xs d))

-- One more letter was taken.
pub taken_after_taken : (xs new : List MailStep) (from : CoreId) (e : Letter) → new ≡ xs ++ Taken from e ∷ [] → HasOneMore from e (taken_from xs) (taken_from new)
taken_after_taken xs new from e is d = grind (arith, is, taken-append xs (Taken from e ∷ []) d, append-nil (taken_from xs d))

pub sent_after_taken : (xs new : List MailStep) (from : CoreId) (e : Letter) → new ≡ xs ++ Taken from e ∷ [] → AreUnchanged (sent_to xs) (sent_to new)
sent_after_taken xs new from e is d = rw is (sent-append xs (Taken from e ∷ []) d ∙ append-nil (sent_to xs d))

-- The next letter has the next number.
pub numbered-push : (n : ℕ) (es : List Letter) (e : Letter) → AreNumbered n es → e.number ≡ n + length es → AreNumbered n (es ++ e ∷ [])
numbered-push n [] e h is = (omega (arith, is), tt)
numbered-push n (x ∷ es) e h is = (h.0, numbered-push (n + 1) es e h.1 (omega (arith, is)))
