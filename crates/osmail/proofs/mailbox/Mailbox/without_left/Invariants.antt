use Rattle.std.proofs.Common.{◌≡◌, ◌++◌, ◌↔◌, List, drop}
use Rattle.osbase.specs.declared.messages.Letter.{Letter}
use Rattle.osmail.specs.Ends.{letters_of, sent_to}
use Rattle.osmail.proofs.mailbox.Mailbox.without_left.Given as goal

-- For each `more`, the one whole list and then `more` are the other list exactly if this holds of what is left of both.
abbrev pub invariant-loop-i : goal.invariant-loop-i
invariant-loop-i g l =
    (more : List Letter) →
    letters_of l.self-inside.envelopes.items ++ more ≡ sent_to l.sent l.fn.to ↔ letters_of (drop l.i l.self-inside.envelopes.items) ++ more ≡ sent_to l.left l.fn.to
