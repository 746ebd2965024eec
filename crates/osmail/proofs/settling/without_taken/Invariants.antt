use Rattle.std.proofs.Common.{◌≡◌, ◌++◌, ◌↔◌, List, drop}
use Rattle.osbase.specs.declared.messages.Letter.{Letter}
use Rattle.osmail.specs.Ends.{sent_to, taken_from}
use Rattle.osmail.proofs.settling.without_taken.Given as goal

-- For each `more`, the one whole list and then `more` are the other list exactly if this holds of what is left of both.
abbrev pub invariant-loop-step : goal.invariant-loop-step
invariant-loop-step l =
    (more : List Letter) →
    taken_from l.taken l.fn.from ++ more ≡ sent_to l.sent l.fn.to ↔ taken_from (drop l.step-index l.taken) l.fn.from ++ more ≡ sent_to l.left l.fn.to
