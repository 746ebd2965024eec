use Rattle.std.proofs.Common.{◌≡◌, ℕ, ◌+◌, length}
use Rattle.osplan.specs.Spinlocks.{comes_after, links_of}
use Rattle.osplan.proofs.spinlocks.comes_after.Given as goal

-- The links that are left decide the result.
abbrev pub invariant-loop-link : goal.invariant-loop-link
invariant-loop-link l =
    (n : ℕ) → n + l._link ≡ length (links_of l.spinlocks) → comes_after (links_of l.spinlocks) n l.at l.to ≡ comes_after (links_of l.spinlocks) (length (links_of l.spinlocks)) l.fn.from l.to
