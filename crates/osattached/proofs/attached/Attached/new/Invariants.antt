use Rattle.std.proofs.Common.{◌≡◌, ℕ, ◌≤◌, ◌<◌, Bool, length, get_or, []}
use Rattle.osbase.specs.{declared.references.CoreId.CoreId, declared.references.CounterRef.CounterRef}
use Rattle.osattached.specs.Attached.{IsMember, firsts_by}
use Rattle.osattached.proofs.attached.Attached.new.Given as goal

abbrev pub invariant-loop-index : goal.invariant-loop-index
invariant-loop-index g l = record {
  firsts : (core : CoreId) (goes : CounterRef → _ → Bool) (ref : ℕ → _) → ((n : ℕ) (x : _) → n < l.count → goal.F-post g l.object n x → IsMember core goes ref n x.0 x.1) → l.attached ≡ firsts_by core l.counters goes ref l.index;
  many : length l.attached ≡ l.counters;
  few : (k : ℕ) → length (get_or l.attached k []) ≤ l.index;
}
