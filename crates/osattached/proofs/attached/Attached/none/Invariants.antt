use Rattle.std.proofs.Common.{◌≡◌, [], length, map, replicate}
use Rattle.osattached.proofs.attached.Attached.none.Given as goal

abbrev pub invariant-loop-counter : goal.invariant-loop-counter
invariant-loop-counter g l = record {
  none : map (λ x. x.items) l.lists.items ≡ replicate l._counter [];
  count : length l.lists.items ≡ l._counter;
}
