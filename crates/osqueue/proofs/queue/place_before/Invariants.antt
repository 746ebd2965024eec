use Rattle.std.proofs.Common.{◌≡◌, ◌-◌}
use Rattle.std.specs.List.{slice_index}
use Rattle.osqueue.specs.Links.{IsOnTheWay, IsStep, at, stamp_of}
use Rattle.osqueue.proofs.queue.place_before.Given as goal

abbrev pub invariant-loop-before : goal.invariant-loop-before
invariant-loop-before g l = record {
  way : IsOnTheWay l.pool l.ready l.before;
  step : IsStep l.pool l.place l.ready (stamp_of (at l.pool l.before));
  here : l.place ≡ slice_index l.next l.before;
}

abbrev pub decreases-loop-before : goal.decreases-loop-before
decreases-loop-before g l = l.ready.job.stamp - stamp_of (at l.pool l.place)
