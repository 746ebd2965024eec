use Rattle.std.proofs.Common.{◌≡◌, ◌+◌, ◌<◌, ◌≤◌, true, IfSome, IfNone, drop, get_or, length}
use Rattle.osbase.specs.History.{job_count, same_runner}
use Rattle.osjobs.proofs.Counting.{no-job}
use Rattle.osjobs.proofs.live.oldest_place.Given as goal

-- from this place on no job of the runner comes before the one that was found
abbrev pub invariant-loop-place : goal.invariant-loop-place
invariant-loop-place l = record {
  within : l.place ≤ length l.jobs;
  left : l.left + job_count l.runner (drop l.place l.jobs) ≡ l.most;
  inside : IfSome l.found (λ at. at < length l.jobs);
  first : IfSome l.found (λ at. job_count l.runner (drop l.place l.jobs) ≡ job_count l.runner (drop at l.jobs));
  same : IfSome l.found (λ at. same_runner (get_or l.jobs at no-job).runner l.runner ≡ true);
  none : IfNone l.found (job_count l.runner (drop l.place l.jobs) ≡ 0);
}

abbrev pub decreases-loop-place : goal.decreases-loop-place
decreases-loop-place l = l.place
