use Rattle.std.proofs.Common.{◌≡◌, ◌≤◌, drop, length}
use Rattle.osbase.specs.History.{job_count}
use Rattle.osjobs.proofs.live.count_jobs.Given as goal

abbrev pub invariant-loop-place : goal.invariant-loop-place
invariant-loop-place l = record {
  within : l.place ≤ length l.jobs;
  counted : l.count ≡ job_count l.runner (drop l.place l.jobs);
}

abbrev pub decreases-loop-place : goal.decreases-loop-place
decreases-loop-place l = l.place
