use Rattle.std.proofs.Common.{rules, ◌≡◌, Some, sym}
use Rattle.osbase.specs.History.{oldest, without_oldest}
use Rattle.osjobs.proofs.{Counting.counted-fewer, Counting.counted-some, Counting.counted-without, Removal.oldest-at}
use Rattle.osjobs.proofs.live.take_oldest.Goals as goal

pub overflow_sub-counts : goal.overflow_sub-counts
overflow_sub-counts g c =
    let found : oldest c.args.runner c.args.jobs.now.items ≡ Some c.remove-job.result = oldest-at _ _ c.as_slice-2.result.now c.in_ok-place.place _ c.as_slice-2.ensures.value c.in_ok-place.ensures.job c.in_ok-place.ensures.within c.remove-job.ensures.value in
    rw c.slot-place.ensures (counted-some c.args.jobs.now.items c.args.counts.now c.args.runner c.remove-job.result c.requires.counted found (search rules))

pub returns-then-place-lt-RUNNERS-clause-job : goal.returns-then-place-lt-RUNNERS-clause-job
returns-then-place-lt-RUNNERS-clause-job g c =
    sym (oldest-at _ _ c.as_slice-2.result.now c.in_ok-place.place _ c.as_slice-2.ensures.value c.in_ok-place.ensures.job c.in_ok-place.ensures.within c.remove-job.ensures.value)

pub returns-then-place-lt-RUNNERS-clause-counted : goal.returns-then-place-lt-RUNNERS-clause-counted
returns-then-place-lt-RUNNERS-clause-counted g c =
    let found : oldest c.args.runner c.args.jobs.now.items ≡ Some c.remove-job.result = oldest-at _ _ c.as_slice-2.result.now c.in_ok-place.place _ c.as_slice-2.ensures.value c.in_ok-place.ensures.job c.in_ok-place.ensures.within c.remove-job.ensures.value in
    let rest : c.remove-job.new.self.items ≡ without_oldest c.args.runner c.args.jobs.now.items = search rules in
    rw (rest, c.slot-place.ensures) (counted-fewer c.args.jobs.now.items c.args.counts.now c.args.runner c.remove-job.result c.requires.counted found (search rules) (search rules))

pub returns-else-place-lt-RUNNERS-clause-job : goal.returns-else-place-lt-RUNNERS-clause-job
returns-else-place-lt-RUNNERS-clause-job g c =
    sym (oldest-at _ _ c.as_slice-2.result.now c.in_ok-place.place _ c.as_slice-2.ensures.value c.in_ok-place.ensures.job c.in_ok-place.ensures.within c.remove-job.ensures.value)

pub returns-else-place-lt-RUNNERS-clause-counted : goal.returns-else-place-lt-RUNNERS-clause-counted
returns-else-place-lt-RUNNERS-clause-counted g c =
    let found : oldest c.args.runner c.args.jobs.now.items ≡ Some c.remove-job.result = oldest-at _ _ c.as_slice-2.result.now c.in_ok-place.place _ c.as_slice-2.ensures.value c.in_ok-place.ensures.job c.in_ok-place.ensures.within c.remove-job.ensures.value in
    let rest : c.remove-job.new.self.items ≡ without_oldest c.args.runner c.args.jobs.now.items = search rules in
    rw rest (counted-without c.args.jobs.now.items c.args.counts.now c.args.runner c.remove-job.result c.requires.counted found (search rules))
