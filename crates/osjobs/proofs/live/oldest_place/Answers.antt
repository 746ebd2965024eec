use Rattle.std.proofs.Common.{◌≡◌, ℕ, drop, ap, sym, arith}
use Rattle.osbase.specs.History.{job_count}
use Rattle.osjobs.proofs.Counting.{count-parts}
use Rattle.osjobs.proofs.Removal.{found-oldest, found-removed, none-removed, none-there}
use Rattle.osjobs.proofs.live.oldest_place.Goals as goal

pub returns-else-left-gt0-clause-found : goal.returns-else-left-gt0-clause-found
returns-else-left-gt0-clause-found c =
    let all : job_count c.args.runner c.args.jobs.now ≡ job_count c.args.runner (drop c.loop-place.place c.args.jobs.now) = omega (arith, c.requires.most, c.loop-place.invariant.left, c.if-left-gt0.false, count-parts c.args.runner c.args.jobs.now c.loop-place.place) in
    found-removed c.args.runner c.args.jobs.now c.loop-place.place all c.loop-place.found c.loop-place.invariant.inside c.loop-place.invariant.first c.loop-place.invariant.same

pub returns-else-left-gt0-clause-job : goal.returns-else-left-gt0-clause-job
returns-else-left-gt0-clause-job c =
    let all : job_count c.args.runner c.args.jobs.now ≡ job_count c.args.runner (drop c.loop-place.place c.args.jobs.now) = omega (arith, c.requires.most, c.loop-place.invariant.left, c.if-left-gt0.false, count-parts c.args.runner c.args.jobs.now c.loop-place.place) in
    found-oldest c.args.runner c.args.jobs.now c.loop-place.place all c.loop-place.found c.loop-place.invariant.inside c.loop-place.invariant.first c.loop-place.invariant.same

pub returns-else-left-gt0-clause-none : goal.returns-else-left-gt0-clause-none
returns-else-left-gt0-clause-none c =
    let all : job_count c.args.runner c.args.jobs.now ≡ job_count c.args.runner (drop c.loop-place.place c.args.jobs.now) = omega (arith, c.requires.most, c.loop-place.invariant.left, c.if-left-gt0.false, count-parts c.args.runner c.args.jobs.now c.loop-place.place) in
    none-removed c.args.runner c.args.jobs.now c.loop-place.place all c.loop-place.found c.loop-place.invariant.none

pub returns-else-left-gt0-clause-absent : goal.returns-else-left-gt0-clause-absent
returns-else-left-gt0-clause-absent c =
    let all : job_count c.args.runner c.args.jobs.now ≡ job_count c.args.runner (drop c.loop-place.place c.args.jobs.now) = omega (arith, c.requires.most, c.loop-place.invariant.left, c.if-left-gt0.false, count-parts c.args.runner c.args.jobs.now c.loop-place.place) in
    none-there c.args.runner c.args.jobs.now c.loop-place.place all c.loop-place.found c.loop-place.invariant.none

pub returns-after-loop-place-clause-found : goal.returns-after-loop-place-clause-found
returns-after-loop-place-clause-found c =
    let all : job_count c.args.runner c.args.jobs.now ≡ job_count c.args.runner (drop c.loop-place.place c.args.jobs.now) = (let first : c.loop-place.place ≡ 0 = omega (arith, c.loop-place-test.false) in ap (λ (n : ℕ). job_count c.args.runner (drop n c.args.jobs.now)) (sym first)) in
    found-removed c.args.runner c.args.jobs.now c.loop-place.place all c.loop-place.found c.loop-place.invariant.inside c.loop-place.invariant.first c.loop-place.invariant.same

pub returns-after-loop-place-clause-job : goal.returns-after-loop-place-clause-job
returns-after-loop-place-clause-job c =
    let all : job_count c.args.runner c.args.jobs.now ≡ job_count c.args.runner (drop c.loop-place.place c.args.jobs.now) = (let first : c.loop-place.place ≡ 0 = omega (arith, c.loop-place-test.false) in ap (λ (n : ℕ). job_count c.args.runner (drop n c.args.jobs.now)) (sym first)) in
    found-oldest c.args.runner c.args.jobs.now c.loop-place.place all c.loop-place.found c.loop-place.invariant.inside c.loop-place.invariant.first c.loop-place.invariant.same

pub returns-after-loop-place-clause-none : goal.returns-after-loop-place-clause-none
returns-after-loop-place-clause-none c =
    let all : job_count c.args.runner c.args.jobs.now ≡ job_count c.args.runner (drop c.loop-place.place c.args.jobs.now) = (let first : c.loop-place.place ≡ 0 = omega (arith, c.loop-place-test.false) in ap (λ (n : ℕ). job_count c.args.runner (drop n c.args.jobs.now)) (sym first)) in
    none-removed c.args.runner c.args.jobs.now c.loop-place.place all c.loop-place.found c.loop-place.invariant.none

pub returns-after-loop-place-clause-absent : goal.returns-after-loop-place-clause-absent
returns-after-loop-place-clause-absent c =
    let all : job_count c.args.runner c.args.jobs.now ≡ job_count c.args.runner (drop c.loop-place.place c.args.jobs.now) = (let first : c.loop-place.place ≡ 0 = omega (arith, c.loop-place-test.false) in ap (λ (n : ℕ). job_count c.args.runner (drop n c.args.jobs.now)) (sym first)) in
    none-there c.args.runner c.args.jobs.now c.loop-place.place all c.loop-place.found c.loop-place.invariant.none
