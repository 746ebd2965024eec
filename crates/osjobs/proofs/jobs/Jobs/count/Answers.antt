use Rattle.std.proofs.Common.{◌≡◌, ◌<◌, true, ap, sym, ◌∙◌}
use Rattle.osbase.specs.{declared.limits.TheConstants.RUNNERS, History.job_count, Sets.slot_of}
use Rattle.osjobs.specs.{Jobs.JobState, OwnTasks.is_own_task}
use Rattle.osjobs.proofs.Owned.{foreign-count, own-count, own-place}
use Rattle.osjobs.proofs.jobs.Jobs.count.Goals as goal

pub returns-then-has : goal.returns-then-has
returns-then-has g c =
    let own : is_own_task c.self.inside.tasks c.args.runner ≡ true = sym c.has.ensures ∙ c.if-has.true in
    let place : slot_of c.args.runner < RUNNERS = own-place c.self.inside.tasks c.args.runner c.self.invariant.queue.within own in
    rw c.slot.ensures
    (c.self.invariant.counted.each (slot_of c.args.runner) place
    ∙ own-count c.self.inside.tasks c.args.runner c.self.inside.jobs.items c.self.invariant.queue.own own
    ∙ ap (λ (s : JobState). job_count c.args.runner s.jobs) c.self.view_is)

pub returns : goal.returns
returns g c =
    sym (foreign-count c.self.inside.tasks c.args.runner c.self.inside.jobs.items c.self.invariant.queue.own (sym c.has.ensures ∙ c.if-has.false)) ∙ ap (λ (s : JobState). job_count c.args.runner s.jobs) c.self.view_is
