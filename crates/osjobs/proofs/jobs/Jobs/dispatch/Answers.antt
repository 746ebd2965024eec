use Rattle.std.proofs.Common.{◌≡◌, None, rules}
use Rattle.osbase.specs.History.{first_greatest}
use Rattle.osjobs.specs.Priorities.{level_by}
use Rattle.osjobs.proofs.Running.{current-runs}
use Rattle.osjobs.proofs.jobs.Jobs.dispatch.Goals as goal

pub best_task-requires : goal.best_task-requires
best_task-requires g c =
    let none : first_greatest (level_by c.args.core.now) c.args.self.now.isrs.live ≡ None = search rules in
    (search rules, (c.requires.tasks, current-runs c.args.self.now c.args.running c.requires.running (level_by c.args.core.now) none))
