use Rattle.std.proofs.Common.{rules, ap, sym, ◌∙◌}
use Rattle.osstate.specs.Queries.{running_in}
use Rattle.osstate.proofs.Room.{all_isrs_own, own_running}
use Rattle.osstate.proofs.state.CoreState.best_job.Goals as goal

pub dispatch-requires : goal.dispatch-requires
dispatch-requires g c =
    let running = c.requires ∙ ap running_in (sym c.self.view_is) in
    let core = c.self.inside.core.now in
    let jobs = c.self.inside.jobs in
    let sound = c.self.invariant.jobs in
    (search rules, (sound.tasks, (running, (own_running core jobs c.args.running sound.within sound.interrupts running, all_isrs_own core jobs.isrs.live sound.interrupts))))
