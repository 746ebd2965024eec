use Rattle.std.proofs.Common.{ap, ◌∙◌}
use Rattle.osbase.specs.declared.references.Runner.TheVariants as Runner
use Rattle.osbase.specs.History.{is_waiting}
use Rattle.oscript.specs.Runners.{Row}
use Rattle.osjobs.proofs.Keeping.{kept}
use Rattle.osjobs.proofs.jobs.Jobs.set_events.Goals as goal

pub invariant_of-self : goal.invariant_of-self
invariant_of-self g c =
    rw c.put_events.ensures (kept c.self.invariant (Runner.Task c.args.task) (λ (row : Row). record row { events = c.with_set.result }) (ap is_waiting c.with_set.ensures ∙ ap is_waiting c.events-events.ensures) (λ h. h))
