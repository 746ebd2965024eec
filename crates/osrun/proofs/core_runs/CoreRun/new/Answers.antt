use Rattle.std.proofs.Common.{rules}
use Rattle.osplan.proofs.Numbered.{configured-low}
use Rattle.osrun.proofs.Sizes.{view-priorities, view-ceilings, view-activations, view-outbox}
use Rattle.osrun.proofs.core_runs.CoreRun.new.Goals as goal

pub new-requires : goal.new-requires
new-requires c =
    let plan = c.args.config.now in
    let limits = c.plan.ensures.limits in
    search (
      rules,
      view-priorities plan c.args.id limits c.requires,
      view-ceilings plan c.args.id limits c.requires,
      view-activations plan c.args.id limits c.requires,
      view-outbox plan c.args.id limits c.requires,
    )

pub invariant_of-result : goal.invariant_of-result
invariant_of-result c = record {
  known = configured-low c.args.config.now c.args.id c.plan.ensures.limits c.requires;
  limits = rw c.plan.ensures.value c.plan.ensures.limits;
}
