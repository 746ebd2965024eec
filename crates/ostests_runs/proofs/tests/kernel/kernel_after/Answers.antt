use Rattle.std.proofs.Common.{rules, arith}
use Rattle.std.specs.Option.{IsSome}
use Rattle.osplan.specs.View.{core_of}
use Rattle.osrun.proofs.Sizes.{view-priorities, view-ceilings, view-activations, view-outbox}
use Rattle.ostests_runs.proofs.tests.kernel.kernel_after.Goals as goal

pub new-kernel-requires : goal.new-kernel-requires
new-kernel-requires g c =
    let plan = c.args.config.now in
    let within = c.plan.ensures.limits in
    let there : IsSome (core_of plan (record { number = 0 })) = grind (arith, c.core.ensures, c.ok_or.ensures.value, c.in_ok-_core.was) in
    (search rules, (there, (view-priorities plan _ within there, (view-ceilings plan _ within there, (view-activations plan _ within there, view-outbox plan _ within there)))))
