use Rattle.std.proofs.Common.{refl}
use Rattle.osload.proofs.Right.{core-joined}
use Rattle.osload.proofs.plans.TextPlannerPlannerCoreTextCore.plan.Goals as goal

pub returns : goal.returns
returns c =
    let runners = c.in_ok-runners.ensures in
    let timers = c.in_ok-timers.ensures in (
      runners.0,
      rw (c.from_vec.ensures, c.in_ok-ids_of.ensures, c.core_mode.ensures, runners.1, c.in_ok-resources.ensures.1, timers.1, c.number_id-id.ensures, c.as_slice.ensures, c.as_slice-2.ensures) refl,
      rw (c.with_names.ensures, c.is_core_mode_known.ensures, c.and.ensures, runners.2, timers.2, c.number_id-id.ensures) (core-joined c.args.self.now.objects.now.declared c.args.core.now),
    )
