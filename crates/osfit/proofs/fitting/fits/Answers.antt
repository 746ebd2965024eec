use Rattle.std.proofs.Common.{◌≡◌, Some, ap, sym, ◌∙◌}
use Rattle.osplan.specs.{declared.plans.Plan.Plan, View.core_of}
use Rattle.osplan.proofs.Within.{core-fits}
use Rattle.osfit.proofs.fitting.fits.Goals as goal

pub fits_core-requires : goal.fits_core-requires
fits_core-requires c =
    let found : core_of c.args.config.now c.args.core ≡ Some c.in-Some.own.now = sym (c.in-Some.ensures ∙ ap (λ (p : Plan). core_of p c.args.core) c.plan-plan.ensures.value) in
    let fits = core-fits c.args.config.now c.args.core c.in-Some.own.now c.plan-plan.ensures.limits found in
    record { activations = fits.activations; posted = fits.posted }
