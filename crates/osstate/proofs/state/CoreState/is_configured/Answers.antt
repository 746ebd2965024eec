use Rattle.std.proofs.Common.{◌≡◌, Option, Some, None, Bor, refl, ap, ◌∙◌, is_some, option_copied}
use Rattle.osplan.specs.{declared.plans.Plan.Plan, declared.plans.Core.Core, View.core_of, View.is_configured}
use Rattle.osstate.specs.State.{KernelState}
use Rattle.osstate.proofs.Begun.{is_some-core_of}
use Rattle.osstate.proofs.state.CoreState.is_configured.Goals as goal

copied : (o : Option (Bor Core)) → is_some o ≡ is_some (option_copied o)
copied None = refl
copied (Some x) = refl

pub returns : goal.returns
returns g c =
    c.is_some.ensures ∙ copied c.core.result
    ∙ ap (λ (o : Option Core). is_some o) (c.core.ensures ∙ ap (λ (p : Plan). core_of p c.args.id) c.plan.ensures.value)
    ∙ is_some-core_of c.args.id c.self.inside.config.now.cores
    ∙ ap (λ (s : KernelState). is_configured s.view c.args.id) c.self.view_is
