use Rattle.std.proofs.Common.{◌≡◌, true, Some, ap, rules, sym, subst, ◌∙◌}
use Rattle.osbase.specs.History.{same_core}
use Rattle.osplan.specs.{declared.plans.Plan.Plan, View.View, View.core_of}
use Rattle.osjobs.specs.Queue.{have_queues}
use Rattle.osprogress.specs.Progress.{first_progress}
use Rattle.osstate.specs.{State.KernelState, Sound.IsSound}
use Rattle.osplan.proofs.{Clocked.clocks_within, Within.core-fits}
use Rattle.osstate.proofs.Begun.{state-begun, sound-begun, parts-begun, view-own}
use Rattle.osstate.proofs.state.CoreState.new.Goals as goal

pub invariant_of-result : goal.invariant_of-result
invariant_of-result g c =
    let found : core_of c.args.config.now c.args.id ≡ Some c.in-Some.core.now = sym (c.in-Some.ensures ∙ ap (λ (p : Plan). core_of p c.args.id) c.plan-plan.ensures.value) in
    subst (λ (s : KernelState). IsSound g.row.P g.row.J s)
    (sym (parts-begun c.args.config.now c.in-Some.core.now c.eq.result c.new.result _ _ _ _ _ c.new.ensures c.new-2.ensures c.new-3.ensures c.new-4.ensures c.new-5.ensures c.new-6.ensures))
    (sound-begun g.row.P g.row.J c.args.config.now c.args.id c.in-Some.core.now c.eq.result c.plan-plan.ensures.limits c.plan-plan.ensures.representable found c.requires.priorities c.requires.ceilings c.requires.activations)

pub returns : goal.returns
returns g c =
    let found : core_of c.args.config.now c.args.id ≡ Some c.in-Some.core.now = sym (c.in-Some.ensures ∙ ap (λ (p : Plan). core_of p c.args.id) c.plan-plan.ensures.value) in
    parts-begun c.args.config.now c.in-Some.core.now (same_core c.in-Some.core.now.id c.args.config.now.master) c.new.result _ _ _ _ _
    (c.new.ensures ∙ ap first_progress (c.eq.ensures ∙ ap (λ (p : Plan). same_core c.in-Some.core.now.id p.master) c.plan-plan.ensures.value))
    c.new-2.ensures c.new-3.ensures c.new-4.ensures c.new-5.ensures c.new-6.ensures
    ∙ state-begun c.args.config.now c.args.id c.in-Some.core.now found

pub new-requires-2 : goal.new-requires-2
new-requires-2 g c =
    let found : core_of c.args.config.now c.args.id ≡ Some c.in-Some.core.now = sym (c.in-Some.ensures ∙ ap (λ (p : Plan). core_of p c.args.id) c.plan-plan.ensures.value) in
    let fits = core-fits c.args.config.now c.args.id c.in-Some.core.now c.plan-plan.ensures.limits found in
    (search rules, (subst (λ (v : View). have_queues g.row.P v.own.tasks ≡ true) (sym (view-own c.args.config.now c.args.id c.in-Some.core.now found)) c.requires.priorities, (fits.priorities, fits.tasks)))

pub new-requires-3 : goal.new-requires-3
new-requires-3 g c =
    let found : core_of c.args.config.now c.args.id ≡ Some c.in-Some.core.now = sym (c.in-Some.ensures ∙ ap (λ (p : Plan). core_of p c.args.id) c.plan-plan.ensures.value) in
    clocks_within c.args.config.now c.args.id c.in-Some.core.now c.plan-plan.ensures.limits found

pub new-requires-4 : goal.new-requires-4
new-requires-4 g c =
    let found : core_of c.args.config.now c.args.id ≡ Some c.in-Some.core.now = sym (c.in-Some.ensures ∙ ap (λ (p : Plan). core_of p c.args.id) c.plan-plan.ensures.value) in
    clocks_within c.args.config.now c.args.id c.in-Some.core.now c.plan-plan.ensures.limits found
