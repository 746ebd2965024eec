use Rattle.std.proofs.Common.{◌≡◌, true, None, Option, is_some, rules, ap, sym, subst, ◌∙◌}
use Rattle.osplan.specs.{declared.plans.Alarm.Alarm, View.own_alarm, Objects.core_actions, Objects.may_act}
use Rattle.osclock.proofs.Places.{alarm-some}
use Rattle.std.specs.List.{list_all}
use Rattle.osstate.specs.State.{KernelState}
use Rattle.osstate.proofs.ReadLemmas.{known_timed}
use Rattle.osstate.proofs.state.CoreState.alarm_action.Goals as goal
use Rattle.std.proofs.lemmas.Bool.{false≢true}

pub returns-clause-known : goal.returns-clause-known
returns-clause-known g c =
    known_timed c.args.self.now.view.own c.args.alarm c.in-Some.own.now
    (subst (λ (s : KernelState). list_all (may_act s.view.own) (core_actions s.view.own) ≡ true) c.self.view_is c.self.invariant.objects.actions) (search rules)

pub unreachable-requires : goal.unreachable-requires
unreachable-requires g c =
    let none : own_alarm c.args.self.now.view.own c.args.alarm ≡ None = search rules in
    false≢true (ap (λ (o : Option Alarm). is_some o) (sym none) ∙ alarm-some c.args.self.now.view.own c.args.alarm c.requires.own)
