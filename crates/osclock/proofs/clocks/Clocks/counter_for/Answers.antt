use Rattle.std.proofs.Common.{◌≡◌, Some, None, Option, is_some, ap, sym, ◌∙◌, rules}
use Rattle.std.proofs.lemmas.Bool.{false≢true}
use Rattle.osplan.specs.{declared.plans.Alarm.Alarm as AlarmValue, View.own_alarm}
use Rattle.osclock.specs.Clocks.{counter_for}
use Rattle.osclock.proofs.{Bounds.counter-inside, Bounds.counter-of, Law.attached, Places.alarm-some}
use Rattle.osclock.proofs.clocks.Clocks.counter_for.Goals as goal

pub counter-requires : goal.counter-requires
counter-requires c =
    let own : own_alarm c.args.core.now c.args.alarm ≡ Some c.in-Some.own.now = search rules in
    counter-inside c.args.core.now _ c.in-Some.own.now.counter c.requires.clocks (attached c.args.core.now c.args.alarm c.in-Some.own.now c.requires.clocks.within own)

pub unreachable-requires : goal.unreachable-requires
unreachable-requires c =
    let none : own_alarm c.args.core.now c.args.alarm ≡ None = search rules in
    false≢true (ap (λ (o : Option AlarmValue). is_some o) (sym none) ∙ alarm-some c.args.core.now c.args.alarm c.requires.own)

pub returns-clause-counter : goal.returns-clause-counter
returns-clause-counter c =
    let is : c.counter.result ≡ counter_for c.args.core.now c.args.alarm c.args.self.now = search rules in
    rw is (counter-of c.args.core.now c.args.self.now c.args.alarm c.requires.clocks c.requires.own)
