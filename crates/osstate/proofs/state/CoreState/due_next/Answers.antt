use Rattle.std.proofs.Common.{◌≡◌, List, true, ap, subst, sym, ◌∙◌, ◌≤◌, length}
use Rattle.std.specs.List.{list_all}
use Rattle.osbase.specs.{declared.references.AlarmRef.AlarmRef, Objects.alarm_object}
use Rattle.osplan.specs.Objects.{is_own_object}
use Rattle.osplan.proofs.Tests.{length-filter-le}
use Rattle.osclock.specs.Clocks.{attached_to, due_in, is_due_in}
use Rattle.osclock.proofs.Attached.{picked-own}
use Rattle.osstate.specs.State.{KernelState}
use Rattle.osstate.proofs.state.CoreState.due_next.Goals as goal

pub returns-clause-own : goal.returns-clause-own
returns-clause-own g c =
    let own = c.args.self.now.view.own in
    subst (λ (xs : List AlarmRef). list_all (λ (a : AlarmRef). is_own_object own (alarm_object a)) xs ≡ true) (sym (c.due_next.ensures ∙ ap (λ (s : KernelState). due_in s.view.own c.args.counter s.clocks) c.self.view_is))
    (picked-own own c.args.counter (λ (a : AlarmRef). is_due_in own a c.args.self.now.clocks))

pub returns-clause-few : goal.returns-clause-few
returns-clause-few g c =
    let own = c.args.self.now.view.own in
    subst (λ (xs : List AlarmRef). length xs ≤ length (attached_to own c.args.counter)) (sym (c.due_next.ensures ∙ ap (λ (s : KernelState). due_in s.view.own c.args.counter s.clocks) c.self.view_is))
    (length-filter-le (λ (a : AlarmRef). is_due_in own a c.args.self.now.clocks) (attached_to own c.args.counter))
