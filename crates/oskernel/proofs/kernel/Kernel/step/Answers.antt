use Rattle.std.proofs.Common.{◌≡◌, ◌≤◌, ◌+◌, ◌^◌, ◌++◌, List, length, nat_lt, true, ap, sym, subst, ◌∙◌, arith, append_assoc, length-append}
use Rattle.std.proofs.lemmas.Bool.{and_parts}
use Rattle.osbase.specs.{declared.marks.Mark.Mark, History.Took}
use Rattle.osplan.specs.{Clocked.are_clocks_within, Objects.outbox_needed, View.View}
use Rattle.osstate.specs.{Does.Tracks, State.KernelState, Steps.state_after}
use Rattle.osadmit.specs.Admission.{admits, takes_in}
use Rattle.osacts.specs.Runs.{says}
use Rattle.oskernel.specs.Step.{dispatches, effect}
use Rattle.oskernel.proofs.Dispatched.{counted, dispatch-tracked, took, tracked}
use Rattle.oskernel.proofs.{Permitted.effect-permitted, Taken.sender}
use Rattle.oskernel.proofs.kernel.Kernel.step.Goals as goal

pub invariant_of-self : goal.invariant_of-self
invariant_of-self g c =
    let items = counted c.self.inside.state c.args.item (effect c.args.item) (dispatches c.take.new.state) c.take.ensures.steps c.dispatch.ensures in
    record {
      outbox = subst (λ (w : View). outbox_needed w.own ≤ g.row.OUT) (sym (c.dispatch.ensures.view ∙ c.take.ensures.steps.view)) c.self.invariant.outbox;
      entries = omega (arith, items, c.dispatch.ensures.count, c.take.ensures.steps.count, c.self.invariant.entries);
    }

pub returns-clause-adds : goal.returns-clause-adds
returns-clause-adds g c =
    let middle = c.take.new.state in
    let first : List Mark = says (effect c.args.item) (state_after (Took c.args.item) c.self.inside.state) in
    let said : List Mark = first ++ says (dispatches middle) middle in
    let is : c.dispatch.new.marks.items ≡ c.args.marks.now.items ++ said =
    c.dispatch.ensures.prints ∙ ap (λ (ms : List Mark). ms ++ says (dispatches middle) middle) c.take.ensures.steps.prints ∙ append_assoc c.args.marks.now.items first (says (dispatches middle) middle) in
    record { added = said; is = is; within = omega (arith, ap length is, length-append c.args.marks.now.items said, c.dispatch.ensures.len, c.take.ensures.steps.len, c.args.marks.now.ok.0, c.dispatch.new.marks.ok.0) }

pub returns-clause-items : goal.returns-clause-items
returns-clause-items g c =
    counted c.self.inside.state c.args.item (effect c.args.item) (dispatches c.take.new.state) c.take.ensures.steps c.dispatch.ensures ∙ ap (λ (s : KernelState). s.progress.items + 1) c.self.view_is

pub returns-clause-does : goal.returns-clause-does
returns-clause-does g c v h earlier base tracks =
    let item = c.args.item in
    let s = c.self.inside.state in
    let within = c.take.ensures.within in
    let taken = took item within (subst (λ (q : KernelState). Tracks v h earlier base q c.args.marks.now.items) (sym c.self.view_is) tracks) in
    let takes : takes_in g.row.OUT s item ≡ true = subst (λ (q : KernelState). takes_in g.row.OUT q item ≡ true) (sym c.self.view_is) c.requires.taken in
    let permitted = effect-permitted item within (sender g.row.OUT s item (and_parts (nat_lt s.progress.items (2 ^ 48)) (admits g.row.OUT s item) takes).1) taken.stands in
    dispatch-tracked (subst (λ (w : View). are_clocks_within w.own ≡ true) (sym c.take.ensures.steps.view) within) c.dispatch.ensures (tracked (effect item) within permitted c.take.ensures.steps taken)
