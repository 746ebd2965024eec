use Rattle.std.proofs.Common.{◌≡◌, List, true, ap, subst, sym, ◌∙◌, ◌≤◌, length, sum_by}
use Rattle.std.specs.List.{list_all}
use Rattle.ostable.specs.{declared.tables.DueTable.DueTable, Tables.due_tables_in, Tables.timed_by, Waiting.are_own, Waiting.ends_alone, Waiting.with_next}
use Rattle.ostable.proofs.{Asked.dues-few, Asked.dues-own, Asked.dues-read, Finals.ends-alone-in, Posted.posted-in}
use Rattle.osstate.specs.State.{KernelState}
use Rattle.osstate.proofs.state.CoreState.due_tables.Goals as goal

pub returns-clause-own : goal.returns-clause-own
returns-clause-own g c =
    let core = c.self.inside.core.now in
    let history = c.self.invariant.times.tables.history in
    let is = c.due_next.ensures ∙ ap (due_tables_in core c.args.counter) c.self.invariant.times.tables.is ∙ dues-read core c.args.counter history c.self.invariant.times.tables.within in
    subst (λ (s : KernelState). list_all (are_own s.view.own) c.due_next.result.items ≡ true) c.self.view_is (ap (list_all (are_own core)) is ∙ dues-own core c.args.counter history)

pub returns-clause-ends : goal.returns-clause-ends
returns-clause-ends g c =
    let core = c.self.inside.core.now in
    subst (λ (s : KernelState). list_all (ends_alone s.view.own) c.due_next.result.items ≡ true) c.self.view_is
    (ap (list_all (ends_alone core)) c.due_next.ensures ∙ ends-alone-in core c.args.counter c.self.inside.tables c.self.invariant.times.tables)

pub returns-clause-few : goal.returns-clause-few
returns-clause-few g c =
    let core = c.self.inside.core.now in
    let history = c.self.invariant.times.tables.history in
    let is = c.due_next.ensures ∙ ap (due_tables_in core c.args.counter) c.self.invariant.times.tables.is ∙ dues-read core c.args.counter history c.self.invariant.times.tables.within in
    subst (λ (s : KernelState). length c.due_next.result.items ≤ length (timed_by s.view.own c.args.counter)) c.self.view_is
    (subst (λ (due : List DueTable). length due ≤ length (timed_by core c.args.counter)) (sym is) (dues-few core c.args.counter history))

pub returns-clause-once : goal.returns-clause-once
returns-clause-once g c f =
    let core = c.self.inside.core.now in
    subst (λ (s : KernelState). sum_by (with_next f) c.due_next.result.items ≤ sum_by f (timed_by s.view.own c.args.counter)) c.self.view_is
    (subst (λ (due : List DueTable). sum_by (with_next f) due ≤ sum_by f (timed_by core c.args.counter)) (sym c.due_next.ensures) (posted-in core c.args.counter c.self.inside.tables f c.self.invariant.times.waiting))
