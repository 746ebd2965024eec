use Rattle.std.proofs.Common.{◌≡◌, true, ap, sym, subst, ◌∙◌}
use Rattle.osbase.specs.History.{Noted, TableNext}
use Rattle.ostable.specs.{Tables.AreTables, Waiting.all_wait_by_counter, Waiting.are_of_one_counter}
use Rattle.ostable.proofs.{Asked.kept, Waiting.waits-kept}
use Rattle.osstate.specs.State.{KernelState}
use Rattle.osstate.proofs.Sounds.{clocked}
use Rattle.osstate.proofs.state.CoreState.set_next_table.Goals as goal

pub invariant_of-self : goal.invariant_of-self
invariant_of-self g c =
    clocked g.row.P g.row.J _ _ _ c.self.invariant c.self.invariant.times.clocks
    (subst (AreTables c.self.inside.core.now) (sym c.wait_for.ensures) (kept c.self.inside.core.now (Noted (TableNext c.args.table c.args.next)) _ c.self.invariant.times.tables))
    (ap (all_wait_by_counter c.self.inside.core.now) c.wait_for.ensures ∙ waits-kept c.self.inside.core.now (Noted (TableNext c.args.table c.args.next)) _ c.self.invariant.times.tables (subst (λ (s : KernelState). are_of_one_counter s.view.own c.args.table c.args.next ≡ true) (sym c.self.view_is) c.requires.counter) c.self.invariant.times.waiting)
