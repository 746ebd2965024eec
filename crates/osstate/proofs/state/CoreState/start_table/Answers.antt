use Rattle.std.proofs.Common.{refl, ap, sym, subst, ◌∙◌}
use Rattle.osbase.specs.History.{Noted, TableStarted}
use Rattle.ostable.specs.{Tables.AreTables, Waiting.all_wait_by_counter}
use Rattle.ostable.proofs.{Asked.kept, Waiting.waits-kept}
use Rattle.osstate.proofs.Sounds.{clocked}
use Rattle.osstate.proofs.state.CoreState.start_table.Goals as goal

pub invariant_of-self : goal.invariant_of-self
invariant_of-self g c =
    clocked g.row.P g.row.J _ _ _ c.self.invariant c.self.invariant.times.clocks
    (subst (AreTables c.self.inside.core.now) (sym c.start.ensures) (kept c.self.inside.core.now (Noted (TableStarted c.args.table c.args.wait)) _ c.self.invariant.times.tables))
    (ap (all_wait_by_counter c.self.inside.core.now) c.start.ensures ∙ waits-kept c.self.inside.core.now (Noted (TableStarted c.args.table c.args.wait)) _ c.self.invariant.times.tables refl c.self.invariant.times.waiting)
