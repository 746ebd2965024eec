use Rattle.std.proofs.Common.{refl, ap, sym, subst, ◌∙◌}
use Rattle.osbase.specs.History.{Noted, CounterIncremented}
use Rattle.osclock.specs.Clocks.{AreClocks}
use Rattle.osclock.proofs.Asked.{kept}
use Rattle.ostable.specs.{Tables.AreTables, Waiting.all_wait_by_counter}
use Rattle.ostable.proofs.{Asked.kept as tables-kept, Waiting.waits-kept}
use Rattle.osstate.proofs.Sounds.{clocked}
use Rattle.osstate.proofs.state.CoreState.count.Goals as goal

pub invariant_of-self : goal.invariant_of-self
invariant_of-self g c =
    clocked g.row.P g.row.J _ _ _ c.self.invariant (subst (AreClocks c.self.inside.core.now) (sym c.count.ensures) (kept c.self.inside.core.now (Noted (CounterIncremented c.args.counter)) _ c.self.invariant.times.clocks))
    (subst (AreTables c.self.inside.core.now) (sym c.count-2.ensures) (tables-kept c.self.inside.core.now (Noted (CounterIncremented c.args.counter)) _ c.self.invariant.times.tables))
    (ap (all_wait_by_counter c.self.inside.core.now) c.count-2.ensures ∙ waits-kept c.self.inside.core.now (Noted (CounterIncremented c.args.counter)) _ c.self.invariant.times.tables refl c.self.invariant.times.waiting)
