use Rattle.std.proofs.Common.{◌≡◌, true, Option, Some, None, IfSome, IsTrue, ap, subst, ◌∙◌}
use Rattle.std.specs.Option.{option_map_or}
use Rattle.osbase.specs.{declared.references.TableRef.TableRef, Objects.table_object}
use Rattle.osplan.specs.{declared.plans.Core.Core, Objects.is_own_object}
use Rattle.ostable.specs.Tables.{TableStates, next_in}
use Rattle.ostable.proofs.{Asked.next-own, Asked.next-read, Bounds.tables-length}
use Rattle.osstate.specs.State.{KernelState}
use Rattle.osstate.proofs.state.CoreState.next_table.Goals as goal

pub next-requires : goal.next-requires
next-requires g c = tables-length c.self.inside.core.now _ c.self.invariant.times.tables

pub returns-clause-own : goal.returns-clause-own
returns-clause-own g c =
    subst (λ (s : KernelState). IfSome c.next.result (λ next. IsTrue (is_own_object s.view.own (table_object next)))) c.self.view_is
    (if-some c.self.inside.core.now c.next.result
    (ap (λ (o : Option TableRef). option_map_or (λ (u : TableRef). is_own_object c.self.inside.core.now (table_object u)) o true)
    (c.next.ensures ∙ ap (λ (x : TableStates). next_in c.self.inside.core.now c.args.table x) c.self.invariant.times.tables.is ∙ next-read c.self.inside.core.now c.args.table c.self.invariant.times.tables.history)
    ∙ next-own c.self.inside.core.now c.args.table c.self.invariant.times.tables.history))
  where
    if-some : (core : Core) (o : Option TableRef) → option_map_or (λ (u : TableRef). is_own_object core (table_object u)) o true ≡ true → IfSome o (λ next. IsTrue (is_own_object core (table_object next)))
    if-some core None own = tt
    if-some core (Some u) own = own
