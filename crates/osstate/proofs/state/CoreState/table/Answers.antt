use Rattle.std.proofs.Common.{IfSome, IsTrue, subst}
use Rattle.std.specs.{List.list_all, Option.option_copied}
use Rattle.osplan.specs.{Objects.table_actions, Objects.may_act}
use Rattle.osstate.specs.State.{KernelState}
use Rattle.osstate.proofs.ReadLemmas.{known_if_table}
use Rattle.osstate.proofs.state.CoreState.table.Goals as goal

pub returns-clause-known : goal.returns-clause-known
returns-clause-known g c =
    subst (λ (s : KernelState). IfSome (option_copied c.table_of.result) (λ table. IsTrue (list_all (may_act s.view.own) (table_actions table)))) c.self.view_is
    (known_if_table c.self.inside.core.now c.in_ok-target.field-0 (option_copied c.table_of.result) c.self.invariant.objects.actions c.table_of.ensures)
