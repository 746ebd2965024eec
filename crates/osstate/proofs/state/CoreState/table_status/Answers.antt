use Rattle.std.proofs.Common.{◌≡◌, true, sym, subst}
use Rattle.osbase.specs.Objects.{table_object}
use Rattle.osplan.specs.Objects.{is_own_object}
use Rattle.ostable.proofs.Bounds.{table-inside}
use Rattle.osstate.specs.State.{KernelState}
use Rattle.osstate.proofs.state.CoreState.table_status.Goals as goal

pub status-requires : goal.status-requires
status-requires g c = table-inside c.self.inside.core.now _ c.self.invariant.times.tables c.args.table (subst (λ (s : KernelState). is_own_object s.view.own (table_object c.args.table) ≡ true) (sym c.self.view_is) c.requires.own)
