use Rattle.std.proofs.Common.{◌<◌, length, sym, subst}
use Rattle.ostable.specs.Tables.{TableStates}
use Rattle.ostable.proofs.Bounds.{table-inside}
use Rattle.ostable.proofs.tables.Tables.wait_for.Goals as goal

pub wait-requires : goal.wait-requires
wait-requires c = subst (λ (x : TableStates). c.args.next.index < length x.tables) (sym c.self.view_is) (table-inside c.args.core.now _ c.requires.tables c.args.next c.requires.own)
