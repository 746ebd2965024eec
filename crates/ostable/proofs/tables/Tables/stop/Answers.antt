use Rattle.std.proofs.Common.{◌<◌, length, sym, subst}
use Rattle.ostable.specs.Tables.{TableStates}
use Rattle.ostable.proofs.Bounds.{table-inside}
use Rattle.ostable.proofs.tables.Tables.stop.Goals as goal

pub stop-requires : goal.stop-requires
stop-requires c = subst (λ (x : TableStates). c.args.table.index < length x.tables) (sym c.self.view_is) (table-inside c.args.core.now _ c.requires.tables c.args.table c.requires.own)
