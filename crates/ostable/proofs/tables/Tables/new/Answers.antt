use Rattle.ostable.proofs.Begun.{begun}
use Rattle.ostable.proofs.tables.Tables.new.Goals as goal

pub returns : goal.returns
returns c = begun c.args.core.now _ _ c.len.result c.len.ensures c.new_tables.ensures c.new_timed.ensures
