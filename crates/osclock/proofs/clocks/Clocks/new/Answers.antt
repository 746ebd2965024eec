use Rattle.osclock.proofs.Begun.{begun}
use Rattle.osclock.proofs.clocks.Clocks.new.Goals as goal

pub returns : goal.returns
returns c = begun c.args.core.now _ _ _ c.len.result c.new_counters.ensures c.len.ensures c.new_alarms.ensures c.new_attached.ensures
