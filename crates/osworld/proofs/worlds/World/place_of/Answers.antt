use Rattle.std.proofs.Common.{arith}
use Rattle.osworld.proofs.Places.{place-nowhere}
use Rattle.osworld.proofs.worlds.World.place_of.Goals as goal

pub returns-else-number-lt-CORES-clause-place : goal.returns-else-number-lt-CORES-clause-place
returns-else-number-lt-CORES-clause-place c = place-nowhere c.args.core c.args.self.now.core_runs.items (omega arith)
