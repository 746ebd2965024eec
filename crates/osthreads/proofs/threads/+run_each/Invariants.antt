use Rattle.std.proofs.Common.{vec_len}
use Rattle.osthreads.proofs.threads.+run_each.Given as goal

abbrev pub decreases-run_each : goal.decreases-run_each
decreases-run_each g l = vec_len l.outfits.now
