use Rattle.std.proofs.Common.{sym, subst}
use Rattle.osworker.specs.Seats.{shared}
use Rattle.osthreads.specs.Threads.{IsReady}
use Rattle.osthreads.proofs.threads.start.Goals as goal

pub job-requires-in-Err : goal.job-requires-in-Err
job-requires-in-Err g c κs within = (
  search,
  (search, subst (λ f. IsReady f.0.now f.1.1.0.now (shared f.1.1.1.0.now f.1.1.1.1.0.now) f.1.1.1.1.1.1.1.1.1.1.1.0) (sym c.in-Err.ensures.err) c.requires),
)
