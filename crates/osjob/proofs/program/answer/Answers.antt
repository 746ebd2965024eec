use Rattle.osjob.specs.Program.{does, refuses}
use Rattle.osjob.proofs.program.answer.Goals as goal

pub returns-in-Ok-job_of : goal.returns-in-Ok-job_of
returns-in-Ok-job_of g c =
    rw c.in-Ok.is (does c.in-Ok-job_of.job (rw c.as_slice.ensures.value at c.in-Ok-job_of.ensures.job) c.do_job.ensures)

pub returns : goal.returns
returns g c = rw c.in-Ok.is (refuses _ (rw c.as_slice.ensures.value at c.in-Err.ensures.fault) c.refuse.ensures)
