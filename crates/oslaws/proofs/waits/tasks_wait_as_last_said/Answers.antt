use Rattle.oslaws.proofs.Waiting.{last-waited}
use Rattle.oslaws.proofs.waits.tasks_wait_as_last_said.Goals as goal

pub returns : goal.returns
returns c = (λ t h. record { awaited = (λ script. last-waited script t h) })
