use Rattle.oslaws.proofs.Entering.{runs-last}
use Rattle.oslaws.proofs.interrupts.the_last_entered_isr_runs.Goals as goal

pub returns : goal.returns
returns c = runs-last
