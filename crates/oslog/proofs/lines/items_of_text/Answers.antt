use Rattle.oslog.proofs.Texts.{none-meant}
use Rattle.oslog.proofs.lines.items_of_text.Goals as goal

pub returns-in-Err-Unfit-clause-bad : goal.returns-in-Err-Unfit-clause-bad
returns-in-Err-Unfit-clause-bad c = λ bad. none-meant c.args.names.now.config.now c.args.text.now c.without_last_end-body.result.now c.without_last_end-body.ensures (rw c.in-Err-Unfit.field-0-is at c.in-Err-Unfit.ensures)
