use Rattle.std.proofs.Common.{◌≡◌, ◌∙◌, Ok, ap, refl}
use Rattle.oslog.specs.Logs.{log_text}
use Rattle.osrun.specs.Ends.{have_all_ended}
use Rattle.osjob.specs.{Faults.of_log, Performs.outcome_of, Performs.prints, Runs.items_in}
use Rattle.osjob.proofs.Printing.{PrintsOrFaults-faulty}
use Rattle.osjob.proofs.runs.print_log.Goals as goal

pub returns-in_err-text : goal.returns-in_err-text
returns-in_err-text g c = PrintsOrFaults-faulty _ _ _ _ _ _ _ c.from_residual.ensures.1 (λ fault is. is ∙ ap of_log c.in_err-text.ensures.fault)

pub returns : goal.returns
returns g c =
    let plan = c.args.config.now in
    let text = log_text plan (items_in c.args.reports.now c.args.core) in
    let said : c.as_bytes.result.now ≡ text = c.as_bytes.ensures.value ∙ c.in_ok-text.ensures.text ∙ ap (log_text plan) c.items_of.ensures in
    let ended = rw (c.of_run.ensures, c.have_all_ended.ensures, c.plan.ensures.value) at c.written.ensures in
    prints text (Ok (outcome_of (have_all_ended plan c.args.reports.now))) (record { text_is = refl; ending_is = refl })
    (record { written = c.write_all.result; writes = rw said at c.write_all.ensures; result_is = ended })
