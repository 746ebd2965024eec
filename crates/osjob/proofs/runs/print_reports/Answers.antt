use Rattle.std.proofs.Common.{Ok, refl}
use Rattle.osrun.specs.Ends.{have_all_ended}
use Rattle.osjob.specs.{Performs.outcome_of, Performs.prints, Runs.run_text}
use Rattle.osjob.proofs.runs.print_reports.Goals as goal

pub returns-in-None : goal.returns-in-None
returns-in-None g c =
    let plan = c.args.config.now in
    let reports = c.args.reports.now in
    rw c.in-None.is (prints (run_text plan reports) (Ok (outcome_of (have_all_ended plan reports))) (record { text_is = refl; ending_is = refl }) c.print.ensures)

pub returns-in-Some : goal.returns-in-Some
returns-in-Some g c = rw c.in-Some.is c.print_log.ensures
