use Rattle.std.proofs.Common.{Ok, refl}
use Rattle.osrun.specs.Ends.{have_all_ended}
use Rattle.osjob.specs.{Performs.outcome_of, Performs.prints, Runs.run_text}
use Rattle.osjob.proofs.threads.print_by_threads.Goals as goal

pub returns : goal.returns
returns g c =
    let plan = c.args.config.now in
    let reports = c.args.reports.now in
    prints (run_text plan reports) (Ok (outcome_of (have_all_ended plan reports))) (record { text_is = refl; ending_is = refl }) (record {
      written = c.write_by_threads.result;
      writes = rw (c.have_all_ended-ended.ensures, c.plan.ensures.value) at c.write_by_threads.ensures;
      result_is = rw (← c.plan.ensures.value, ← c.have_all_ended-ended.ensures, ← c.of_run.ensures) c.written.ensures;
    })
