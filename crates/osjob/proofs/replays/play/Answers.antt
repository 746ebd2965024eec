use Rattle.std.proofs.Common.{Err, Ok, refl}
use Rattle.ostrace_text.specs.Trace.{block_of}
use Rattle.osjob.specs.{Performs.fails, Performs.prints, declared.faults.Fault.TheVariants.ItemRefused, declared.faults.Fault.TheVariants.NoMemoryToRun, declared.outcomes.Outcome.TheVariants.Done}
use Rattle.osjob.proofs.replays.play.Goals as goal

pub returns-in-Ok : goal.returns-in-Ok
returns-in-Ok g c =
    let report = c.in-Ok.report in
    prints (block_of c.args.config.now report) (Ok Done) (record { report = report; text_is = refl; ends = (c.in-Ok.ensures.ok, refl) }) c.print.ensures

pub returns-in-Err-ItemRefused : goal.returns-in-Err-ItemRefused
returns-in-Err-ItemRefused g c =
    let report = c.in-Err-ItemRefused.report in
    prints (block_of c.args.config.now report) (Err (ItemRefused c.in-Err-ItemRefused.number)) (record { report = report; text_is = refl; ends = rw c.in-Err-ItemRefused.field-0-is at c.in-Err-ItemRefused.ensures.fault }) c.print-in-Err-ItemRefused.ensures

pub returns : goal.returns
returns g c = fails NoMemoryToRun refl refl refl
