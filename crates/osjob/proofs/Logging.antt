-- A run whose reports are printed.
use Rattle.std.proofs.Common.{◌≡◌, ◌∙◌, ℕ, true, List, Option, None, Result, refl, sym}
use Rattle.osbase.specs.{declared.references.CoreId.CoreId, declared.turns.Choice.Choice, declared.turns.CoreStimuli.CoreStimuli, declared.turns.Report.Report}
use Rattle.osplan.specs.declared.plans.Plan.{Plan}
use Rattle.oscommand.specs.declared.jobs.Print.TheVariants.{Order}
use Rattle.osjob.specs.{declared.faults.Fault.Fault, declared.faults.Fault.TheVariants.NoMemoryToRun, declared.outcomes.Outcome.Outcome, Runs.IsInput, Runs.IsThreaded, Runs.are_items_known, Texts.File}
use Rattle.osjob.specs.Performs.{BreaksThreads, PrintsOrFaults, HasNoReports, IsOrderPrinted, IsReportOutput, IsReported, IsThreadsOutput, NoFault, PrintsFrom, broken_off, fails, prints}
use Rattle.osjob.proofs.Printing.{written-asked}

-- What is printed of the reports of a run is what its job prints.
pub reports-come : {O : Type 0} (taken : O → Option (List ℕ)) (failed : O → ℕ) (old new : O) (Played : Plan → List Report → Type 0) (Breaks : Fault → Type 0) (schedule : Option (List ℕ)) (items : Option CoreId) (files : List File) (plan : Plan) (stimuli : List CoreStimuli) (turns : Option (List (CoreId × Choice))) (reports : List Report) (count : ℕ) (result : Result Outcome Fault)
    → Played plan reports → are_items_known plan items ≡ true → IsInput schedule files plan stimuli turns → Breaks NoMemoryToRun
    → PrintsOrFaults taken failed old new (IsReported plan reports items) (λ fault. fault ≡ NoMemoryToRun) result
    → PrintsFrom taken failed old new (NoFault (IsReportOutput Played items)) (HasNoReports Breaks schedule items files) files count result
reports-come taken failed old new Played Breaks schedule items files plan stimuli turns reports count result played known input breaks (prints text ending output printed) = record {
  comes = prints text ending (rw output.ending_is (record { plan = plan; reports = reports; known = known; played = played; text_is = output.text_is; outcome_is = refl })) printed;
  asked = written-asked printed.written ending result count files (rw output.ending_is tt) printed.result_is;
}
reports-come taken failed old new Played Breaks schedule items files plan stimuli turns reports count result played known input breaks (fails fault is none same) = record {
  comes = fails fault is (λ apart. broken_off plan stimuli turns input known (rw none breaks)) same;
  asked = rw is (λ e. let other = sym none ∙ e in cc);
}

-- What is printed of one order of the turns of a run by threads is also what its job prints.
pub order-comes : {O : Type 0} (taken : O → Option (List ℕ)) (failed : O → ℕ) (old new : O) (patience : ℕ) (files : List File) (plan : Plan) (reports : List Report) (turns : Option (List (CoreId × Choice))) (count : ℕ) (result : Result Outcome Fault)
    → (threaded : IsThreaded patience files plan reports) → IsInput None files plan threaded.stimuli turns
    → PrintsOrFaults taken failed old new (IsOrderPrinted plan threaded.stimuli reports) (λ fault. fault ≡ NoMemoryToRun) result
    → PrintsFrom taken failed old new (NoFault (IsThreadsOutput patience Order files)) (HasNoReports BreaksThreads None None files) files count result
order-comes taken failed old new patience files plan reports turns count result threaded input (prints text ending output printed) = record {
  comes = prints text ending (rw output.ending_is (record { plan = plan; reports = reports; threaded = threaded; ordered = output.ordered; outcome_is = refl })) printed;
  asked = written-asked printed.written ending result count files (rw output.ending_is tt) printed.result_is;
}
order-comes taken failed old new patience files plan reports turns count result threaded input (fails fault is none same) = record {
  comes = fails fault is (λ apart. broken_off plan threaded.stimuli turns input refl (rw none tt)) same;
  asked = rw is (λ e. let other = sym none ∙ e in cc);
}
