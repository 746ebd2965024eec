-- What is printed, or why nothing is.
use Rattle.std.proofs.Common.{◌≡◌, ◌≢◌, ℕ, List, [], ◌∷◌, Option, Result, Ok, Err, refl, append-nil}
use Rattle.std.specs.Prelude.{IfErr, IsErrAnd}
use Rattle.std.proofs.lemmas.Result.{err_from_is_err_and}
use Rattle.osbase.specs.declared.turns.Report.{Report}
use Rattle.osplan.specs.declared.plans.Plan.{Plan}
use Rattle.ostrace_text.specs.Trace.{block_of, text_of}
use Rattle.ostrace.specs.{declared.sinks.WriteFailed.WriteFailed as SinkFailed, Taken.Writes}
use Rattle.osjob.specs.{declared.faults.Fault.Fault, declared.faults.Fault.TheVariants.Unreadable, declared.outcomes.Outcome.Outcome, declared.outcomes.Outcome.TheVariants.Done, Texts.File, Texts.IsAsked}
use Rattle.osjob.specs.Performs.{NoFault, PrintsFrom, PrintsOrFaults, fails, prints, unless_refused}

-- If the ending is not the fault `Unreadable`, neither is the result after a text was written or refused.
pub written-asked : (written : Result Unit SinkFailed) (ending result : Result Outcome Fault) (count : ℕ) (files : List File) → IfErr ending (λ fault. fault ≢ Unreadable)
    → result ≡ unless_refused written ending → IfErr result (IsAsked count files)
written-asked (Ok done) (Ok outcome) result count files apart e = rw e tt
written-asked (Ok done) (Err fault) result count files apart e = rw e (λ same. absurd (apart same))
written-asked (Err refused) ending result count files apart e = rw e (λ same. cc)

module _ {O : Type 0} (taken : O → Option (List ℕ)) (failed : O → ℕ) (old : O) (result : Result Outcome Fault) where
  -- if a fault was passed up, nothing is printed
  pub PrintsOrFaults-faulty : (Output : List ℕ → Result Outcome Fault → Type 0) (NoOutput Passed : Fault → Type 0) → IsErrAnd result Passed → ((fault : Fault) → Passed fault → NoOutput fault)
      → PrintsOrFaults taken failed old old Output NoOutput result
  PrintsOrFaults-faulty Output NoOutput Passed is why = let p = err_from_is_err_and result is in fails p.0 p.1 (why p.0 p.2) refl

  module _ (count : ℕ) (files : List File) where
    pub PrintsFrom-faulty : (Output : List ℕ → Result Outcome Fault → Type 0) (NoOutput Passed : Fault → Type 0) → IsErrAnd result Passed
        → ((fault : Fault) → Passed fault → NoOutput fault × IsAsked count files fault) → PrintsFrom taken failed old old Output NoOutput files count result
    PrintsFrom-faulty Output NoOutput Passed is why =
        let p = err_from_is_err_and result is in
        let both = why p.0 p.2 in
        record { comes = fails p.0 p.1 both.0 refl; asked = rw p.1 both.1 }

    -- if a text was written, all is done unless a write was refused
    pub PrintsFrom-done : (new : O) (Output : List ℕ → Outcome → Type 0) (NoOutput : Fault → Type 0) (text : List ℕ) (written : Result Unit SinkFailed) → Output text Done
        → Writes taken failed old new text written → result ≡ unless_refused written (Ok Done) → PrintsFrom taken failed old new (NoFault Output) NoOutput files count result
    PrintsFrom-done new Output NoOutput text written output writes is = record {
      comes = prints text (Ok Done) output (record { written = written; writes = writes; result_is = is });
      asked = written-asked written (Ok Done) result count files tt is;
    }

-- The text of one report is its block.
pub Writes-block : {S : Type 0} (taken : S → Option (List ℕ)) (failed : S → ℕ) (old new : S) (plan : Plan) (report : Report) (reports : List Report) (result : Result Unit SinkFailed) → reports ≡ report ∷ []
    → Writes taken failed old new (text_of plan reports) result → Writes taken failed old new (block_of plan report) result
Writes-block taken failed old new plan report reports result are wrote = rw (are, append-nil) at wrote
