-- What the program answers to its words. [own]
use Rattle.std.specs.Prelude.{◌≡◌, ◌≢◌, ◌≤◌, ℕ, Bool, true, false, Option, Result, Ok, Err, List, codes, length}
use Rattle.clap.specs.{Words.kind_of, declared.error.Error.Error, declared.error.kind.ErrorKind.ErrorKind, declared.error.kind.ErrorKind.TheVariants.DisplayHelp, declared.error.kind.ErrorKind.TheVariants.DisplayVersion, declared.error.kind.ErrorKind.TheVariants.OutOfMemory}
use Rattle.osplan.specs.declared.faults.ConfFault.TheVariants.{NoMemory}
use Rattle.ostrace.specs.{declared.sinks.WriteFailed.WriteFailed as SinkFailed, Taken.Writes}
use Rattle.osjob.specs.{declared.faults.Fault.Fault, declared.faults.Fault.TheVariants.Text, declared.outcomes.Outcome.Outcome, declared.outcomes.Outcome.TheVariants.Done, declared.program.NoWords.NoWords, Outputs.Sends, Runs.StopsAtFaults, Texts.File}
use Rattle.oscommand.specs.{declared.jobs.Job.Job, CommandLine.AsksFor, CommandLine.FailsByWords, Jobs.paths_of}
use Rattle.osjob.specs.declared.program.NoWords.TheVariants as none
use Rattle.osjob.specs.Performs.{IsPrinted, Prints, ReportsEnding, status_of, unless_refused}

-- What was printed is sent off, whatever the ending was to be. The result is the ending; but if the sending is refused,
-- the fault `WriteFailed`. [own]
pub record SendsOff {S : Type 0} (taken sent : S → Option (List ℕ)) (failed : S → ℕ) (old new : S)
    (ending result : Result Outcome Fault) : Type 0 where
  pub flushed : Result Unit SinkFailed
  pub sends : Sends taken sent failed old new flushed
  pub result_is : result ≡ unless_refused flushed ending

-- What was printed is sent off, a fault is reported, and the status is that of the outcome or of the fault. [own]
pub record Closes {O E : Type 0} (out_taken out_sent : O → Option (List ℕ)) (out_failed : O → ℕ) (old_out new_out : O)
    (err_taken : E → Option (List ℕ)) (err_failed : E → ℕ) (old_err new_err : E) (ending : Result Outcome Fault)
    (status : ℕ) : Type 0 where
  pub result : Result Outcome Fault
  pub sends : SendsOff out_taken out_sent out_failed old_out new_out ending result
  pub reported : ReportsEnding err_taken err_failed old_err new_err result
  pub status_is : status ≡ status_of result

-- What a job prints from the files at its paths. No other file is read, and none after one with a fault. [own]
pub record PrintsJob {O : Type 0} (taken : O → Option (List ℕ)) (failed : O → ℕ) (old new : O) (job : Job)
    (result : Result Outcome Fault) : Type 0 where
  pub files : List File
  pub prints : IsPrinted taken failed old new job files (length (paths_of job)) result
  pub stops : StopsAtFaults 0 files
  pub named : length files ≤ length (paths_of job)

-- A job is done: its output is printed and sent off, a fault is reported, and this is the exit status. [own]
pub record DoesJob {O E : Type 0} (out_taken out_sent : O → Option (List ℕ)) (out_failed : O → ℕ) (old_out new_out : O)
    (err_taken : E → Option (List ℕ)) (err_failed : E → ℕ) (old_err new_err : E) (job : Job) (status : ℕ) : Type 0 where
  pub printed : O
  pub result : Result Outcome Fault
  pub prints : PrintsJob out_taken out_failed old_out printed job result
  pub closes : Closes out_taken out_sent out_failed printed new_out err_taken err_failed old_err new_err result status

-- A mistake in the words of the command line is reported by this text, as far as it can be written, and the status
-- is 2. [own]
pub record IsMistaken {S : Type 0} (taken : S → Option (List ℕ)) (failed : S → ℕ) (old new : S) (text : List ℕ)
    (status : ℕ) : Type 0 where
  pub written : Result Unit SinkFailed
  pub writes : Writes taken failed old new text written
  pub status_is : status ≡ 2

-- What is reported if a word of the command line is not UTF-8. [own]
abbrev pub no_text : List ℕ
no_text = codes "error: a word of the command line is not UTF-8\n"

-- An error of this kind says that the words request help or the version.
abbrev pub is_request : ErrorKind → Bool
is_request DisplayHelp = true
is_request DisplayVersion = true
is_request _ = false

module _ {O E : Type 0} (out_taken out_sent : O → Option (List ℕ)) (out_failed : O → ℕ) (old_out new_out : O)
    (err_taken : E → Option (List ℕ)) (err_failed : E → ℕ) (old_err new_err : E) where
  -- What the program does if the words name no job; `kind` is the kind of their error. If they request help or the
  -- version, some text is printed like a job's. Else a mistake is reported by some text, and nothing is printed. Or
  -- memory ran out, and this fault is reported. [own]
  pub data Refuses (kind : ErrorKind) (status : ℕ) : Type 0 where
    shows : is_request kind ≡ true → (text : List ℕ) (printed : O) (result : Result Outcome Fault) →
        Prints out_taken out_failed old_out printed text (Ok Done) result →
        Closes out_taken out_sent out_failed printed new_out err_taken err_failed old_err new_err result status →
        Refuses kind status
    corrects : kind ≢ OutOfMemory → is_request kind ≡ false → (text : List ℕ) →
        IsMistaken err_taken err_failed old_err new_err text status → new_out ≡ old_out → Refuses kind status
    has_no_memory : Closes out_taken out_sent out_failed old_out new_out err_taken err_failed old_err new_err
        (Err (Text NoMemory)) status → Refuses kind status

  -- The words name a job, which is done; or they name no job, and are refused with an error of some kind. [own]
  pub data Obeys (words : List (List ℕ)) (status : ℕ) : Type 0 where
    does : (job : Job) → AsksFor words job →
        DoesJob out_taken out_sent out_failed old_out new_out err_taken err_failed old_err new_err job status → Obeys words status
    refuses : (error : Error) → FailsByWords words (Err error) → Refuses (kind_of error) status → Obeys words status

  -- What the program answers to the words. If they could not be read, it reports that memory ran out, or that a word is
  -- not UTF-8. [own]
  abbrev pub Answers : Result (List (List ℕ)) NoWords → ℕ → Type 0
  Answers (Ok words) status = Obeys words status
  Answers (Err none.NoMemory) status = Closes out_taken out_sent out_failed old_out new_out err_taken err_failed old_err new_err
      (Err (Text NoMemory)) status
  Answers (Err none.NotText) status = IsMistaken err_taken err_failed old_err new_err no_text status × (new_out ≡ old_out)
