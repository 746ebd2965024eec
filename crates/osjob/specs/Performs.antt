-- The outcome of a job: what it prints, its status, and the fault that it reports. [own]
use Rattle.std.specs.Prelude.{◌≡◌, ◌≢◌, ℕ, Bool, true, false, Option, Some, None, Result, Ok, Err, List, IsSome, IfErr}
use Rattle.std.specs.Result.{IsOkAnd}
use Rattle.osbase.specs.{declared.items.CoreSet.CoreSet, declared.references.CoreId.CoreId, Sets.has_core, declared.turns.Choice.Choice, declared.turns.CoreStimuli.CoreStimuli, declared.turns.Report.Report}
use Rattle.osplan.specs.{declared.plans.Plan.Plan, View.core_of, declared.faults.ConfFault.TheVariants.NoMemory, declared.faults.ConfFault.TheVariants.NotSeparate, declared.faults.ConfFault.TheVariants.UnknownName}
use Rattle.osseparate.specs.Separate.{cut_of, is_separate}
use Rattle.osgroup.specs.Groups.{group_of, is_in_least_group}
use Rattle.osload.specs.Meaning.{config_of, faults_of}
use Rattle.osinput.specs.Given.{schedule_faults, stimuli_faults}
use Rattle.ostrace.specs.{declared.sinks.WriteFailed.WriteFailed as SinkFailed, Taken.Writes}
use Rattle.osrun.specs.Ends.{have_all_ended}
use Rattle.osjob.specs.{declared.faults.Fault.Fault, declared.outcomes.Outcome.Outcome, declared.outcomes.Outcome.TheVariants.Done, declared.outcomes.Outcome.TheVariants.Stalled, Checks.check_text, Checks.cut_text, Faults.fault_text, Groups.group_text, Groups.groups_text, LogTexts.IsUnknownCore, Replays.HasNoReplay, Replays.IsReplayOutput}
use Rattle.osjob.specs.declared.faults.Fault.TheVariants.{MailBreak, NoMemoryToRun, NoThread, Text, WriteFailed}
use Rattle.oscommand.specs.{declared.jobs.Job.Job, declared.jobs.Print.Print, declared.jobs.Print.TheVariants.Trace, declared.jobs.Print.TheVariants.Log, declared.jobs.Print.TheVariants.Order, Jobs.path_in}
use Rattle.oscommand.specs.declared.jobs.Job.TheVariants.{Run, Check, Cut, Groups, Group, Replay, Threads}
use Rattle.oswrite.specs.Writing.{config_text}
use Rattle.osjob.specs.Runs.{IsGiven, IsInput, IsOrdered, IsPlayed, IsThreaded, are_items_known, logged_core, printed_text}
use Rattle.osjob.specs.Texts.{File, IsAsked, IsFaultOf, Means, text_at}

-- ---- how a job ends

-- The outcome of a run: done if every started core ended, and else stalled. [own]
abbrev pub outcome_of : Bool → Outcome
outcome_of true = Done
outcome_of false = Stalled

-- The exit status of an outcome: 0 done, 3 stalled. [own]
abbrev pub outcome_status : Outcome → ℕ
outcome_status Done = 0
outcome_status Stalled = 3

-- The exit status: that of the outcome, or 1 for a fault. [own]
abbrev pub status_of : Result Outcome Fault → ℕ
status_of (Ok outcome) = outcome_status outcome
status_of (Err fault) = 1

-- The ending is an outcome and no fault, and `Output` holds of the text and this outcome. [own]
abbrev pub NoFault : (List ℕ → Outcome → Type 0) → List ℕ → Result Outcome Fault → Type 0
NoFault Output text ending = IsOkAnd ending (Output text)

-- ---- run and threads

-- What a run prints of its reports: all of them, or the log of the configured core `items` alone. The outcome says
-- whether every started core ended. `Played` says which reports the run may have. [own]
pub record IsReportOutput (Played : Plan → List Report → Type 0) (items : Option CoreId) (text : List ℕ) (outcome : Outcome) : Type 0 where
  pub plan : Plan
  pub reports : List Report
  pub known : are_items_known plan items ≡ true
  pub played : Played plan reports
  pub text_is : text ≡ printed_text plan reports items
  pub outcome_is : outcome ≡ outcome_of (have_all_ended plan reports)

-- What a run prints, and how it ends. Its reports are those of the listed turns if a schedule is named, and else of the
-- default schedule. [own]
abbrev pub IsRunOutput : Option (List ℕ) → Option CoreId → List File → List ℕ → Outcome → Type 0
IsRunOutput schedule items files = IsReportOutput (IsPlayed schedule files) items

-- What a run by threads prints in place of its reports: turns by which a listed run has the same reports without their
-- clocks, or `none`. The outcome says whether every started core ended. [own]
pub record IsOrderOutput (turns : ℕ) (files : List File) (text : List ℕ) (outcome : Outcome) : Type 0 where
  pub plan : Plan
  pub reports : List Report
  pub threaded : IsThreaded turns files plan reports
  pub ordered : IsOrdered plan threaded.stimuli reports text
  pub outcome_is : outcome ≡ outcome_of (have_all_ended plan reports)

-- What a run by threads prints, and how it ends. It prints its reports, or one core's log. For `Order` it prints turns
-- by which a listed run has the same reports, or `none`. `IsThreaded` says which reports the run may have: each core
-- has ended, or gave up once `turns` turns in a row changed nothing. [own]
abbrev pub IsThreadsOutput : ℕ → Print → List File → List ℕ → Outcome → Type 0
IsThreadsOutput turns Trace files = IsReportOutput (IsThreaded turns files) None
IsThreadsOutput turns (Log core) files = IsReportOutput (IsThreaded turns files) (Some core)
IsThreadsOutput turns Order files = IsOrderOutput turns files

-- The core whose log is to be printed is not configured, and the fault is `UnknownName`.
abbrev pub HasNoItems : Plan → Option CoreId → Fault → Type 0
HasNoItems plan items fault = (are_items_known plan items ≡ false) × (fault ≡ Text UnknownName)

-- The fault of the first file with a fault, in the order configuration, stimuli, and schedule if one is named. If the
-- configuration has no fault but lacks the core whose log is to be printed, the fault is `UnknownName`. [own]
pub data IsInputFault (schedule : Option (List ℕ)) (items : Option CoreId) (files : List File) (fault : Fault) : Type 0 where
  in_config : IsFaultOf faults_of (text_at files 0) fault → IsInputFault schedule items files fault
  in_items : (plan : Plan) → Means config_of (text_at files 0) plan → HasNoItems plan items fault → IsInputFault schedule items files fault
  in_stimuli : (plan : Plan) → Means config_of (text_at files 0) plan → are_items_known plan items ≡ true →
      IsFaultOf (stimuli_faults plan) (text_at files 1) fault → IsInputFault schedule items files fault
  in_schedule : (plan : Plan) (stimuli : List CoreStimuli) → IsSome schedule → IsGiven files plan stimuli →
      are_items_known plan items ≡ true → IsFaultOf (schedule_faults plan) (text_at files 2) fault → IsInputFault schedule items files fault

-- Why a run has no reports: the fault of its files, or a fault that breaks off the run though its files have meanings.
-- `Breaks` says which faults break off a run. [own]
pub data IsRunFault (Breaks : Fault → Type 0) (schedule : Option (List ℕ)) (items : Option CoreId) (files : List File) (fault : Fault) : Type 0 where
  in_files : IsInputFault schedule items files fault → IsRunFault Breaks schedule items files fault
  broken_off : (plan : Plan) (stimuli : List CoreStimuli) (turns : Option (List (CoreId × Choice))) →
      IsInput schedule files plan stimuli turns → are_items_known plan items ≡ true → Breaks fault →
      IsRunFault Breaks schedule items files fault

-- The fault breaks off a run of listed turns or of the default schedule: memory ran out.
abbrev pub BreaksTurns : Fault → Type 0
BreaksTurns fault = fault ≡ NoMemoryToRun

-- The fault breaks off a run by threads: memory ran out, a core's thread could not be started, or the mail between two
-- cores broke. [own]
abbrev pub BreaksThreads : Fault → Type 0
BreaksThreads NoMemoryToRun = Unit {0}
BreaksThreads NoThread = Unit {0}
BreaksThreads MailBreak = Unit {0}
BreaksThreads fault = ⊥

-- What a run with these reports prints, and how it ends. It prints them all, or the log of the core `items` alone. The
-- outcome says whether every started core ended.
pub record IsReported (plan : Plan) (reports : List Report) (items : Option CoreId) (text : List ℕ) (ending : Result Outcome Fault) : Type 0 where
  pub text_is : text ≡ printed_text plan reports items
  pub ending_is : ending ≡ Ok (outcome_of (have_all_ended plan reports))

-- What a run with these reports prints in place of them, and how it ends. It prints turns by which a listed run has the
-- same reports without their clocks, or `none`. The outcome says whether every started core ended.
pub record IsOrderPrinted (plan : Plan) (stimuli : List CoreStimuli) (reports : List Report) (text : List ℕ) (ending : Result Outcome Fault) : Type 0 where
  pub ordered : IsOrdered plan stimuli reports text
  pub ending_is : ending ≡ Ok (outcome_of (have_all_ended plan reports))

-- The fault of a run that prints nothing; `Breaks` says which faults break off a run. If memory ran out while the files
-- were read, nothing is said about them.
abbrev pub HasNoReports : (Fault → Type 0) → Option (List ℕ) → Option CoreId → List File → Fault → Type 0
HasNoReports Breaks schedule items files fault = fault ≢ Text NoMemory → IsRunFault Breaks schedule items files fault

-- What a run reads from its files: what they mean, or their fault. If they have meanings, and the log of a core is to
-- be printed, that core is configured. Only a file that was asked for is reported as unreadable. If memory ran out,
-- nothing else is said. `count` is the number of all files. [own]
abbrev pub IsRead : Option (List ℕ) → Option CoreId → List File → ℕ → Result (Plan × List CoreStimuli × Option (List (CoreId × Choice))) Fault → Type 0
IsRead schedule items files count (Ok input) = IsInput schedule files input.0 input.1 input.2 × (are_items_known input.0 items ≡ true)
IsRead schedule items files count (Err fault) = (fault ≢ Text NoMemory → IsInputFault schedule items files fault) × IsAsked count files fault

-- ---- check

-- What `check` prints: how the cores of the file's configuration are coupled. [own]
pub record IsCheckOutput (files : List File) (text : List ℕ) (outcome : Outcome) : Type 0 where
  pub plan : Plan
  pub config : Means config_of (text_at files 0) plan
  pub text_is : text ≡ check_text plan
  pub outcome_is : outcome ≡ Done

-- Why `check` or `groups` prints nothing: the file's least fault. If memory ran out, nothing is said about the file.
abbrev pub HasNoConfig : List File → Fault → Type 0
HasNoConfig files fault = fault ≢ Text NoMemory → IsFaultOf faults_of (text_at files 0) fault

-- ---- cut

-- What `cut` prints: the configuration of a separate core alone. [own]
pub record IsCutOutput (core : CoreId) (files : List File) (text : List ℕ) (outcome : Outcome) : Type 0 where
  pub plan : Plan
  pub config : Means config_of (text_at files 0) plan
  pub separate : is_separate plan core ≡ true
  pub text_is : text ≡ cut_text plan core
  pub outcome_is : outcome ≡ Done

-- Why `cut` prints nothing: the configuration has a fault, or the core is not separate. [own]
pub data IsCutFault (core : CoreId) (files : List File) (fault : Fault) : Type 0 where
  in_config : IsFaultOf faults_of (text_at files 0) fault → IsCutFault core files fault
  in_core : (plan : Plan) → Means config_of (text_at files 0) plan → is_separate plan core ≡ false → fault ≡ Text NotSeparate →
      IsCutFault core files fault

-- The fault of a `cut` that prints nothing. If memory ran out, nothing is said about the file and the core.
abbrev pub HasNoCut : CoreId → List File → Fault → Type 0
HasNoCut core files fault = fault ≢ Text NoMemory → IsCutFault core files fault

-- The core is separate, and the text is that of its own configuration.
abbrev pub IsCutOf : Plan → CoreId → List ℕ → Type 0
IsCutOf plan core text = (is_separate plan core ≡ true) × (text ≡ config_text (cut_of plan core))

-- Why the core has no configuration of its own: it is not separate, and the fault is `NotSeparate`. If memory ran out,
-- nothing is said about the core.
abbrev pub IsNotCut : Plan → CoreId → Fault → Type 0
IsNotCut plan core fault = fault ≢ Text NoMemory → (is_separate plan core ≡ false) × (fault ≡ Text NotSeparate)

-- ---- groups

-- What `groups` prints: the least group of each core of the file's configuration. [own]
pub record IsGroupsOutput (files : List File) (text : List ℕ) (outcome : Outcome) : Type 0 where
  pub plan : Plan
  pub config : Means config_of (text_at files 0) plan
  pub text_is : text ≡ groups_text plan
  pub outcome_is : outcome ≡ Done

-- ---- group

-- The set is the least group of the core.
abbrev pub IsLeastGroup : Plan → CoreId → CoreSet → Type 0
IsLeastGroup plan core group = (id : CoreId) → has_core group id ≡ is_in_least_group plan core id

-- What `group` prints: the configuration of the core's least group alone. [own]
pub record IsGroupOutput (core : CoreId) (files : List File) (text : List ℕ) (outcome : Outcome) : Type 0 where
  pub plan : Plan
  pub config : Means config_of (text_at files 0) plan
  pub configured : IsSome (core_of plan core)
  pub group : CoreSet
  pub least : IsLeastGroup plan core group
  pub text_is : text ≡ group_text plan group
  pub outcome_is : outcome ≡ Done

-- Why `group` prints nothing: the configuration has a fault, or the core is not configured. [own]
pub data IsGroupFault (core : CoreId) (files : List File) (fault : Fault) : Type 0 where
  in_config : IsFaultOf faults_of (text_at files 0) fault → IsGroupFault core files fault
  in_core : (plan : Plan) → Means config_of (text_at files 0) plan → IsUnknownCore plan core fault → IsGroupFault core files fault

-- The fault of a `group` that prints nothing. If memory ran out, nothing is said about the file and the core.
abbrev pub HasNoGroup : CoreId → List File → Fault → Type 0
HasNoGroup core files fault = fault ≢ Text NoMemory → IsGroupFault core files fault

-- The text is that of the configuration of the core's least group alone.
pub record IsGroupOf (plan : Plan) (core : CoreId) (text : List ℕ) : Type 0 where
  pub group : CoreSet
  pub least : IsLeastGroup plan core group
  pub text_is : text ≡ config_text (group_of plan group)

-- ---- any job

-- What a job prints, and how it then ends: with an outcome, or with a fault that is reported after the text.
abbrev pub IsOutput : Job → List File → List ℕ → Result Outcome Fault → Type 0
IsOutput (Run config stimuli schedule items) files = NoFault (IsRunOutput (path_in schedule) items files)
IsOutput (Check config) files = NoFault (IsCheckOutput files)
IsOutput (Cut config core) files = NoFault (IsCutOutput core files)
IsOutput (Groups config) files = NoFault (IsGroupsOutput files)
IsOutput (Group config core) files = NoFault (IsGroupOutput core files)
IsOutput (Replay config core log) files = IsReplayOutput core files
IsOutput (Threads config stimuli turns mail print) files = NoFault (IsThreadsOutput turns print files)

-- The fault of a job that prints nothing. If memory ran out while the files were read, nothing is said about them.
abbrev pub HasNoOutput : Job → List File → Fault → Type 0
HasNoOutput (Run config stimuli schedule items) files fault = HasNoReports BreaksTurns (path_in schedule) items files fault
HasNoOutput (Check config) files fault = HasNoConfig files fault
HasNoOutput (Cut config core) files fault = HasNoCut core files fault
HasNoOutput (Groups config) files fault = HasNoConfig files fault
HasNoOutput (Group config core) files fault = HasNoGroup core files fault
HasNoOutput (Replay config core log) files fault = HasNoReplay core files fault
HasNoOutput (Threads config stimuli turns mail print) files fault = HasNoReports BreaksThreads None (logged_core print) files fault

-- ---- printing

-- The ending; but if a write was refused, the fault `WriteFailed`, whatever the ending was to be.
abbrev pub unless_refused : Result Unit SinkFailed → Result Outcome Fault → Result Outcome Fault
unless_refused (Ok done) ending = ending
unless_refused (Err refused) ending = Err WriteFailed

-- A text is printed: all of it, or a prefix of it up to the first write that fails. The result is the ending; but if a
-- write failed, the fault `WriteFailed`. [own]
pub record Prints {S : Type 0} (taken : S → Option (List ℕ)) (failed : S → ℕ) (old new : S) (text : List ℕ)
    (ending result : Result Outcome Fault) : Type 0 where
  pub written : Result Unit SinkFailed
  pub writes : Writes taken failed old new text written
  pub result_is : result ≡ unless_refused written ending

-- An output is printed; or there is a fault, and nothing is printed. `Output` says which texts and endings may be
-- printed, `NoOutput` which faults there may be. [own]
pub data PrintsOrFaults {S : Type 0} (taken : S → Option (List ℕ)) (failed : S → ℕ) (old new : S)
    (Output : List ℕ → Result Outcome Fault → Type 0) (NoOutput : Fault → Type 0) (result : Result Outcome Fault) : Type 0 where
  prints : (text : List ℕ) (ending : Result Outcome Fault) → Output text ending → Prints taken failed old new text ending result →
      PrintsOrFaults taken failed old new Output NoOutput result
  fails : (fault : Fault) → result ≡ Err fault → NoOutput fault → new ≡ old → PrintsOrFaults taken failed old new Output NoOutput result

-- A fault is reported by its line, as far as it can be written, and nothing else is reported. [own]
abbrev pub ReportsEnding : {S : Type 0} → (S → Option (List ℕ)) → (S → ℕ) → S → S → Result Outcome Fault → Type 0
ReportsEnding taken failed old new (Ok outcome) = new ≡ old
ReportsEnding taken failed old new (Err fault) = (written : Result Unit SinkFailed) × Writes taken failed old new (fault_text fault) written

-- What comes of a job's files: an output is printed, or there is a fault. Only a file that was asked for is reported as
-- unreadable. `count` is the number of all files. [own]
pub record PrintsFrom {O : Type 0} (taken : O → Option (List ℕ)) (failed : O → ℕ) (old new : O)
    (Output : List ℕ → Result Outcome Fault → Type 0) (NoOutput : Fault → Type 0) (files : List File) (count : ℕ)
    (result : Result Outcome Fault) : Type 0 where
  pub comes : PrintsOrFaults taken failed old new Output NoOutput result
  pub asked : IfErr result (IsAsked count files)

-- What comes of a run of these files: its reports or one core's log are printed, or there is a fault.
abbrev pub IsRunPrinted : {O : Type 0} → (O → Option (List ℕ)) → (O → ℕ) → O → O → Option (List ℕ) → Option CoreId → List File → ℕ →
    Result Outcome Fault → Type 0
IsRunPrinted taken failed old new schedule items files count result =
    PrintsFrom taken failed old new (NoFault (IsRunOutput schedule items files)) (HasNoReports BreaksTurns schedule items files) files count result

-- What comes of a run by threads of these files: its output is printed, or there is a fault.
abbrev pub IsThreadsPrinted : {O : Type 0} → (O → Option (List ℕ)) → (O → ℕ) → O → O → ℕ → Print → List File → ℕ →
    Result Outcome Fault → Type 0
IsThreadsPrinted taken failed old new turns print files count result =
    PrintsFrom taken failed old new (NoFault (IsThreadsOutput turns print files)) (HasNoReports BreaksThreads None (logged_core print) files) files count result

-- What comes of a job over these files: the job's output is printed, or there is a fault. [own]
abbrev pub IsPrinted : {O : Type 0} → (O → Option (List ℕ)) → (O → ℕ) → O → O → Job → List File → ℕ → Result Outcome Fault → Type 0
IsPrinted taken failed old new job files count result =
    PrintsFrom taken failed old new (IsOutput job files) (HasNoOutput job files) files count result

-- What comes of a job: what it prints, which fault it reports, if any, and its exit status. [own]
pub record Performs {O E : Type 0} (out_taken : O → Option (List ℕ)) (out_failed : O → ℕ) (old_out new_out : O)
    (err_taken : E → Option (List ℕ)) (err_failed : E → ℕ) (old_err new_err : E) (job : Job) (files : List File)
    (count status : ℕ) : Type 0 where
  pub result : Result Outcome Fault
  pub printed : IsPrinted out_taken out_failed old_out new_out job files count result
  pub reported : ReportsEnding err_taken err_failed old_err new_err result
  pub status_is : status ≡ status_of result
