-- The reports of a run over its files, and what is printed of them. [own]
use Rattle.std.specs.Prelude.{ℕ, ◌≡◌, ◌≤◌, ◌⊎◌, max, Bool, true, false, Option, Some, None, is_some, List, [], ◌++◌, codes, find, length, map}
use Rattle.std.specs.Option.{option_map_or}
use Rattle.osbase.specs.{History.same_core, declared.items.Item.Item, declared.references.CoreId.CoreId, declared.turns.Choice.Choice, declared.turns.CoreStimuli.CoreStimuli, declared.turns.Report.Report}
use Rattle.osplan.specs.{View.core_of, declared.plans.Plan.Plan}
use Rattle.oslog.specs.Logs.{log_text}
use Rattle.oscommand.specs.{declared.jobs.Print.Print, declared.jobs.Print.TheVariants.Trace, declared.jobs.Print.TheVariants.Log, declared.jobs.Print.TheVariants.Order}
use Rattle.osload.specs.Meaning.{config_of}
use Rattle.osinput.specs.Given.{schedule_of_text, stimuli_of_text}
use Rattle.ostrace_text.specs.Trace.{text_of}
use Rattle.ostrace.specs.Schedules.{schedule_text}
use Rattle.osrun.specs.{Ends.have_all_ended, Sound.AreSound, Sound.unclocked}
use Rattle.osthreads.specs.Runs.{AreFinished}
use Rattle.osworld.specs.Runs.{AreReports, IsDefaultRun}
use Rattle.osjob.specs.Texts.{File, Means, text_at}

-- The files mean this configuration and these stimuli for it. [own]
pub record IsGiven (files : List File) (plan : Plan) (stimuli : List CoreStimuli) : Type 0 where
  pub config : Means config_of (text_at files 0) plan
  pub listed : Means (stimuli_of_text plan) (text_at files 1) stimuli

-- No file is read after one with a fault. Beyond the `before` files that were read earlier, at most these are read: the
-- first; the second, if the first means a configuration; the third, if the first two mean a configuration and
-- stimuli. [own]
pub data StopsAtFaults (before : ℕ) (files : List File) : Type 0 where
  at_config : length files ≤ max before 1 → StopsAtFaults before files
  at_stimuli : (plan : Plan) → Means config_of (text_at files 0) plan → length files ≤ max before 2 → StopsAtFaults before files
  at_schedule : (plan : Plan) (stimuli : List CoreStimuli) → IsGiven files plan stimuli → length files ≤ max before 3 →
      StopsAtFaults before files

-- A source was read, and then let go. `PrintsOrFaults` holds of the files that were read, and none was read after one
-- with a fault. At most `most` files were read, unless more had been read before. The known files stay the same. [own]
pub record Consumes {S : Type 0} (files : S → List File) (known : S → Option (List File)) (source : S) (most : ℕ)
    (PrintsOrFaults : List File → Type 0) : Type 0 where
  pub last : S
  pub comes : PrintsOrFaults (files last)
  pub stops : StopsAtFaults (length (files source)) (files last)
  pub named : length (files last) ≤ max (length (files source)) most
  pub known_is : known last ≡ known source

-- The listed turns. If a schedule is named, the third file says them; else there are none. [own]
abbrev pub AreListed : Option (List ℕ) → List File → Plan → Option (List (CoreId × Choice)) → Type 0
AreListed None files plan turns = turns ≡ None
AreListed (Some path) files plan None = ⊥
AreListed (Some path) files plan (Some turns) = Means (schedule_of_text plan) (text_at files 2) turns

-- The files mean this configuration, these stimuli for it and, if a schedule is named, these turns. [own]
pub record IsInput (schedule : Option (List ℕ)) (files : List File) (plan : Plan) (stimuli : List CoreStimuli)
    (turns : Option (List (CoreId × Choice))) : Type 0 where
  pub given : IsGiven files plan stimuli
  pub listed : AreListed schedule files plan turns

-- If turns are listed, the reports are those of the run of these turns. Else they are those of the run by the default
-- schedule. [own]
abbrev pub AreOfTurns : Plan → List CoreStimuli → Option (List (CoreId × Choice)) → List Report → Type 0
AreOfTurns plan stimuli None reports = IsDefaultRun plan stimuli reports
AreOfTurns plan stimuli (Some turns) reports = AreReports plan stimuli turns reports

-- The files have meanings, and these are the reports of their run. [own]
pub record IsPlayed (schedule : Option (List ℕ)) (files : List File) (plan : Plan) (reports : List Report) : Type 0 where
  pub stimuli : List CoreStimuli
  pub turns : Option (List (CoreId × Choice))
  pub input : IsInput schedule files plan stimuli turns
  pub are : AreOfTurns plan stimuli turns reports

-- The files have meanings, and these may be the reports of a run by threads. Each report says what its own items say.
-- The items fit one another and the stimuli. What a separate core or a group of cores did fits its own configuration.
-- Each report's core has ended, or it gave up once `turns` turns in a row changed nothing. The order of the cores'
-- turns is up to the threads. [own]
pub record IsThreaded (turns : ℕ) (files : List File) (plan : Plan) (reports : List Report) : Type 0 where
  pub stimuli : List CoreStimuli
  pub given : IsGiven files plan stimuli
  pub sound : AreSound plan stimuli reports
  pub finished : AreFinished plan stimuli turns reports

-- The last line of a run's output: whether every started core has ended. [own]
abbrev pub last_line : Bool → List ℕ
last_line true = codes "ended\n"
last_line false = codes "stalled\n"

-- If the log of a core is to be printed, that core is configured.
abbrev pub are_items_known : Plan → Option CoreId → Bool
are_items_known plan None = true
are_items_known plan (Some core) = is_some (core_of plan core)

-- The items of a core's report, or none if it has no report.
abbrev pub items_in : List Report → CoreId → List Item
items_in reports core = option_map_or (λ (r : Report). r.items) (find (λ (r : Report). same_core r.core core) reports) []

-- The reports' blocks in their order, and the last line behind them: whether the run ended. [own]
abbrev pub ended_text : Plan → List Report → Bool → List ℕ
ended_text plan reports ended = text_of plan reports ++ last_line ended

-- What a run with these reports prints. Its last line says whether every started core has ended. [own]
abbrev pub run_text : Plan → List Report → List ℕ
run_text plan reports = ended_text plan reports (have_all_ended plan reports)

-- What a run with these reports prints: all of them and the last line, or the log of one core alone. [own]
abbrev pub printed_text : Plan → List Report → Option CoreId → List ℕ
printed_text plan reports None = run_text plan reports
printed_text plan reports (Some core) = log_text plan (items_in reports core)

-- The core whose log a run by threads prints, if it prints one.
abbrev pub logged_core : Print → Option CoreId
logged_core Trace = None
logged_core (Log core) = Some core
logged_core Order = None

-- The text of a schedule by which a listed run has these reports without their clocks; or the line `none`. [own]
abbrev pub IsOrdered : Plan → List CoreStimuli → List Report → List ℕ → Type 0
IsOrdered plan stimuli reports text = (text ≡ codes "none\n")
    ⊎ ((turns : List (CoreId × Choice)) × AreReports plan stimuli turns (map unclocked reports) × (text ≡ schedule_text turns ++ codes "\n"))

-- The line of the turns in one order, or `none` if no order was found.
abbrev pub order_line : Option (List (CoreId × Choice)) → List ℕ
order_line None = codes "none\n"
order_line (Some turns) = schedule_text turns ++ codes "\n"
