-- The text of a trace: a block for each core, and in it a line for each mark.
--
-- A line is words divided by one space. An object is printed by its name in the configuration; an
-- object that the configuration lacks has the empty name.
use Rattle.std.specs.Prelude.{ℕ, ℤ, List, [], ◌∷◌, ◌++◌, codes}
use Rattle.std.specs.{Fmt.decimal, Fmt.signed_decimal, List.flat_map}
use Rattle.osbase.specs.{declared.references.CoreId.CoreId, declared.references.Variable.Variable, declared.messages.RemoteCall.RemoteCall, declared.messages.RemoteCall.TheVariants.GetAlarm, declared.marks.Mark.Mark, declared.statuses.Status.TheVariants.EOk, declared.turns.Report.Report, Words.status_name, Words.service_name}
use Rattle.ossyntax.specs.Call as forms
use Rattle.osplan.specs.declared.plans.Plan.{Plan}
use Rattle.osplan.specs.Names.{alarm_name, isr_name, name_of, runner_name, table_name, task_name}

-- A variable is `v` and its number. [own]
abbrev pub variable_name : Variable → List ℕ
variable_name x = codes "v" ++ decimal x.index

-- The words of a call that goes to another core: the operation as a script has it. [own]
abbrev pub call_words : Plan → RemoteCall → List (List ℕ)
call_words plan call = forms.call_words (name_of plan) call

-- The words of a value, which comes with E_OK.
abbrev pub value_words : ℤ → List (List ℕ)
value_words n = status_name EOk ∷ signed_decimal n ∷ []

-- The words of a mark's line.
-- [own; hooks and services as OSEK/VDX OS 2.2.3 and AUTOSAR SWS OS 4.x name them]
abbrev pub words_of : Plan → Mark → List (List ℕ)
words_of plan (Mark.StartCoreReturned core status) = codes "start" ∷ decimal core.number ∷ status_name status ∷ []
words_of plan Mark.ModesConflict = codes "conflict" ∷ []
words_of plan Mark.StartupHook = codes "hook" ∷ codes "Startup" ∷ []
words_of plan (Mark.ErrorHook status) = codes "hook" ∷ codes "Error" ∷ status_name status ∷ []
words_of plan (Mark.ProtectionHook status) = codes "hook" ∷ codes "Protection" ∷ status_name status ∷ []
words_of plan (Mark.ShutdownHook status) = codes "hook" ∷ codes "Shutdown" ∷ status_name status ∷ []
words_of plan (Mark.Activated t) = codes "act" ∷ task_name plan t ∷ []
words_of plan (Mark.Terminated t) = codes "end" ∷ task_name plan t ∷ []
words_of plan (Mark.PreTaskHook t) = codes "pre" ∷ task_name plan t ∷ []
words_of plan (Mark.PostTaskHook t) = codes "post" ∷ task_name plan t ∷ []
words_of plan (Mark.EventSet t mask) = codes "ev" ∷ task_name plan t ∷ decimal mask ∷ []
words_of plan (Mark.EventCleared t mask) = codes "clr" ∷ task_name plan t ∷ decimal mask ∷ []
words_of plan (Mark.EventAwaited t mask) = codes "wait" ∷ task_name plan t ∷ decimal mask ∷ []
words_of plan (Mark.Released t) = codes "free" ∷ task_name plan t ∷ []
words_of plan (Mark.InterruptAccepted i) = codes "irq" ∷ isr_name plan i ∷ []
words_of plan (Mark.InterruptLost i) = codes "lost" ∷ isr_name plan i ∷ []
words_of plan (Mark.IsrEntered i) = codes "enter" ∷ isr_name plan i ∷ []
words_of plan (Mark.IsrLeft i) = codes "leave" ∷ isr_name plan i ∷ []
words_of plan Mark.Tick = codes "tick" ∷ []
words_of plan (Mark.AlarmExpired a) = codes "alarm" ∷ alarm_name plan a ∷ []
words_of plan (Mark.ExpiryPoint s offset) = codes "point" ∷ table_name plan s ∷ decimal offset ∷ []
words_of plan (Mark.TableStopped s) = codes "stop" ∷ table_name plan s ∷ []
words_of plan (Mark.TableBegun s) = codes "begin" ∷ table_name plan s ∷ []
words_of plan (Mark.CallQueued core call) = codes "out" ∷ decimal core.number ∷ call_words plan call
words_of plan (Mark.CallServed core status call) =
    codes "in" ∷ decimal core.number ∷ (call_words plan call ++ status_name status ∷ [])
words_of plan (Mark.CallAnswered core alarm variable value) =
    codes "in" ∷ decimal core.number ∷ (call_words plan (GetAlarm alarm variable) ++ value_words value)
words_of plan (Mark.ServiceReturned runner service status) =
    codes "stat" ∷ runner_name plan runner ∷ service_name service ∷ status_name status ∷ []
words_of plan (Mark.ValueReturned runner service value) =
    codes "stat" ∷ runner_name plan runner ∷ service_name service ∷ value_words value
words_of plan (Mark.VariableSet runner variable value) =
    codes "var" ∷ runner_name plan runner ∷ variable_name variable ∷ signed_decimal value ∷ []
words_of plan (Mark.Halted core status) = codes "halt" ∷ decimal core.number ∷ status_name status ∷ []

-- Words, each after a space.
abbrev pub after_spaces : List (List ℕ) → List ℕ
after_spaces words = flat_map (λ word. codes " " ++ word) words

-- Words divided by one space.
abbrev pub spaced : List (List ℕ) → List ℕ
spaced [] = []
spaced (word ∷ words) = word ++ after_spaces words

-- The line of a mark, without its end. [own]
abbrev pub line_of : Plan → Mark → List ℕ
line_of plan mark = spaced (words_of plan mark)

-- A line end.
abbrev pub line_end : List ℕ
line_end = codes "\n"

-- The line that a block begins with. [own]
abbrev pub title_of : CoreId → List ℕ
title_of core = spaced (codes "core" ∷ decimal core.number ∷ [])

-- The lines of marks, each with its end.
abbrev pub lines_of : Plan → List Mark → List ℕ
lines_of plan marks = flat_map (λ mark. line_of plan mark ++ line_end) marks

-- A core's block: the line `core K`, and the lines of its marks in order. [own]
abbrev pub block_of : Plan → Report → List ℕ
block_of plan report = (title_of report.core ++ line_end) ++ lines_of plan report.marks

-- The text of reports: their blocks in the order of the list. [own]
abbrev pub text_of : Plan → List Report → List ℕ
text_of plan reports = flat_map (block_of plan) reports
