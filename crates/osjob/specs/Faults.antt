-- The printed numbers and words of faults. [own]
use Rattle.std.specs.Prelude.{ℕ, List, [], ◌∷◌, ◌++◌, codes}
use Rattle.std.specs.Fmt.{decimal}
use Rattle.osplan.specs.Fault.{fault_number as conf_fault_number, fault_name as conf_fault_name}
use Rattle.ostrace_text.specs.Trace.{line_end, spaced}
use Rattle.oslog.specs.declared.faults.LogFault.{LogFault}
use Rattle.oslog.specs.declared.faults.LogFault.TheVariants as log
use Rattle.osthreads.specs.declared.runs.ThreadReason.{ThreadReason}
use Rattle.osthreads.specs.declared.runs.ThreadReason.TheVariants as threads
use Rattle.osjob.specs.declared.faults.Fault.{Fault}
use Rattle.osjob.specs.declared.faults.Fault.TheVariants.{Text, BadLog, ItemRefused, NoMemoryToRun, NoThread, MailBreak, WriteFailed, Unreadable}

-- The number and the word of a fault. Those of a text's fault are in `osplan/specs/Fault.antt`. [own]
abbrev pub fault_row : Fault → ℕ × List ℕ
fault_row (Text fault) = (conf_fault_number fault, conf_fault_name fault)
fault_row BadLog = (14, codes "BadLog")
fault_row (ItemRefused number) = (15, codes "ItemRefused")
fault_row NoMemoryToRun = (16, codes "NoMemory")
fault_row NoThread = (17, codes "NoThread")
fault_row MailBreak = (18, codes "MailBreak")
fault_row WriteFailed = (19, codes "WriteFailed")
fault_row Unreadable = (21, codes "Unreadable")

abbrev pub fault_number : Fault → ℕ
fault_number fault = (fault_row fault).0

abbrev pub fault_name : Fault → List ℕ
fault_name fault = (fault_row fault).1

-- The words behind the name in a fault's line: the number of the refused item, if an item was refused; else none.
abbrev pub fault_place : Fault → List (List ℕ)
fault_place (ItemRefused number) = decimal number ∷ []
fault_place fault = []

-- The line of a fault, with its end. [own]
abbrev pub fault_text : Fault → List ℕ
fault_text fault = spaced (codes "fault" ∷ decimal (fault_number fault) ∷ fault_name fault ∷ fault_place fault) ++ line_end

-- The fault that the program has for a log's fault.
abbrev pub of_log : LogFault → Fault
of_log log.BadLog = BadLog
of_log log.NoMemory = NoMemoryToRun

-- The fault that the program has for the reason why a run by threads broke off.
abbrev pub of_threads : ThreadReason → Fault
of_threads threads.NotBegun = NoMemoryToRun
of_threads threads.NoMemory = NoMemoryToRun
of_threads threads.NoThread = NoThread
of_threads threads.MailBreak = MailBreak
