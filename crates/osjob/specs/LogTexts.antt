-- A core's log as a file, and a core of the configuration. [own]
use Rattle.std.specs.Prelude.{◌≡◌, ℕ, None, Result, Ok, Err, List}
use Rattle.osbase.specs.{declared.items.Item.Item, declared.references.CoreId.CoreId}
use Rattle.osplan.specs.{declared.faults.ConfFault.TheVariants.UnknownName, declared.plans.Plan.Plan, View.core_of}
use Rattle.oslog.specs.Logs.{IsLog}
use Rattle.osjob.specs.{Texts.File, Texts.bytes_at, Texts.text_or, declared.faults.Fault.Fault, declared.faults.Fault.TheVariants.BadLog, declared.faults.Fault.TheVariants.NoMemoryToRun, declared.faults.Fault.TheVariants.Text}

-- The text of the log in a place. If the file is absent or could not be read, the fault is `Unreadable`; if the bytes
-- are not UTF-8, it is `BadLog`. [own]
abbrev pub log_at : List File → ℕ → Result (List ℕ) Fault
log_at files at = text_or BadLog (bytes_at files at)

-- The log has a text, and this is a log of these items.
abbrev pub IsLogOf : Plan → Result (List ℕ) Fault → List Item → Type 0
IsLogOf plan (Ok text) items = IsLog plan text items
IsLogOf plan (Err fault) items = ⊥

-- The fault of a log: why it has no text; `BadLog`, if there is no list of items whose log the text is; or
-- `NoMemoryToRun`, which says nothing about the text. [own]
abbrev pub IsLogFault : Plan → Result (List ℕ) Fault → Fault → Type 0
IsLogFault plan (Err no_text) fault = fault ≡ no_text
IsLogFault plan (Ok text) BadLog = (items : List Item) → IsLog plan text items → ⊥
IsLogFault plan (Ok text) NoMemoryToRun = Unit {0}
IsLogFault plan (Ok text) fault = ⊥

-- The core is not configured, and the fault is `UnknownName`.
abbrev pub IsUnknownCore : Plan → CoreId → Fault → Type 0
IsUnknownCore plan core fault = (core_of plan core ≡ None) × (fault ≡ Text UnknownName)
