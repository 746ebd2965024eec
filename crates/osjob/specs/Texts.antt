-- A job's files as texts, and the outcome of a text: a meaning, or the least of its faults. [own]
use Rattle.std.specs.Prelude.{◌≡◌, ◌<◌, ◌≤◌, ◌⊎◌, ℕ, if◌then◌else◌, Option, Some, None, option_map, option_and_then, Result, Ok, Err, List, length, slice_get, Vec}
use Rattle.std.specs.{List.Contains, Str.is_utf8, declared.alloc.Global.Global}
use Rattle.osplan.specs.{declared.faults.ConfFault.ConfFault, declared.faults.ConfFault.TheVariants.NotJson, Fault.IsLeast}
use Rattle.osjob.specs.{declared.faults.Fault.Fault, declared.faults.Fault.TheVariants.Text, declared.faults.Fault.TheVariants.Unreadable}

-- A file's bytes, or None where it could not be read.
abbrev pub File : Type 0
File = Option (Vec ℕ Global)

-- The bytes of the file in a place, or None if the file is absent or could not be read.
abbrev pub bytes_at : List File → ℕ → Option (List ℕ)
bytes_at files at = option_map (λ (bytes : Vec ℕ Global). bytes.items) (option_and_then (λ (file : File). file) (slice_get files at))

-- The bytes of the files before the place `at` stay the same.
abbrev pub KeepsBelow : ℕ → List File → List File → Type 0
KeepsBelow at old new = (i : ℕ) → i < at → bytes_at new i ≡ bytes_at old i

-- The text of a file's bytes. If the file is absent or could not be read, the fault is `Unreadable`; if the bytes are
-- not UTF-8, it is `no_text`. [own]
abbrev pub text_or : Fault → Option (List ℕ) → Result (List ℕ) Fault
text_or no_text None = Err Unreadable
text_or no_text (Some bytes) = if is_utf8 bytes then Ok bytes else Err no_text

-- The text of the bytes of a JSON file. If they are not UTF-8, the fault is `NotJson`. [own]
abbrev pub text_in : Option (List ℕ) → Result (List ℕ) Fault
text_in bytes = text_or (Text NotJson) bytes

-- The text of the JSON file in a place.
abbrev pub text_at : List File → ℕ → Result (List ℕ) Fault
text_at files at = text_in (bytes_at files at)

-- The file has a text, and `x` is the text's meaning.
abbrev pub Means : {A : Type 0} → (List ℕ → Option A) → Result (List ℕ) Fault → A → Type 0
Means meaning (Ok text) x = meaning text ≡ Some x
Means meaning (Err fault) x = ⊥

-- The fault of a file: that it is no text, or else the least fault of its text. [own]
abbrev pub IsFaultOf : (List ℕ → List ConfFault) → Result (List ℕ) Fault → Fault → Type 0
IsFaultOf faults (Err no_text) fault = fault ≡ no_text
IsFaultOf faults (Ok text) (Text fault) = IsLeast fault (faults text)
IsFaultOf faults (Ok text) fault = ⊥

-- If the fault is `Unreadable`, one of these files could not be read; or all `count` files were read, and the one that
-- was asked for does not exist. [own]
abbrev pub IsAsked : ℕ → List File → Fault → Type 0
IsAsked count files fault = fault ≡ Unreadable → (count ≤ length files) ⊎ Contains files None
