-- The words of the spinlocks.
use Rattle.std.specs.Prelude.{◌≡◌, ◌==◌, ℕ, ◌+◌, ◌-◌, ◌<◌, nat_lt, if◌then◌else◌, Option, Some, None, List, All, length, map}
use Rattle.osbase.specs.{declared.references.CoreId.CoreId, declared.limits.TheConstants.SPINLOCKS}
use Rattle.osspin.specs.{declared.calls.SpinAction.SpinAction, declared.calls.SpinAction.TheVariants.Take, declared.calls.SpinAction.TheVariants.Free, declared.calls.SpinAction.TheVariants.Look, declared.calls.SpinCall.SpinCall, declared.calls.SpinReply.SpinReply, declared.calls.SpinReply.TheVariants.Answered, declared.calls.SpinReply.TheVariants.Seen}

-- A lock's word: 0, or one more than the number of the core that holds it. [own]
abbrev pub word_of : Option CoreId → ℕ
word_of None = 0
word_of (Some core) = core.number + 1

-- The core that a lock's word names, if any.
abbrev pub holder_in : ℕ → Option CoreId
holder_in word = if word == 0 then None else (if nat_lt (word - 1) 256 then Some (record { number = word - 1 }) else None)

-- The core's number, if there is a core, fits into a byte.
abbrev pub FitsByte : Option CoreId → Type 0
FitsByte None = Unit {0}
FitsByte (Some core) = core.number < 256

-- The words stand for these holders: a word for each spinlock, in order. Each holder's number fits into a byte.
pub record Stands (holders : List (Option CoreId)) (words : List ℕ) : Type 0 where
  pub words_are : words ≡ map word_of holders
  pub count : length holders ≡ SPINLOCKS
  pub fit : All FitsByte holders

-- What a call of one lock is answered if its step finds this word.
abbrev pub answer_to : CoreId → SpinAction → ℕ → SpinReply
answer_to core Take word = Answered (word == 0)
answer_to core Free word = Answered (word == core.number + 1)
answer_to core Look word = Seen (holder_in word)

-- What a call of the spinlocks is answered if its step finds this word.
abbrev pub answer : CoreId → SpinCall → ℕ → SpinReply
answer core call word = answer_to core call.action word
