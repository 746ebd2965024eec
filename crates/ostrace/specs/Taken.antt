-- What a sink has taken of a text, where that is known, and how many writes to it failed.
use Rattle.std.specs.Prelude.{◌≡◌, ℕ, ◌+◌, Bool, true, ◌&&◌, not, ◌==◌, if◌then◌else◌, Option, Some, None, Result, Ok, Err, List, ◌++◌, length, take, unwrap_or, OnOk, OnErr}
use Rattle.std.specs.Io.KnownBytes.{Appends}

-- A write failed: it was refused, or it took nothing of a text that is not empty. [own]
abbrev pub is_failed_write : Option ℕ → List ℕ → Bool
is_failed_write None bytes = true
is_failed_write (Some n) bytes = (n == 0) && not (length bytes == 0)

-- How many writes have failed: one more than before, if this write failed.
abbrev pub count_after : ℕ → Option ℕ → List ℕ → ℕ
count_after failed result bytes = failed + (if is_failed_write result bytes then 1 else 0)

-- The bytes that a write took: as many as it says, from the front.
abbrev pub bytes_taken : Option ℕ → List ℕ → List ℕ
bytes_taken result bytes = take (unwrap_or result 0) bytes

-- The sink took a prefix of the text, and nothing else.
pub record TakesBeginning (old new : Option (List ℕ)) (text : List ℕ) : Type 0 where
  pub begun : List ℕ
  pub rest : List ℕ
  pub is : begun ++ rest ≡ text
  pub takes : Appends old new begun

-- How many writes failed in a call that stops at the first.
abbrev pub failures : {E : Type 0} → Result Unit E → ℕ
failures (Ok x) = 0
failures (Err e) = 1

-- A call wrote a text to a sink: all of it at `Ok`, and at `Err` a prefix of it, up to the first failed write, which is
-- counted. By the sink's type, `taken` is what a sink has taken, and `failed` how many writes to it failed.
pub record Writes {S E : Type 0} (taken : S → Option (List ℕ)) (failed : S → ℕ) (old new : S) (text : List ℕ)
    (result : Result Unit E) : Type 0 where
  pub ok : OnOk result (Appends (taken old) (taken new) text)
  pub err : OnErr result (TakesBeginning (taken old) (taken new) text)
  pub count : failed new ≡ failed old + failures result
