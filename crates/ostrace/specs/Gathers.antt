-- Text that is gathered, and sent to a sink once there is no room for more of it.
use Rattle.std.specs.Prelude.{◌≡◌, ℕ, ◌+◌, Option, Result, List, ◌++◌, OnOk, OnErr}
use Rattle.std.specs.Io.KnownBytes.{Appends}
use Rattle.ostrace.specs.Taken.{failures, TakesBeginning}

-- The sink took all of `text` but `left`, which is the text's end.
pub record Sends (old new : Option (List ℕ)) (text left : List ℕ) : Type 0 where
  pub sent : List ℕ
  pub is : sent ++ left ≡ text
  pub takes : Appends old new sent

-- A call gathered `text` after what was gathered `before`. At `Ok` the sink took all of both but what is still gathered
-- `after` the call. At `Err` it took a prefix of both, up to the first failed write, which is counted.
-- By the sink's type, `taken` is what a sink has taken, and `failed` how many writes to it failed.
pub record Gathers {S E : Type 0} (taken : S → Option (List ℕ)) (failed : S → ℕ) (old new : S) (before after text : List ℕ)
    (result : Result Unit E) : Type 0 where
  pub ok : OnOk result (Sends (taken old) (taken new) (before ++ text) after)
  pub err : OnErr result (TakesBeginning (taken old) (taken new) (before ++ text))
  pub count : failed new ≡ failed old + failures result
