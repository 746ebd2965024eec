-- What it means to send off what an output has gathered. [own]
use Rattle.std.specs.Prelude.{◌≡◌, ℕ, ◌+◌, Option, Result, List, OnOk}
use Rattle.std.specs.Io.KnownBytes.{Keeps}
use Rattle.ostrace.specs.{declared.sinks.WriteFailed.WriteFailed as SinkFailed, Taken.failures}

-- All that the output has taken is sent off. If the sending is refused, this counts as a failed write. No more is
-- taken. By the output's type, `taken` is what an output has taken, `sent` what it has sent off, `failed` how many of
-- its writes failed. [own]
pub record Sends {S : Type 0} (taken sent : S → Option (List ℕ)) (failed : S → ℕ) (old new : S)
    (flushed : Result Unit SinkFailed) : Type 0 where
  pub keeps : Keeps (taken old) (taken new)
  pub all : OnOk flushed (sent new ≡ taken new)
  pub count : failed new ≡ failed old + failures flushed
