-- What is read of a file. [own]
use Rattle.std.specs.Prelude.{◌<◌, ℕ, vec_len}
use Rattle.osjob.specs.{declared.files.Reading.Reading, declared.files.Reading.TheVariants.Bytes, declared.files.Reading.TheVariants.Unreadable}

-- What was read has fewer bytes than the bound, or the file could not be read.
abbrev pub HasFewerThan : ℕ → Reading → Type 0
HasFewerThan bound (Bytes bytes) = vec_len bytes < bound
HasFewerThan bound Unreadable = Unit {0}
