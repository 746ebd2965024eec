-- What holds of each alarm.
use Rattle.std.specs.Prelude.{ℕ, ◌+◌, ◌<◌, ◌≤◌, IsTrue, IsFalse}
use Rattle.osbase.specs.Counting.{AlarmSetting, counts_left, is_due_count}

-- The setting of an alarm `n` counts later.
abbrev pub counts_later : ℕ → AlarmSetting → AlarmSetting
counts_later n setting = record setting { counts = setting.counts + n }

-- An alarm is due after the counts that are left, at least 1, and not before. [OSEK/VDX OS 2.2.3, section 13.6.3.2]
pub record IsLeft (setting : AlarmSetting) : Type 0 where
  pub later : 1 ≤ counts_left setting
  pub due : IsTrue (is_due_count (counts_later (counts_left setting) setting))
  pub none : (n : ℕ) → 1 ≤ n → n < counts_left setting → IsFalse (is_due_count (counts_later n setting))
