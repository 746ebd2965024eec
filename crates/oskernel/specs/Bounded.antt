-- What holds of every kernel.
use Rattle.std.specs.Prelude.{ℕ, ◌*◌, ◌≤◌}
use Rattle.osstate.specs.State.{KernelState}
use Rattle.osplan.specs.Objects.{outbox_needed}

-- How many entries a step adds to the history at most: the item, what follows from it, and dispatch.
abbrev pub step_entries : ℕ
step_entries = 1024

-- The outbox has places for all that the core's alarms and schedule tables, and its calls, may post at once. The
-- history has at most `step_entries` entries for each item that was taken.
pub record IsBounded (places : ℕ) (s : KernelState) : Type 0 where
  pub outbox : outbox_needed s.view.own ≤ places
  pub entries : s.progress.entries ≤ step_entries * s.progress.items
