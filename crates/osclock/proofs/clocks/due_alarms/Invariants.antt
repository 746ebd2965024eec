use Rattle.std.proofs.Common.{◌≡◌, ◌≤◌, filter, length, take, get_or}
use Rattle.osbase.specs.declared.references.AlarmRef.{AlarmRef}
use Rattle.oscount.specs.Clocks.{is_due_next}
use Rattle.osclock.specs.Clocks.{unset}
use Rattle.osclock.proofs.clocks.due_alarms.Given as goal

abbrev pub invariant-loop-alarm : goal.invariant-loop-alarm
invariant-loop-alarm l = record {
  kept : l.due.items ≡ filter (λ (a : AlarmRef). is_due_next l.counter (get_or l.alarms a.index unset)) (take l.alarm-index l.attached);
  few : length l.due.items ≤ l.alarm-index;
}
