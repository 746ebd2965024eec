use Rattle.std.proofs.Common.{◌≡◌, All, drop, length, take, get_or}
use Rattle.osbase.specs.declared.references.AlarmRef.{AlarmRef}
use Rattle.osclock.specs.Clocks.{IsBounded, all_beyond, unset}
use Rattle.osclock.proofs.Quiet.{IsQuietIn}
use Rattle.osclock.proofs.clocks.pass_alarms.Given as goal

abbrev pub invariant-loop-alarm : goal.invariant-loop-alarm
invariant-loop-alarm l = record {
  told : all_beyond l.before (drop l.alarm-index l.attached) l.alarms.items ≡ all_beyond l.before l.attached l.initial.alarms.items;
  bounded : All (λ (a : AlarmRef). IsBounded l.before.max (get_or l.alarms.items a.index unset)) l.attached;
  long : length l.alarms.items ≡ length l.initial.alarms.items;
  quiet : All (IsQuietIn l.alarms.items l.quiet l.after) (take l.alarm-index l.attached);
}
