use Rattle.std.proofs.Common.{◌≡◌, ◌<◌, length, get_or, arith, rules}
use Rattle.std.specs.List.{refill, slice_set}
use Rattle.std.proofs.lemmas.{Grind.common_steps, List.take_all}
use Rattle.arrayvec.specs.ArrayVec.{array_vec_len}
use Rattle.osbase.specs.declared.references.AlarmRef.{AlarmRef}
use Rattle.oscount.specs.Clocks.{alarm_beyond}
use Rattle.osclock.specs.Clocks.{IsBounded, unset}
use Rattle.osclock.proofs.{Beyond.beyond-bounded, Beyond.set-keeps, Beyond.written, Quiet.quiet-more}
use Rattle.osclock.proofs.clocks.pass_alarms.Goals as goal

-- the reference in place of an alarm that does not exist
abbrev no_alarm : AlarmRef
no_alarm = record { core = record { number = 0 }; index = 0 }

pub loop-alarm-preserved : goal.loop-alarm-preserved
loop-alarm-preserved c =
    let alarm = get_or c.args.attached.now c.loop-alarm.alarm-index no_alarm in
    let known : alarm.index < length c.loop-alarm.alarms.items = search rules in
    let passed : c.advance.new.self ≡ alarm_beyond c.args.before (get_or c.loop-alarm.alarms.items alarm.index unset) = search rules in
    let bounded : IsBounded c.args.before.max c.advance.new.self = rw passed (beyond-bounded c.args.before _ (c.loop-alarm.invariant.bounded c.loop-alarm.alarm-index no_alarm c.loop-alarm-test.true)) in
    let new : refill (array_vec_len c.loop-alarm.alarms) c.loop-alarm.alarms.items (slice_set c.as_mut_slice.result.now c.from.result c.advance.new.self) ≡ slice_set c.loop-alarm.alarms.items alarm.index c.advance.new.self =
    rw (c.as_mut_slice.ensures.value, c.from.ensures) (written c.loop-alarm.alarms.items alarm.index c.advance.new.self) in
    record {
      told = rw new (grind (arith, common_steps));
      bounded = rw new (λ k d within. set-keeps (IsBounded c.args.before.max) c.loop-alarm.alarms.items alarm.index c.advance.new.self known bounded (get_or c.args.attached.now k d).index (c.loop-alarm.invariant.bounded k d within));
      long = search rules;
      quiet = rw (new, c.min-quiet.ensures) (quiet-more c.loop-alarm.alarms.items c.loop-alarm.quiet c.counts_before.result c.args.after c.args.attached.now c.loop-alarm.alarm-index no_alarm c.advance.new.self c.loop-alarm-test.true known c.loop-alarm.invariant.quiet c.counts_before.ensures);
    }

pub returns-clause-quiet : goal.returns-clause-quiet
returns-clause-quiet c = rw (take_all c.loop-alarm.alarm-index c.args.attached.now c.loop-alarm-test.false) at c.loop-alarm.invariant.quiet
