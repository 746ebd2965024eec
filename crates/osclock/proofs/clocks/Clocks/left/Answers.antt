use Rattle.osclock.proofs.Bounds.{alarm-inside, alarm-within, value-within}
use Rattle.osclock.proofs.clocks.Clocks.left.Goals as goal

pub alarm-requires : goal.alarm-requires
alarm-requires c = alarm-inside c.args.core.now _ c.args.alarm c.requires.clocks c.requires.own

pub left-requires-clause-expiry : goal.left-requires-clause-expiry
left-requires-clause-expiry c =
    rw (c.alarm.ensures, c.counter_for.ensures.counter.max) (value-within _ _ (alarm-within c.args.core.now c.args.self.now c.args.alarm c.requires.clocks c.requires.own))
