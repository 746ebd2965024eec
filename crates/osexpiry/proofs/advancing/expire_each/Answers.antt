use Rattle.std.proofs.{Common.rules, lemmas.List.take_all}
use Rattle.osbase.specs.{declared.references.AlarmRef.AlarmRef, Objects.alarm_object}
use Rattle.osplan.specs.{declared.plans.Core.Core, Objects.is_own_object}
use Rattle.osservice.proofs.InTurn.{next-at, none-acted, one-acted, places-left, room-left, still-passes}
use Rattle.osexpiry.proofs.advancing.expire_each.Goals as goal

-- the reference that is read past the last one
abbrev blank : AlarmRef
blank = record { core = record { number = 0 }; index = 0 }

pub loop-alarm-init : goal.loop-alarm-init
loop-alarm-init g c = none-acted

pub expire-requires : goal.expire-requires
expire-requires g c =
    let next = next-at c.args.due.now c.loop-alarm.alarm-index blank c.loop-alarm-test.true in
    let own = still-passes next c.loop-alarm.invariant (λ (core : Core) (a : AlarmRef). is_own_object core (alarm_object a)) c.requires.own in
    search (rules, own, places-left next c.loop-alarm.invariant c.requires.posts.outbox, room-left next c.loop-alarm.invariant c.requires.posts.room)

pub loop-alarm-preserved : goal.loop-alarm-preserved
loop-alarm-preserved g c = one-acted (next-at c.args.due.now c.loop-alarm.alarm-index blank c.loop-alarm-test.true) c.loop-alarm.invariant c.expire.ensures.steps c.expire.ensures.outbox

pub returns : goal.returns
returns g c =
    let done = rw (take_all c.loop-alarm.alarm-index c.args.due.now c.loop-alarm-test.false) at c.loop-alarm.invariant in
    record { steps = done.steps; outbox = done.outbox }
