use Rattle.std.proofs.Common.{◌+◌, ℕ, [], ap, refl}
use Rattle.std.proofs.{lemmas.List.take_all, lemmas.Option.slice_get-get_or}
use Rattle.osrun.proofs.CoreRunning.{seated-first}
use Rattle.osreplay.proofs.Replaying.{cut-short, refuses, reports, takes-on}
use Rattle.osreplay.proofs.replays.replay.Goals as goal

pub loop-item-init : goal.loop-item-init
loop-item-init c =
    let new = c.new-core_run.ensures in (
      record {
        seated = seated-first c.args.config.now [] c.new-core_run.result c.args.core new.core new.plan new.kernel new.stimuli new.items new.marks;
        id_is = new.core;
        items_are = new.items;
      },
      refl,
    )

pub returns-then-not-may_take : goal.returns-then-not-may_take
returns-then-not-may_take c = record {
  ok = tt;
  fault = refuses c.args.config.now c.args.core c.args.items.now c.loop-item.item-index c.loop-item.core_run c.loop-item.invariant.0 _ (slice_get-get_or _ _ _ c.loop-item-test.true)
      c.may_take.result c.may_take.ensures.reads c.if-not-may_take.true c.loop-item.taken c.loop-item.invariant.1 c.report.result c.report.ensures;
}

pub returns-then-is_err : goal.returns-then-is_err
returns-then-is_err c = record {
  ok = tt;
  fault = cut-short c.args.config.now c.args.core c.args.items.now c.loop-item.item-index c.loop-item-test.true c.loop-item.core_run c.make_room.new.self c.loop-item.invariant.0
      c.make_room.ensures.keeps c.report-then-is_err.result c.report-then-is_err.ensures;
}

pub loop-item-preserved : goal.loop-item-preserved
loop-item-preserved c = (
  takes-on c.args.config.now c.args.core c.args.items.now c.loop-item.item-index c.loop-item.core_run c.loop-item.invariant.0 _ (slice_get-get_or _ _ _ c.loop-item-test.true)
      c.may_take.result c.may_take.ensures.reads c.if-not-may_take.false
      c.make_room.new.self c.take.new.self c.make_room.ensures.keeps c.take.ensures,
  ap (λ (k : ℕ). k + 1) c.loop-item.invariant.1,
)

pub returns : goal.returns
returns c = record {
  ok = rw (take_all c.loop-item.item-index c.args.items.now c.loop-item-test.false) at (reports c.args.config.now c.args.core _ c.loop-item.core_run c.report-2.result c.loop-item.invariant.0 c.report-2.ensures);
  fault = tt;
}
