use Rattle.std.proofs.Common.{◌≡◌, ◌∙◌, arith, refl}
use Rattle.ostrace.proofs.Writing.{Appends-nothing, Appends-then, count_after-nothing, count_after-some, rest_length, take_further, Writes-stopped}
use Rattle.ostrace.proofs.sinks.write_all.Goals as goal

pub loop-at-init : goal.loop-at-init
loop-at-init g c = record { within = omega arith; wrote = Appends-nothing _; same = refl }

pub returns-in-None : goal.returns-in-None
returns-in-None g c = Writes-stopped c.args.bytes.now c.loop-at.at _ _ _ c.loop-at.out _ _ c.loop-at.invariant.wrote c.loop-at.invariant.same c.in-None.ensures.taken c.in-None.ensures.failed

pub returns-in-Some-eq0 : goal.returns-in-Some-eq0
returns-in-Some-eq0 g c =
    let count : c.in-Some-eq0.field-0 ≡ 0 = c.in-Some-eq0.field-0-test in
    Writes-stopped c.args.bytes.now c.loop-at.at _ _ _ c.loop-at.out _ _ c.loop-at.invariant.wrote c.loop-at.invariant.same (rw count at c.in-Some-eq0.ensures.taken)
    (c.in-Some-eq0.ensures.failed ∙ count_after-nothing _ _ _ count (omega (arith, rest_length c.args.bytes.now c.loop-at.at)))

pub loop-at-preserved : goal.loop-at-preserved
loop-at-preserved g c = record {
  within = omega (arith, rest_length c.args.bytes.now c.loop-at.at, c.in-Some.ensures.bound);
  wrote = rw (take_further c.args.bytes.now c.loop-at.at c.in-Some.count) (Appends-then _ _ _ _ _ c.loop-at.invariant.wrote c.in-Some.ensures.taken);
  same = c.in-Some.ensures.failed ∙ count_after-some _ _ _ c.in-Some.count-test.1 ∙ c.loop-at.invariant.same;
}
