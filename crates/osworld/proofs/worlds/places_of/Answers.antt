use Rattle.std.proofs.Common.{arith, length-set}
use Rattle.osworld.proofs.Places.{places-more}
use Rattle.osworld.proofs.worlds.places_of.Goals as goal

pub loop-number-preserved : goal.loop-number-preserved
loop-number-preserved c = (
  simp length-set c.loop-number.invariant.0,
  places-more c.loop-number.places c.args.core_runs.now c.loop-number.number c.from.result c.place_in.result c.from.ensures (omega (arith, c.loop-number.invariant.0, c.loop-number-test.true)) c.place_in.ensures c.loop-number.invariant.1,
)
