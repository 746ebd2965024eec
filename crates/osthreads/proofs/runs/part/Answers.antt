use Rattle.std.proofs.{Common.arith, lemmas.Grind.common_steps}
use Rattle.osthreads.proofs.Outfits.{kept_more}
use Rattle.osthreads.proofs.runs.part.Goals as goal

pub loop-ending-preserved : goal.loop-ending-preserved
loop-ending-preserved c = (
  grind (arith, common_steps),
  grind (arith, common_steps),
  grind (arith, common_steps),
  grind (arith, common_steps),
  grind (arith, common_steps),
  grind (arith, common_steps),
  kept_more c.loop-ending.yielded c.in-Some.ending c.loop-ending.ends.items c.put_end.new.ends.items c.loop-ending.invariant.6 c.put_end.ensures.items,
  grind (arith, common_steps),
  grind (arith, common_steps),
)
