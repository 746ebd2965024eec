use Rattle.std.proofs.Common.{refl, arith}
use Rattle.osqueue.specs.declared.ready.TheConstants.{PRIORITIES}
use Rattle.osjobs.proofs.{Configured.all-below, Configured.few-priorities, Counting.none-counted, Keeping.none-held, Keeping.places-new}
use Rattle.osjobs.proofs.jobs.Jobs.new.Goals as goal

pub invariant_of-result : goal.invariant_of-result
invariant_of-result g c = rw (c.new.ensures, c.new-2.ensures, c.new-3.ensures, c.new-4.ensures, c.new-6.ensures) (record {
  ascending = tt;
  counted = none-counted;
  isrs_counted = none-counted;
  queue = record { few = omega arith; own = tt; low = all-below c.args.core.now g.row.P c.requires.priorities; narrow = all-below c.args.core.now PRIORITIES c.requires.marked; within = few-priorities c.args.core.now c.requires.tasks; places = places-new; queue = refl };
  holders = record { each = none-held };
  current = refl;
})
