use Rattle.std.proofs.Common.{rules, None, slice_index_or}
use Rattle.std.proofs.lemmas.List.{get_or_default}
use Rattle.std.proofs.lemmas.List.Edits.{map_over_more}
use Rattle.osbase.specs.{declared.histories.GotSpinlock.GotSpinlock, Spins.owed}
use Rattle.osgot.proofs.grants.owe_each.Goals as goal

pub loop-spinlock-preserved : goal.loop-spinlock-preserved
loop-spinlock-preserved c =
    let now = c.loop-spinlock.got in
    let at = c.loop-spinlock.spinlock-index in
    let none : GotSpinlock = record { lock = record { index = 0 }; holder = None } in
    map_over_more owed c.args.got.now now at (slice_index_or now at none) c.loop-spinlock-test.true c.loop-spinlock.invariant (get_or_default now at none (slice_index_or now at none) (search rules))
