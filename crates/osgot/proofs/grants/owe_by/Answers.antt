use Rattle.std.proofs.Common.{rules, None, ap, cond, slice_index_or, slice_set, ◌∙◌}
use Rattle.std.proofs.lemmas.List.{get_or_default}
use Rattle.std.proofs.lemmas.List.Edits.{map_over_more}
use Rattle.osbase.specs.{declared.histories.GotSpinlock.GotSpinlock, Spins.is_got_by, Spins.owed}
use Rattle.osgot.proofs.grants.owe_by.Goals as goal

pub loop-spinlock-preserved : goal.loop-spinlock-preserved
loop-spinlock-preserved c =
    let now = c.loop-spinlock.got in
    let at = c.loop-spinlock.spinlock-index in
    let none : GotSpinlock = record { lock = record { index = 0 }; holder = None } in
    let f = λ (g : GotSpinlock). cond (is_got_by c.args.runner g) (owed g) g in
    ap (slice_set now at) c.holder_without-spinlock.ensures ∙ map_over_more f c.args.got.now now at (slice_index_or now at none) c.loop-spinlock-test.true c.loop-spinlock.invariant (get_or_default now at none (slice_index_or now at none) (search rules))
