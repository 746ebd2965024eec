use Rattle.std.proofs.Common.{◌≡◌, is_some, ap, sym, ◌∙◌}
use Rattle.osplan.specs.View.{core_of}
use Rattle.osplan.proofs.Tests.{is_some-copied}
use Rattle.osrun.proofs.{Configured.id_at, Configured.ids_below-push, Configured.ids_below-skip, cores.ids_of.Goals.then-is_some+in_ok-push, cores.ids_of.Goals.else-is_some}
use Rattle.osrun.proofs.cores.ids_of.Goals as goal

pub loop-number-preserved : goal.loop-number-preserved
loop-number-preserved c =
    let there : is_some (core_of c.args.plan.now (id_at c.loop-number.number)) ≡ c.is_some.result = ap is_some (sym c.core.ensures) ∙ is_some-copied c.core.result ∙ sym c.is_some.ensures in
    elim c.if-is_some.branch [
      | then-is_some+in_ok-push w ↦ rw (w.ids-is, w.in_ok-push.ensures.items, c.loop-number.invariant) (sym (ids_below-push c.args.plan.now c.loop-number.number c.loop-number-test.true (there ∙ w.if-is_some.true)))
      | else-is_some w ↦ rw (w.ids-is, c.loop-number.invariant) (sym (ids_below-skip c.args.plan.now c.loop-number.number c.loop-number-test.true (there ∙ w.if-is_some.false)))
    ]
