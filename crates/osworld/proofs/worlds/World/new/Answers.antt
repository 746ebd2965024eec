use Rattle.std.proofs.Common.{◌≡◌, Some, is_some, List, ap, refl, sym, ◌∙◌, arith}
use Rattle.osmail.specs.Mail.{empty_mail}
use Rattle.osplan.specs.{declared.plans.Plan.Plan, Limits.sizes_of, View.core_of}
use Rattle.osplan.proofs.{Within.between, Within.cap-within, Within.limit-parts}
use Rattle.osplan.proofs.Tests.{is_some-copied}
use Rattle.osboard.specs.Boards.{first_board}
use Rattle.osrun.specs.declared.core_runs.CoreRun.{CoreRun}
use Rattle.osworld.proofs.{Places.place_by, Started.started-all, Started.started-push, Started.started-skip, worlds.World.new.Goals.then-is_some+in_ok-push, worlds.World.new.Goals.else-is_some}
use Rattle.osrun.proofs.Configured.{id_at}
use Rattle.osworld.proofs.worlds.World.new.Goals as goal

pub loop-number-preserved : goal.loop-number-preserved
loop-number-preserved c =
    let there : is_some (core_of c.args.config.now (id_at c.loop-number.number)) ≡ c.is_some.result = ap (λ (p : Plan). is_some (core_of p (id_at c.loop-number.number))) (sym c.plan-plan.ensures.value) ∙ ap is_some (sym c.core.ensures) ∙ is_some-copied c.core.result ∙ sym c.is_some.ensures in
    elim c.if-is_some.branch [
      | then-is_some+in_ok-push w ↦ rw (w.core_runs-is, w.in_ok-push.ensures.items)
          (started-push c.args.config.now c.args.stimuli.now c.loop-number.core_runs.items c.loop-number.number w.new.result c.loop-number-test.true (there ∙ w.if-is_some.true) c.loop-number.invariant
          w.new.ensures.core w.new.ensures.plan w.new.ensures.kernel w.new.ensures.stimuli w.new.ensures.items w.new.ensures.marks)
      | else-is_some w ↦ rw (w.core_runs-is)
          (started-skip c.args.config.now c.args.stimuli.now c.loop-number.core_runs.items c.loop-number.number c.loop-number-test.true (there ∙ w.if-is_some.false) c.loop-number.invariant)
    ]

pub new-requires-2 : goal.new-requires-2
new-requires-2 c =
    let plan = c.plan-plan.result.now in
    let cap = between 1 16 plan.cap (cap-within (sizes_of plan) (limit-parts plan (rw c.plan-plan.ensures.value c.plan-plan.ensures.limits)).sizes) in
    record { some = cap.0; fits = cap.1 }

pub invariant_of-result : goal.invariant_of-result
invariant_of-result c = record {
  placed = λ core below. c.places_of.ensures core below ∙ ap (λ (core_runs : List CoreRun). Some (place_by core_runs core)) c.as_slice.ensures.value;
}

pub returns : goal.returns
returns c =
    record {
      config = refl;
      plays =
          started-all c.args.config.now c.args.stimuli.now c.loop-number.core_runs.items c.loop-number.number c.in_ok-new.field-0 c.loop-number.invariant.0 c.loop-number.invariant.1 c.loop-number-test.false c.loop-number.auto.number-end
          (c.in_ok-new.ensures.mail ∙ ap (λ (p : Plan). empty_mail p.cap) c.plan-plan.ensures.value)
          (c.in_ok-new.ensures.board ∙ ap (λ (p : Plan). first_board p.master) c.plan-plan.ensures.value)
          c.in_ok-new.ensures.spins;
      reports = c.in_ok-with_capacity.ensures.items;
      room = omega (arith, c.len.ensures, c.in_ok-with_capacity.ensures.capacity);
      limits = c.plan-plan.ensures.limits;
    }
