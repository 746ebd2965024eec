use Rattle.osseparate.proofs.Cutting.{whole-alone}
use Rattle.osseparate.proofs.cuts.cut.Goals as goal

pub new-requires : goal.new-requires
new-requires c =
    let own = whole-alone _ _ _ _ _ _ c.plan-plan.ensures.value c.plan-plan.ensures.limits c.plan-plan.ensures.representable c.core.ensures c.in-Some.is c.is_separate_core.ensures c.if-not-is_separate_core.false in
    record { limits = rw c.in_ok-alone.ensures own.limits; representable = rw c.in_ok-alone.ensures own.representable }

pub returns-clause-again : goal.returns-clause-again
returns-clause-again c =
    let own = whole-alone _ _ _ _ _ _ c.plan-plan.ensures.value c.plan-plan.ensures.limits c.plan-plan.ensures.representable c.core.ensures c.in-Some.is c.is_separate_core.ensures c.if-not-is_separate_core.false in
    rw (c.new.ensures, c.in_ok-alone.ensures) own.separate
