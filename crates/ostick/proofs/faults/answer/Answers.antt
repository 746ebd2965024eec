use Rattle.std.proofs.Common.{◌≡◌, refl, sym, ap, ◌∙◌, lit≤}
use Rattle.osbase.specs.{declared.references.Runner.Runner, declared.statuses.Status.Status}
use Rattle.osplan.specs.declared.protection.Protection.{Protection}
use Rattle.osacts.proofs.Each.{in-words, looked, wider}
use Rattle.oscall.specs.Shutdown.{goes_down}
use Rattle.ostick.specs.Faults.{answers_fault}
use Rattle.ostick.proofs.faults.answer.Goals as goal

-- each other answer is a shutdown
other : (p : Protection) (r : Runner) (status : Status) → (p ≡ Protection.TerminateTaskIsr → ⊥) → answers_fault p r status ≡ goes_down status
other Protection.TerminateTaskIsr r status differs = absurd (differs refl)
other p r status differs = refl

pub returns-in_default : goal.returns-in_default
returns-in_default g c =
    let same = ap (λ (p : Protection). answers_fault p c.args.runner c.args.status) (sym c.protection.ensures) ∙ other c.protection.result c.args.runner c.args.status c.in_default.not-TerminateTaskIsr in
    record {
      steps = looked (in-words same c.go_down.ensures.steps);
      outbox = c.go_down.ensures.outbox;
    }

pub returns-in-TerminateTaskIsr : goal.returns-in-TerminateTaskIsr
returns-in-TerminateTaskIsr g c =
    let same = ap (λ (p : Protection). answers_fault p c.args.runner c.args.status) (sym c.protection.ensures ∙ c.in-TerminateTaskIsr.is) in
    record { steps = looked (wider (lit≤ tt) (lit≤ tt) (in-words same c.end_by_force.ensures.steps)); outbox = c.end_by_force.ensures.outbox }
