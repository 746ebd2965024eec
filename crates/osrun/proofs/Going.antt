-- A core runs until it is down or halted, and then never again. Also: what it wants for itself then.
use Rattle.std.proofs.Common.{◌≡◌, ◌∷◌, true, false, refl, arith}
use Rattle.osbase.specs.{declared.statuses.Status.Status, declared.items.Item.Item, History.History, History.Took, History.course_of, Phases.is_going}
use Rattle.osplan.specs.View.{View}
use Rattle.osstate.specs.State.{KernelState, state_of}
use Rattle.oskernel.specs.declared.wants.Want.{Want}
use Rattle.osadmit.specs.Admission.{has_asked_halt}
use Rattle.osawait.specs.Free.{may_go_on}
use Rattle.oskernel.specs.{Step.after, Step.dispatched, Wants.want_in}
use Rattle.oskernel.proofs.{Calm.Calm, Holding.kept_after}

-- If it runs after an item, it ran before.
pub going-before : (v : View) (h : History) (i : Item) → is_going (course_of (after v h i)) ≡ true → is_going (course_of h) ≡ true
going-before v h i =
    kept_after (λ (k : History). is_going (course_of k) ≡ true → is_going (course_of h) ≡ true) (λ m k p. p) (λ n k p e. grind (arith, p)) v h i (λ e. grind arith)

pub calm-goes : (v : View) (h : History) → Calm h → is_going (course_of h) ≡ true → may_go_on (state_of v h) ≡ true
calm-goes v h calm going = rw (calm.closed, calm.empty, calm.none_got, going) refl

-- Dispatch takes no core down.
pub dispatch-course : (v : View) (h : History) → course_of (dispatched v h) ≡ course_of h
dispatch-course v h = grind arith

pub drained-course : (v : View) (h : History) → course_of (after v h Item.Drained) ≡ course_of h
drained-course v h = dispatch-course v (Took Item.Drained ∷ h)

-- A core drains with stimuli left only if it is down or halted, and asks for a shutdown of all cores only if that call
-- is open.
pub drains-down : (s : KernelState) → want_in s ≡ Want.Drain → is_going s.progress.course ≡ false
drains-down s e = grind arith

pub asks-open : (s : KernelState) (status : Status) → want_in s ≡ Want.AskHalt status → has_asked_halt s ≡ true
asks-open s status e = grind arith
