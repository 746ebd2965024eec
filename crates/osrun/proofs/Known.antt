-- The spinlocks that a turn requests have numbers in range.
use Rattle.std.proofs.Common.{IfSome, IsTrue, Option, arith}
use Rattle.osbase.specs.declared.items.Stimulus.{Stimulus}
use Rattle.osplan.specs.View.{View}
use Rattle.oskernel.specs.{declared.wants.Want.Want, Wants.is_want_known}
use Rattle.osrun.specs.{declared.requests.Request.Request, Requests.is_request_known, Requests.own_request}

abbrev pub IsKnown : Option Request → Type 0
IsKnown o = IfSome o (λ request. IsTrue (is_request_known request))

-- If the spinlock that a core wants has a number in range, so has the spinlock that its own turn requests.
pub own-known : (v : View) (next : Option Stimulus) (want : Want) → IsTrue (is_want_known want) → IsKnown (own_request v next want)
own-known v next want known = grind arith
