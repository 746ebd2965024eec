use Rattle.std.proofs.Common.{◌≡◌, ℕ, suc, ◌+◌, ◌-◌, ◌<◌, List, length, arith}
use Rattle.std.proofs.{lemmas.Bool.eq-eqb, lemmas.Bool.ne_eqb, lemmas.List.length-map}
use Rattle.osplan.specs.{declared.plans.Spinlock.Spinlock, Spinlocks.links_of}
use Rattle.osplan.proofs.spinlocks.comes_after.Goals as goal

links-many : (spinlocks : List Spinlock) → length (links_of spinlocks) ≡ length spinlocks
links-many spinlocks = length-map spinlocks (λ (spinlock : Spinlock). spinlock.next)

-- the links that are left once one is taken
left : (spinlocks : List Spinlock) (k : ℕ) → k < length spinlocks → suc (length spinlocks - suc k) + k ≡ length (links_of spinlocks)
left spinlocks k inside = omega (arith, inside, links-many spinlocks)

pub returns-in_default : goal.returns-in_default
returns-in_default c = rw (← c.next_of.ensures, c.in_default.is) at (c.loop-link.invariant _ (left c.args.spinlocks.now c.loop-link._link c.loop-link-test.true))

pub returns-then-next-to : goal.returns-then-next-to
returns-then-next-to c =
    rw (← c.next_of.ensures, c.in-Some.is, eq-eqb c.in-Some.next.index c.args.to.index c.if-next-to.true)
    at (c.loop-link.invariant _ (left c.args.spinlocks.now c.loop-link._link c.loop-link-test.true))

pub loop-link-preserved : goal.loop-link-preserved
loop-link-preserved c n many =
    rw (← c.next_of.ensures, c.in-Some.is, ne_eqb c.in-Some.next.index c.args.to.index c.if-next-to.false) at (c.loop-link.invariant (suc n) (omega (arith, many)))

pub returns : goal.returns
returns c = c.loop-link.invariant 0 (omega (arith, links-many c.args.spinlocks.now))
