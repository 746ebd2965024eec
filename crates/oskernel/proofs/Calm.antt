-- A core whose scripts and alarms name no other core's objects, and that takes no mail, keeps no call open and posts
-- nothing.
use native.Mathlib.Omega.{arith}
use Rattle.std.proofs.Common.{Bool, ◌≡◌, true, false, None, [], ◌∷◌, refl}
use Rattle.osbase.specs.{declared.references.CoreId.CoreId, declared.items.Item.Item, Spins.got_spinlocks}
use Rattle.osbase.specs.History.{Entry, History, Took, open_call, outbox}
use Rattle.osplan.specs.View.{View}
use Rattle.osservice.proofs.Kept.{anybody, is_local, nobody}
use Rattle.osstate.specs.State.{state_of}
use Rattle.osawait.specs.Free.{is_settled}
use Rattle.oskernel.specs.Step.{after}
use Rattle.oskernel.proofs.{Carried.NamesAllow, Holding.holds-after, Holding.holds-local, Stages.is_mail}

-- No call is open, nothing waits in the outbox, and no spinlock was got.
pub record Calm (h : History) : Type 0 where
  pub closed : open_call h ≡ None
  pub empty : outbox h ≡ []
  pub none_got : got_spinlocks h ≡ []

pub settled : (v : View) (h : History) → Calm h → is_settled (state_of v h) ≡ true
settled v h calm = rw (calm.closed, calm.empty, calm.none_got) refl

pub calm-local : (names : CoreId → Bool) (e : Entry) (h : History) → is_local names e ≡ true → Calm h → Calm (e ∷ h)
calm-local names e h is p = record { closed = grind (arith, is, p.closed); empty = grind (arith, is, p.empty); none_got = grind (arith, is, p.none_got) }

pub calm-took : (i : Item) (h : History) → is_mail i ≡ false → Calm h → Calm (Took i ∷ h)
calm-took i h none p = record { closed = grind (arith, none, p.closed); empty = grind (arith, none, p.empty); none_got = grind (arith, none, p.closed, p.none_got) }

pub calm-after : (v : View) → NamesAllow v nobody → (h : History) (i : Item) → is_mail i ≡ false → Calm h → Calm (after v h i)
calm-after v allowed h i none calm =
    holds-after v nobody nobody Calm (holds-local anybody Calm (calm-local anybody)) allowed h i (grind (arith, none)) (calm-took i h none calm)
