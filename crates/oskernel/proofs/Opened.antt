-- Whatever a core takes, its open call awaits the answer of a partner that it may ask.
use Rattle.std.proofs.Common.{◌≡◌, Bool, true, ◌∷◌, arith}
use Rattle.osbase.specs.{declared.references.CoreId.CoreId, declared.histories.OpenCall.OpenCall, declared.items.Item.Item}
use Rattle.osbase.specs.History.{Entry, History, Took, open_call}
use Rattle.osplan.specs.View.{View}
use Rattle.osservice.proofs.{Kept.anybody, Kept.is_local, Kept.may_open, Partners.Partner}
use Rattle.oskernel.specs.Step.{after}
use Rattle.oskernel.proofs.{Carried.NamesAllow, Carried.passes, Carried.replied-anybody, Holding.Holds, Holding.holds-after}

-- An open call that passes a test passes it until it is closed, for it is never changed.
module _ (test : OpenCall → Bool) where
  abbrev pub Opens : History → Type 0
  Opens h = passes (open_call h) test ≡ true

  pub opens-local : (names : CoreId → Bool) (e : Entry) (h : History) → is_local names e ≡ true → Opens h → Opens (e ∷ h)
  opens-local names e h is p = grind (arith, is, p)

  pub opens-took : (i : Item) (h : History) → Opens h → Opens (Took i ∷ h)
  opens-took i h p = grind (arith, p)

module _ (may : Partner → Bool) where
  abbrev pub Asks : History → Type 0
  Asks h = Opens (may_open may) h

  holds : Holds may anybody anybody Asks
  holds = record {
    local = opens-local (may_open may) anybody;
    asked = λ core message h m p. p;
    replied = λ core status value h m p. p;
    opened = λ call h m n p. m;
  }

  module _ (v : View) (allowed : NamesAllow v may) where
    pub asks-after : (h : History) (i : Item) → Asks h → Asks (after v h i)
    asks-after h i p = holds-after v may anybody Asks holds allowed h i (replied-anybody i) (opens-took (may_open may) i h p)
