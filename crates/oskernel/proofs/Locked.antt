-- A core gets and gives back only spinlocks that it may ask for.
use Rattle.std.proofs.Common.{◌≡◌, Bool, true, false, Option, Some, None, option_map, List, [], ◌∷◌, find, refl, ap, sym, ◌∙◌, arith}
use Rattle.std.specs.{List.list_all, Option.option_map_or}
use Rattle.std.proofs.lemmas.Bool.{and_parts, eqb-true, false≢true}
use Rattle.osbase.specs.{declared.references.Runner.Runner, declared.references.SpinlockId.SpinlockId, declared.items.Item.Item, declared.histories.Awaited.Awaited, declared.histories.GotSpinlock.GotSpinlock, declared.histories.OpenCall.OpenCall}
use Rattle.osbase.specs.History.{Entry, History, Took, course_of, open_call}
use Rattle.osbase.specs.Spins.{all_owed, got_spinlocks, is_owed, owed_by, with_spinlock, without_spinlock}
use Rattle.osplan.specs.View.{View}
use Rattle.osplan.proofs.Tests.{find-passes}
use Rattle.osstate.specs.State.{state_of}
use Rattle.osservice.proofs.{Kept.anybody, Kept.is_local, Kept.may_open, Partners.Partner, Partners.partner_of}
use Rattle.osadmit.specs.Admission.{admits, awaits_get, awaits_try, is_get_of, is_try_of}
use Rattle.oskernel.specs.{declared.wants.SpinWish.SpinWish, declared.wants.Want.Want, Step.after, Step.outbox_size}
use Rattle.oskernel.specs.Wants.{go_on_by, lock_of, want_of, want_owed}
use Rattle.oskernel.proofs.{Carried.NamesAllow, Carried.passes, Carried.replied-anybody, Holding.Holds, Holding.holds-after, Opened.Asks}

module _ (may : Partner → Bool) where
  abbrev may_get : GotSpinlock → Bool
  may_get g = may (Partner.Spinlock g.lock)

  -- Each spinlock that the core got may be asked for.
  abbrev pub Got : History → Type 0
  Got h = list_all may_get (got_spinlocks h) ≡ true

  -- Which job has a spinlock makes no difference.
  owed-passes : (r : Runner) (got : List GotSpinlock) → list_all may_get got ≡ true → list_all may_get (owed_by r got) ≡ true
  owed-passes r [] all = refl
  owed-passes r (g ∷ got) all = grind (arith, owed-passes r got, all)

  all_owed-passes : (got : List GotSpinlock) → list_all may_get got ≡ true → list_all may_get (all_owed got) ≡ true
  all_owed-passes [] all = refl
  all_owed-passes (g ∷ got) all = grind (arith, all_owed-passes got, all)

  without-passes : (l : SpinlockId) (got : List GotSpinlock) → list_all may_get got ≡ true → list_all may_get (without_spinlock l got) ≡ true
  without-passes l [] all = refl
  without-passes l (g ∷ got) all = grind (arith, without-passes l got, all)

  with-passes : (l : SpinlockId) (o : Option OpenCall) (got : List GotSpinlock) → may (Partner.Spinlock l) ≡ true → list_all may_get got ≡ true → list_all may_get (with_spinlock l o got) ≡ true
  with-passes l o got m all = grind (arith, m, all)

  got-local : (e : Entry) (h : History) → is_local anybody e ≡ true → Got h → Got (e ∷ h)
  got-local e h is p = grind (arith, owed-passes, all_owed-passes, is, p)

  got-holds : Holds may anybody anybody Got
  got-holds = record {
    local = got-local;
    asked = λ core message h m p. p;
    replied = λ core status value h m p. p;
    opened = λ call h m n p. p;
  }

  -- An open call that awaits something of a spinlock asks that spinlock.
  get-of : (l : SpinlockId) (a : Awaited) → is_get_of l a ≡ true → partner_of a ≡ Partner.Spinlock l
  get-of l (Awaited.Get k) e = λ i. Partner.Spinlock (record { index = eqb-true k.index l.index e i })
  get-of l a e = absurd (false≢true e)

  try-of : (l : SpinlockId) (a : Awaited) → is_try_of l a ≡ true → partner_of a ≡ Partner.Spinlock l
  try-of l (Awaited.Try k) e = λ i. Partner.Spinlock (record { index = eqb-true k.index l.index e i })
  try-of l a e = absurd (false≢true e)

  awaited-asked : (l : SpinlockId) (test : Awaited → Bool) → ((a : Awaited) → test a ≡ true → partner_of a ≡ Partner.Spinlock l)
      → (o : Option OpenCall) → passes o (may_open may) ≡ true → option_map_or (λ (call : OpenCall). test call.awaits) o false ≡ true → may (Partner.Spinlock l) ≡ true
  awaited-asked l test of None m e = absurd (false≢true e)
  awaited-asked l test of (Some call) m e = rw (of call.awaits e) at m

  -- The core gets what its open call awaits.
  got-took : (v : View) (h : History) (i : Item) → admits outbox_size (state_of v h) i ≡ true → Asks may h → Got h → Got (Took i ∷ h)
  got-took v h (Item.Granted l) taken asks p =
      with-passes l (open_call h) (got_spinlocks h) (awaited-asked l (is_get_of l) (get-of l) (open_call h) asks (and_parts _ (awaits_get (state_of v h) l) taken).1) p
  got-took v h (Item.Tried l true) taken asks p =
      with-passes l (open_call h) (got_spinlocks h) (awaited-asked l (is_try_of l) (try-of l) (open_call h) asks (and_parts _ (awaits_try (state_of v h) l) taken).1) p
  got-took v h (Item.Freed l) taken asks p = without-passes l (got_spinlocks h) p
  got-took v h (Item.Halt core status) taken asks p = all_owed-passes (got_spinlocks h) p
  got-took v h i taken asks p = p

  -- If the core wants something of a spinlock, it may ask for that spinlock.
  abbrev may_want : Want → Bool
  may_want (Want.Spin wish) = may (Partner.Spinlock (lock_of wish))
  may_want want = true

  owed-asked : (got : List GotSpinlock) (want : Want) → list_all may_get got ≡ true → may_want want ≡ true → may_want (want_owed got want) ≡ true
  owed-asked got want all else = by (find is_owed got) refl
    where
      by : (o : Option GotSpinlock) → find is_owed got ≡ o → may_want (option_map_or (λ (l : SpinlockId). Want.Spin (SpinWish.Free l)) (option_map (λ (g : GotSpinlock). g.lock) o) want) ≡ true
      by None found = else
      by (Some g) found = find-passes is_owed may_get got g all found

  want-asked : (v : View) (h : History) → Asks may h → Got h → may_want (want_of v h) ≡ true
  want-asked v h asks got =
      let goes : may_want (go_on_by (course_of h)) ≡ true = grind arith in
      let owed = owed-asked (got_spinlocks h) (go_on_by (course_of h)) got goes in
      grind (arith, asks, owed)

  pub wish-asked : (v : View) (h : History) (wish : SpinWish) → Asks may h → Got h → want_of v h ≡ Want.Spin wish → may (Partner.Spinlock (lock_of wish)) ≡ true
  wish-asked v h wish asks got e = sym (ap may_want e) ∙ want-asked v h asks got

  module _ (v : View) (allowed : NamesAllow v may) where
    pub got-after : (h : History) (i : Item) → admits outbox_size (state_of v h) i ≡ true → Asks may h → Got h → Got (after v h i)
    got-after h i taken asks p = holds-after v may anybody Got got-holds allowed h i (replied-anybody i) (got-took v h i taken asks p)
