-- Whose job has each spinlock.
use Rattle.std.proofs.Common.{◌≡◌, ◌&&◌, ◌||◌, Bool, true, false, not, cond, Option, Some, None, option_map, List, [], ◌∷◌, map, refl, ap, sym, ◌∙◌, arith}
use Rattle.std.specs.{List.list_any, Option.option_map_or}
use Rattle.std.proofs.{lemmas.Bool.and_parts, lemmas.Bool.not-true, lemmas.Bool.Decides.nat_tests}
use Rattle.osbase.specs.{declared.items.Item.Item, declared.marks.Mark.Mark, declared.references.Runner.Runner, declared.references.SpinlockId.SpinlockId, declared.histories.GotSpinlock.GotSpinlock, declared.histories.OpenCall.OpenCall}
use Rattle.osbase.specs.History.{Entry, History, Note, Noted, Printed, Took, WentDown, open_call, same_runner}
use Rattle.osbase.specs.Spins.{all_owed, got_spinlocks, has_spinlock, owed_by, same_spinlock, with_spinlock, without_spinlock}
use Rattle.osplan.specs.View.{View}
use Rattle.osstate.specs.State.{state_of}
use Rattle.osadmit.specs.Admission.{admits, is_get_of, is_try_of}
use Rattle.oskernel.specs.Step.{outbox_size, solo_from}
use Rattle.oslaws.specs.Spinlocks.{is_granted, unfreed}
use Rattle.oslaws.specs.Holders.{granted_to, grants, holder_by, makes_owed, since_grant}
use Rattle.oslaws.proofs.Once.{Apart}
use Rattle.oslaws.proofs.Granted.{Right, locks-unfreed, by-number, spin-tells, spins}
use Rattle.oslaws.proofs.Granted as spinlocks

-- ---- the holder of a spinlock among these

abbrev holder_in : SpinlockId → List GotSpinlock → Option Runner
holder_in l [] = None
holder_in l (g ∷ got) = cond (same_spinlock g.lock l) g.holder (holder_in l got)

owed-none : (l : SpinlockId) (got : List GotSpinlock) → holder_in l (all_owed got) ≡ None
owed-none l [] = refl
owed-none l (g ∷ got) = grind (arith, owed-none l got)

without-same : (k l : SpinlockId) (got : List GotSpinlock) → same_spinlock k l ≡ false → holder_in l (without_spinlock k got) ≡ holder_in l got
without-same k l [] other = refl
without-same k l (g ∷ got) other = grind (arith, nat_tests, without-same k l got, other)

-- A spinlock is added by the call that awaits it, unless the core has the spinlock: then it was granted before.
with-holder : (k l : SpinlockId) (got : List GotSpinlock) (calling : Option OpenCall) (awaits : OpenCall → Bool) (has granted : Bool) (before : Option Runner) → option_map_or awaits calling false ≡ true
    → has_spinlock k got ≡ has → (same_spinlock k l ≡ true → has ≡ granted) → (granted ≡ true → holder_in l got ≡ before) → (same_spinlock k l || granted) ≡ true
    → holder_in l (with_spinlock k calling got) ≡ cond (same_spinlock k l && not granted) (option_map (λ (call : OpenCall). call.runner) calling) before
with-holder k l got calling awaits has granted before awaited is alike same known = grind (arith, awaited, is, alike, same, known)

-- A job of this runner gives up its spinlocks when it ends.
module _ (r : Runner) where
  abbrev given_up : Option Runner → Option Runner
  given_up o = cond (option_map_or (same_runner r) o false) None o

  owed_by-given_up : (l : SpinlockId) (got : List GotSpinlock) → holder_in l (owed_by r got) ≡ given_up (holder_in l got)
  owed_by-given_up l [] = refl
  owed_by-given_up l (g ∷ got) = grind (arith, owed_by-given_up l got)

  given_up-owing : (owing : Bool) (asker : Option Runner) → given_up (cond owing None asker) ≡ cond (option_map_or (same_runner r) asker false || owing) None asker
  given_up-owing owing asker = grind arith

-- ---- in each history

pub record Held (h : History) : Type 0 where
  pub right : Right h
  pub held : (l : SpinlockId) → is_granted l h ≡ true → holder_in l (got_spinlocks h) ≡ holder_by l h

module _ (h : History) (l : SpinlockId) where
  abbrev asker : Option Runner
  asker = granted_to l h

  abbrev owing : Bool
  owing = list_any (makes_owed asker) (since_grant l h)

  abbrev caller : Option Runner
  caller = option_map (λ (call : OpenCall). call.runner) (open_call h)

  ended : (r : Runner) → holder_in l (got_spinlocks h) ≡ holder_by l h → holder_in l (owed_by r (got_spinlocks h)) ≡ cond (option_map_or (same_runner r) asker false || owing) None asker
  ended r same = owed_by-given_up r l (got_spinlocks h) ∙ ap (given_up r) same ∙ given_up-owing r owing asker

  -- an entry that makes no release owed, and one that may be a grant
  stays : holder_in l (got_spinlocks h) ≡ holder_by l h → holder_in l (got_spinlocks h) ≡ cond (option_map_or (λ (r : Runner). false) asker false || owing) None asker
  stays same = grind (arith, same)

  next : (e : Entry) → makes_owed asker e ≡ false → holder_by l (e ∷ h) ≡ cond (grants l e h) caller (holder_by l h)
  next e plain = by (grants l e h)
    where
      by : (b : Bool) → cond (list_any (makes_owed (cond b caller asker)) (cond b [] (e ∷ since_grant l h))) None (cond b caller asker) ≡ cond b caller (cond owing None asker)
      by true = refl
      by false = ap (λ (b : Bool). cond (b || owing) None asker) plain

nothing : (o : Option Runner) → option_map_or (λ (r : Runner). false) o false ≡ false
nothing o = grind arith

printed : (m : Mark) (h : History) → Held h → Held (Printed m ∷ h)
printed m h p = record { right = spinlocks.printed m h p.right; held = λ l is. of l m (p.held l is) }
  where
    of : (l : SpinlockId) (m : Mark) → holder_in l (got_spinlocks h) ≡ holder_by l h → holder_in l (got_spinlocks (Printed m ∷ h)) ≡ holder_by l (Printed m ∷ h)
    of l (Mark.Terminated t) same = ended h l (Runner.Task t) same
    of l (Mark.IsrLeft i) same = ended h l (Runner.Isr i) same
    of l m same = stays h l same

noted : (n : Note) (h : History) → Held h → Held (Noted n ∷ h)
noted n h p = record { right = spinlocks.noted n h p.right; held = λ l is. of l n (p.held l is) }
  where
    of : (l : SpinlockId) (n : Note) → holder_in l (got_spinlocks h) ≡ holder_by l h → holder_in l (got_spinlocks (Noted n ∷ h)) ≡ holder_by l (Noted n ∷ h)
    of l WentDown same = owed-none l (got_spinlocks h)
    of l n same = stays h l same

took : (v : View) (h : History) (i : Item) → admits outbox_size (state_of v h) i ≡ true → Held h → Held (Took i ∷ h)
took v h i may p = record { right = spinlocks.took v h i may p.right; held = λ l. of l i may (p.held l) }
  where
    gets : (l k : SpinlockId) (awaits : OpenCall → Bool) → option_map_or awaits (open_call h) false ≡ true → (is_granted l h ≡ true → holder_in l (got_spinlocks h) ≡ holder_by l h) → (same_spinlock k l || is_granted l h) ≡ true
        → holder_in l (with_spinlock k (open_call h) (got_spinlocks h)) ≡ cond (same_spinlock k l && not (is_granted l h)) (caller h l) (holder_by l h)
    gets l k awaits awaited same is =
        with-holder k l (got_spinlocks h) (open_call h) awaits (is_granted k h) (is_granted l h) (holder_by l h) awaited (p.right.each k)
        (λ e. ap (λ (x : SpinlockId). is_granted x h) (by-number k l e)) same is

    of : (l : SpinlockId) (i : Item) → admits outbox_size (state_of v h) i ≡ true → (is_granted l h ≡ true → holder_in l (got_spinlocks h) ≡ holder_by l h)
        → is_granted l (Took i ∷ h) ≡ true → holder_in l (got_spinlocks (Took i ∷ h)) ≡ holder_by l (Took i ∷ h)
    of l (Item.Granted k) may same is = gets l k (λ (call : OpenCall). is_get_of k call.awaits) (and_parts _ _ may).1 same is ∙ sym (next h l (Took (Item.Granted k)) (nothing (asker h l)))
    of l (Item.Tried k true) may same is = gets l k (λ (call : OpenCall). is_try_of k call.awaits) (and_parts _ _ may).1 same is ∙ sym (next h l (Took (Item.Tried k true)) (nothing (asker h l)))
    of l (Item.Freed k) may same is =
        let parts = and_parts (not (same_spinlock k l)) (is_granted l h) is in
        without-same k l (got_spinlocks h) (not-true (same_spinlock k l) parts.0) ∙ stays h l (same parts.1)
    of l (Item.Halt core status) may same is = owed-none l (got_spinlocks h)
    of l i may same is = stays h l (same is)

pub always-held : (v : View) (items : List Item) (h next : History) → solo_from v h items ≡ Some next → Held h → Held next
always-held v = spinlocks.always Held printed noted v (took v)

pub held-first : Held []
held-first = record { right = spinlocks.right-first; held = λ l is. cc }

as-held : (holder : SpinlockId → Option Runner) (got : List GotSpinlock) → Apart spins got → ((l : SpinlockId) → has_spinlock l got ≡ true → holder_in l got ≡ holder l)
    → got ≡ map (λ (l : SpinlockId). record { lock = l; holder = holder l }) (map (λ (g : GotSpinlock). g.lock) got)
as-held holder [] apart held = refl
as-held holder (g ∷ got) apart held =
    let front : g.holder ≡ holder g.lock = grind (arith, held g.lock) in
    let rest = as-held holder got apart.1 (λ l there. grind (arith, spin-tells g.lock l, held l, apart.0, there)) in
    λ i. record { lock = g.lock; holder = front i } ∷ rest i

pub holders : (h : History) → Held h → got_spinlocks h ≡ map (λ (l : SpinlockId). record { lock = l; holder = holder_by l h }) (unfreed [] h)
holders h p =
    as-held (λ (l : SpinlockId). holder_by l h) (got_spinlocks h) p.right.apart (λ l there. p.held l (sym (p.right.each l) ∙ there))
    ∙ ap (map (λ (l : SpinlockId). record { lock = l; holder = holder_by l h })) (locks-unfreed h p.right)
