-- No spinlock is twice among those that a core got, so there is room for all; and this stays so.
use Rattle.std.proofs.Common.{◌≡◌, ◌&&◌, ◌||◌, ℕ, suc, ◌≤◌, ◌<◌, nat_eq, nat_lt, Bool, true, false, cond, not, IfSome, Some, option_map, List, [], ◌∷◌, ◌++◌, length, map, take, drop, refl, ap, sym, subst, ◌∙◌, arith}
use Rattle.std.specs.List.{find, refill}
use Rattle.std.proofs.{Math.Seq.take-append_seam, lemmas.List.length-map}
use Rattle.std.proofs.lemmas.Bool.{and_from, and_parts, eqb-true, lt-ltb, ltb-true, not-true, not_from_false, or_from, or_parts}
use Rattle.osbase.specs.{declared.references.Runner.Runner, declared.references.SpinlockId.SpinlockId, declared.histories.GotSpinlock.GotSpinlock, declared.limits.TheConstants.SPINLOCKS}
use Rattle.osbase.specs.Spins.{all_owed, has_spinlock, is_got_by, is_owed, newest_owed, owed, owed_by, same_spinlock, without_spinlock}
use Rattle.osbase.proofs.Few.{few, number_count}
use Rattle.osgot.specs.Grants.{are_apart}

-- ---- what `are_apart` says of the first spinlock and of the others

pub record StandsApart (g : GotSpinlock) (got : List GotSpinlock) : Type 0 where
  pub known : g.lock.index < SPINLOCKS
  pub other : has_spinlock g.lock got ≡ false
  pub rest : are_apart got ≡ true

pub parts : (g : GotSpinlock) (got : List GotSpinlock) → are_apart (g ∷ got) ≡ true → StandsApart g got
parts g got apart =
    let both = and_parts (nat_lt g.lock.index SPINLOCKS) _ apart in
    let others = and_parts (not (has_spinlock g.lock got)) (are_apart got) both.1 in
    record { known = ltb-true g.lock.index SPINLOCKS both.0; other = not-true (has_spinlock g.lock got) others.0; rest = others.1 }

pub together : (g : GotSpinlock) (got : List GotSpinlock) → g.lock.index < SPINLOCKS → has_spinlock g.lock got ≡ false → are_apart got ≡ true → are_apart (g ∷ got) ≡ true
together g got known other rest =
    and_from (nat_lt g.lock.index SPINLOCKS) _ (lt-ltb g.lock.index SPINLOCKS known) (and_from (not (has_spinlock g.lock got)) (are_apart got) (not_from_false (has_spinlock g.lock got) other) rest)

-- ---- as numbers

abbrev numbers : List GotSpinlock → List ℕ
numbers [] = []
numbers (g ∷ got) = g.lock.index ∷ numbers got

as-many : (got : List GotSpinlock) → length (numbers got) ≡ length got
as-many [] = refl
as-many (g ∷ got) = ap suc (as-many got)

not-among : (n : ℕ) (l : SpinlockId) (got : List GotSpinlock) → l.index ≡ n → has_spinlock l got ≡ false → number_count n (numbers got) ≡ 0
not-among n l [] same none = refl
not-among n l (g ∷ got) same none =
    let both = or_parts (same_spinlock g.lock l) (has_spinlock l got) none in
    rw (subst (λ (m : ℕ). nat_eq g.lock.index m ≡ false) same both.0) (not-among n l got same both.1)

once : (n : ℕ) (got : List GotSpinlock) → are_apart got ≡ true → number_count n (numbers got) ≤ 1
once n [] apart = omega arith
once n (g ∷ got) apart = by (nat_eq g.lock.index n) refl (once n got (parts g got apart).rest)
  where
    by : (b : Bool) → nat_eq g.lock.index n ≡ b → number_count n (numbers got) ≤ 1 → cond b (suc (number_count n (numbers got))) (number_count n (numbers got)) ≤ 1
    by true e rest = omega (arith, not-among n g.lock got (eqb-true g.lock.index n e) (parts g got apart).other)
    by false e rest = rest

none-past : (n : ℕ) (got : List GotSpinlock) → SPINLOCKS ≤ n → are_apart got ≡ true → number_count n (numbers got) ≡ 0
none-past n [] past apart = refl
none-past n (g ∷ got) past apart = by (nat_eq g.lock.index n) refl (none-past n got past (parts g got apart).rest)
  where
    by : (b : Bool) → nat_eq g.lock.index n ≡ b → number_count n (numbers got) ≡ 0 → cond b (suc (number_count n (numbers got))) (number_count n (numbers got)) ≡ 0
    by true e rest = absurd (omega (arith, past, (parts g got apart).known, eqb-true g.lock.index n e))
    by false e rest = rest

pub bounded : (got : List GotSpinlock) → are_apart got ≡ true → length got ≤ SPINLOCKS
bounded got apart = omega (arith, as-many got, few SPINLOCKS (numbers got) (λ n past. none-past n got past apart) (λ n. once n got apart))

-- There is room for a spinlock that is not among them.
pub room : (g : GotSpinlock) (got : List GotSpinlock) → g.lock.index < SPINLOCKS → has_spinlock g.lock got ≡ false → are_apart got ≡ true → length got < SPINLOCKS
room g got known other apart = omega (arith, bounded (g ∷ got) (together g got known other apart))

-- ---- one given back

still-not : (k l : SpinlockId) (got : List GotSpinlock) → has_spinlock k got ≡ false → has_spinlock k (without_spinlock l got) ≡ false
still-not k l [] none = refl
still-not k l (g ∷ got) none = by (same_spinlock g.lock l) (still-not k l got both.1)
  where
    both : (same_spinlock g.lock k ≡ false) × (has_spinlock k got ≡ false)
    both = or_parts (same_spinlock g.lock k) (has_spinlock k got) none

    by : (b : Bool) → has_spinlock k (without_spinlock l got) ≡ false → has_spinlock k (cond b got (g ∷ without_spinlock l got)) ≡ false
    by true rest = both.1
    by false rest = or_from (same_spinlock g.lock k) _ both.0 rest

pub freed : (l : SpinlockId) (got : List GotSpinlock) → are_apart got ≡ true → are_apart (without_spinlock l got) ≡ true
freed l [] apart = refl
freed l (g ∷ got) apart = by (same_spinlock g.lock l) (freed l got (parts g got apart).rest)
  where
    by : (b : Bool) → are_apart (without_spinlock l got) ≡ true → are_apart (cond b got (g ∷ without_spinlock l got)) ≡ true
    by true rest = (parts g got apart).rest
    by false rest = together g (without_spinlock l got) (parts g got apart).known (still-not g.lock l got (parts g got apart).other) rest

-- ---- a change that keeps the spinlocks

module _ (f : GotSpinlock → GotSpinlock) (same : (g : GotSpinlock) → (f g).lock ≡ g.lock) where
  has-same : (l : SpinlockId) (got : List GotSpinlock) → has_spinlock l (map f got) ≡ has_spinlock l got
  has-same l [] = refl
  has-same l (g ∷ got) = λ i. same_spinlock (same g i) l || has-same l got i

  apart-same : (got : List GotSpinlock) → are_apart (map f got) ≡ are_apart got
  apart-same [] = refl
  apart-same (g ∷ got) = ap (λ (l : SpinlockId). nat_lt l.index SPINLOCKS && (not (has_spinlock l (map f got)) && are_apart (map f got))) (same g)
      ∙ (λ i. nat_lt g.lock.index SPINLOCKS && (not (has-same g.lock got i) && apart-same got i))

pub owed-each : (got : List GotSpinlock) → are_apart got ≡ true → are_apart (all_owed got) ≡ true
owed-each got apart = apart-same owed (λ g. refl) got ∙ apart

pub owed-of : (r : Runner) (got : List GotSpinlock) → are_apart got ≡ true → are_apart (owed_by r got) ≡ true
owed-of r got apart = apart-same (λ (g : GotSpinlock). cond (is_got_by r g) (owed g) g) (λ g. by (is_got_by r g) g) got ∙ apart
  where
    by : (b : Bool) (g : GotSpinlock) → (cond b (owed g) g).lock ≡ g.lock
    by true g = refl
    by false g = refl

-- ---- the one whose release is owed first

pub known-owed : (got : List GotSpinlock) → are_apart got ≡ true → IfSome (newest_owed got) (λ l. l.index < SPINLOCKS)
known-owed [] apart = tt
known-owed (g ∷ got) apart = by (is_owed g) (known-owed got (parts g got apart).rest)
  where
    by : (b : Bool) → IfSome (newest_owed got) (λ l. l.index < SPINLOCKS) → IfSome (option_map (λ (x : GotSpinlock). x.lock) (cond b (Some g) (find is_owed got))) (λ l. l.index < SPINLOCKS)
    by true rest = (parts g got apart).known
    by false rest = rest

-- ---- each in turn

-- All are in the list again once they are written back.
pub written-back : (f : GotSpinlock → GotSpinlock) (got now all : List GotSpinlock) → now ≡ map f got → got ≡ all → refill (length all) all now ≡ map f all
written-back f got now all is same =
    ap (refill (length all) all) (is ∙ ap (map f) same)
    ∙ ap (λ (n : ℕ). take n (map f all ++ drop (length (map f all)) all)) (sym (length-map all f))
    ∙ take-append_seam (map f all) (drop (length (map f all)) all)
