-- Lists of ready jobs in their order: a job put in, and one taken out.
use Rattle.std.proofs.Common.{◌≡◌, inl, inr, ℕ, zero, suc, ◌≤◌, ◌<◌, ◌&&◌, nat_eq, nat_lt, Bool, true, false, cond, Option, Some, None, is_some, List, [], ◌∷◌, length, refl, ap, sym, subst, ◌∙◌, arith, get_or-set_same, get_or-set_other, length-set}
use Rattle.std.specs.List.{All, Contains, slice_set}
use Rattle.std.proofs.lemmas.Bool.{false≢true, true≢false, eq-eqb, and_from, cases_eq, cases_lt}
use Rattle.std.proofs.{lemmas.Bool.Decides.nat_tests, lemmas.List.set-set, lemmas.List.set-get_or, lemmas.List.get_or_past}
use Rattle.std.proofs.lemmas.List.Elements.{All-nil, All-cons, All-head, All-tail, All-contains}
use Rattle.osqueue.specs.{declared.ready.Ready.Ready, Links.at}
use Rattle.osqueue.specs.Ordered.{is_same, ordered, placed, precedes, without}

-- ---- the order

-- the order of two jobs, from their priorities and their stamps as numbers
abbrev goes : ℕ → ℕ → ℕ → ℕ → Bool
goes a s b t = cond (nat_eq a b) (nat_lt s t) (nat_lt b a)

asymmetric-by : (a s b t : ℕ) → goes a s b t ≡ true → goes b t a s ≡ true → ⊥
asymmetric-by a s b t e f = grind (arith, nat_tests)

transitive-by : (a s b t c u : ℕ) → goes a s b t ≡ true → goes b t c u ≡ true → goes a s c u ≡ false → ⊥
transitive-by a s b t c u e f g = grind (arith, nat_tests)

total-by : (a s b t : ℕ) → (nat_eq a b && nat_eq s t) ≡ false → goes a s b t ≡ false → goes b t a s ≡ false → ⊥
total-by a s b t e f g = grind (arith, nat_tests)

apart-by : (a s b t : ℕ) → (a ≡ b → s ≡ t → ⊥) → (nat_eq a b && nat_eq s t) ≡ false
apart-by a s b t apart = grind (arith, nat_tests)

before-by : (a s b t : ℕ) → b ≤ a → (a ≡ b → s < t) → goes a s b t ≡ true
before-by a s b t greater older = grind (arith, nat_tests)

asymmetric : (x y : Ready) → precedes x y ≡ true → precedes y x ≡ true → ⊥
unfolding precedes
asymmetric x y e f = asymmetric-by x.priority x.job.stamp y.priority y.job.stamp e f

transitive : (x y z : Ready) → precedes x y ≡ true → precedes y z ≡ true → precedes x z ≡ false → ⊥
unfolding precedes
transitive x y z e f g = transitive-by x.priority x.job.stamp y.priority y.job.stamp z.priority z.job.stamp e f g

total : (x y : Ready) → is_same x y ≡ false → precedes x y ≡ false → precedes y x ≡ false → ⊥
unfolding precedes is_same
total x y apart e f = total-by x.priority x.job.stamp y.priority y.job.stamp apart e f

pub same-itself : (x : Ready) → is_same x x ≡ true
unfolding is_same
same-itself x = and_from (nat_eq x.priority x.priority) (nat_eq x.job.stamp x.job.stamp) (eq-eqb x.priority x.priority refl) (eq-eqb x.job.stamp x.job.stamp refl)

pub is-apart : (x y : Ready) → (x.priority ≡ y.priority → x.job.stamp ≡ y.job.stamp → ⊥) → is_same x y ≡ false
unfolding is_same
is-apart x y apart = apart-by x.priority x.job.stamp y.priority y.job.stamp apart

pub is-before : (x y : Ready) → y.priority ≤ x.priority → (x.priority ≡ y.priority → x.job.stamp < y.job.stamp) → precedes x y ≡ true
unfolding precedes
is-before x y greater older = before-by x.priority x.job.stamp y.priority y.job.stamp greater older

-- ---- one job put in before another

pub crossed : (x y : Ready) (l : List Ready) → is_same x y ≡ false → placed x (placed y l) ≡ placed y (placed x l)
crossed x y [] apart = by (precedes x y) (precedes y x) refl refl
  where
    by : (a b : Bool) → precedes x y ≡ a → precedes y x ≡ b → cond a (x ∷ y ∷ []) (y ∷ x ∷ []) ≡ cond b (y ∷ x ∷ []) (x ∷ y ∷ [])
    by true true e f = absurd (asymmetric x y e f)
    by true false e f = refl
    by false true e f = refl
    by false false e f = absurd (total x y apart e f)
crossed x y (z ∷ zs) apart = by (precedes x z) (precedes y z) (precedes x y) (precedes y x) refl refl refl refl (crossed x y zs apart)
  where
    by : (a b c d : Bool) → precedes x z ≡ a → precedes y z ≡ b → precedes x y ≡ c → precedes y x ≡ d → placed x (placed y zs) ≡ placed y (placed x zs)
        → placed x (cond b (y ∷ z ∷ zs) (z ∷ placed y zs)) ≡ placed y (cond a (x ∷ z ∷ zs) (z ∷ placed x zs))
    by true true true true e f g h rest = absurd (asymmetric x y g h)
    by true true true false e f g h rest = simp (e, f, g, h)
    by true true false true e f g h rest = simp (e, f, g, h)
    by true true false false e f g h rest = absurd (total x y apart g h)
    by true false c true e f g h rest = absurd (transitive y x z h e f)
    by true false c false e f g h rest = simp (e, f, h)
    by false true true d e f g h rest = absurd (transitive x y z g f e)
    by false true false d e f g h rest = simp (e, f, g)
    by false false c d e f g h rest = simp (e, f) (ap (λ (l : List Ready). z ∷ l) rest)

pub length-placed : (x : Ready) (l : List Ready) → length (placed x l) ≡ suc (length l)
length-placed x [] = refl
length-placed x (y ∷ ys) = by (precedes x y) (length-placed x ys)
  where
    by : (b : Bool) → length (placed x ys) ≡ suc (length ys) → length (cond b (x ∷ y ∷ ys) (y ∷ placed x ys)) ≡ suc (suc (length ys))
    by true rest = refl
    by false rest = ap suc rest

-- ---- what holds of each

pub placed-all : (P : Ready → Type 0) (x : Ready) (l : List Ready) → P x → All P l → All P (placed x l)
placed-all P x [] mine all = All-cons P x [] mine all
placed-all P x (y ∷ ys) mine all = by (precedes x y) (placed-all P x ys mine (All-tail P y ys all))
  where
    by : (b : Bool) → All P (placed x ys) → All P (cond b (x ∷ y ∷ ys) (y ∷ placed x ys))
    by true rest = All-cons P x (y ∷ ys) mine all
    by false rest = All-cons P y (placed x ys) (All-head P y ys all) rest

pub all-placed : (P : Ready → Type 0) (x : Ready) (l : List Ready) → All P (placed x l) → P x × All P l
all-placed P x [] all = (All-head P x [] all, All-nil P)
all-placed P x (y ∷ ys) all = by (precedes x y) all (λ later. all-placed P x ys later)
  where
    by : (b : Bool) → All P (cond b (x ∷ y ∷ ys) (y ∷ placed x ys)) → (All P (placed x ys) → P x × All P ys) → P x × All P (y ∷ ys)
    by true all rest = (All-head P x (y ∷ ys) all, All-tail P x (y ∷ ys) all)
    by false all rest =
        let later = rest (All-tail P y (placed x ys) all) in
        (later.0, All-cons P y ys (All-head P y (placed x ys) all) later.1)

pub all-ordered : (P : Ready → Type 0) (places : List (Option Ready)) → All P (ordered places) → (i : ℕ) (x : Ready) → at places i ≡ Some x → P x
all-ordered P [] all i x e = cc
all-ordered P (None ∷ places) all zero x e = cc
all-ordered P (None ∷ places) all (suc i) x e = all-ordered P places all i x e
all-ordered P (Some y ∷ places) all zero x e = let same : y ≡ x = cc in subst P same (all-placed P y (ordered places) all).0
all-ordered P (Some y ∷ places) all (suc i) x e = all-ordered P places (all-placed P y (ordered places) all).1 i x e

pub ordered-all : (P : Ready → Type 0) (places : List (Option Ready)) → ((i : ℕ) (x : Ready) → at places i ≡ Some x → P x) → All P (ordered places)
ordered-all P [] each = All-nil P
ordered-all P (None ∷ places) each = ordered-all P places (λ i x e. each (suc i) x e)
ordered-all P (Some y ∷ places) each = placed-all P y (ordered places) (each zero y refl) (ordered-all P places (λ i x e. each (suc i) x e))

pub ordered-none : (places : List (Option Ready)) → ((i : ℕ) → is_some (at places i) ≡ false) → ordered places ≡ []
ordered-none [] none = refl
ordered-none (None ∷ places) none = ordered-none places (λ i. none (suc i))
ordered-none (Some y ∷ places) none = absurd (true≢false (none zero))

-- A listed job has a place.
pub place-of : (places : List (Option Ready)) (x : Ready) → Contains (ordered places) x → (i : ℕ) × (at places i ≡ Some x)
place-of places x there = All-contains HasPlace (ordered places) x (ordered-all HasPlace places (λ i y e. (i, e))) there
  where
    HasPlace : Ready → Type 0
    HasPlace y = (i : ℕ) × (at places i ≡ Some y)

-- ---- a place filled, and one cleared

pub inside : (places : List (Option Ready)) (i : ℕ) → is_some (at places i) ≡ true → i < length places
inside places i used = elim (cases_lt i (length places)) [
  | inl h ↦ h
  | inr h ↦ absurd (false≢true (sym (ap (λ (o : Option Ready). is_some o) (get_or_past places i None h)) ∙ used))
]

pub length-filled : (places : List (Option Ready)) (n : ℕ) (x : Ready) → n < length places → at places n ≡ None → length (ordered (slice_set places n (Some x))) ≡ suc (length (ordered places))
length-filled [] n x h e = absurd (omega (arith, h))
length-filled (None ∷ places) zero x h e = length-placed x (ordered places)
length-filled (Some y ∷ places) zero x h e = cc
length-filled (None ∷ places) (suc n) x h e = length-filled places n x (omega (arith, h)) e
length-filled (Some y ∷ places) (suc n) x h e =
    length-placed y (ordered (slice_set places n (Some x))) ∙ ap suc (length-filled places n x (omega (arith, h)) e) ∙ sym (ap suc (length-placed y (ordered places)))

pub filled : (places : List (Option Ready)) (n : ℕ) (x : Ready) → n < length places → at places n ≡ None → ((i : ℕ) (y : Ready) → at places i ≡ Some y → is_same x y ≡ false) → ordered (slice_set places n (Some x)) ≡ placed x (ordered places)
filled [] n x h e apart = absurd (omega (arith, h))
filled (None ∷ places) zero x h e apart = refl
filled (Some y ∷ places) zero x h e apart = cc
filled (None ∷ places) (suc n) x h e apart = filled places n x (omega (arith, h)) e (λ i y f. apart (suc i) y f)
filled (Some y ∷ places) (suc n) x h e apart =
    ap (placed y) (filled places n x (omega (arith, h)) e (λ i y f. apart (suc i) y f)) ∙ sym (crossed x y (ordered places) (apart zero y refl))

module _ (places : List (Option Ready)) (n : ℕ) (x : Ready) (here : at places n ≡ Some x) where
  within : n < length places
  within = inside places n (ap (λ (o : Option Ready). is_some o) here)

  back : slice_set (slice_set places n None) n (Some x) ≡ places
  back = set-set places n None (Some x) ∙ ap (λ (o : Option Ready). slice_set places n o) (sym here) ∙ set-get_or places n None

  cleared-here : at (slice_set places n None) n ≡ None
  cleared-here = get_or-set_same places n None None within

  pub cleared-other : (i : ℕ) → (i ≡ n → ⊥) → at (slice_set places n None) i ≡ at places i
  cleared-other i other = get_or-set_other places n i None None other

  pub length-cleared : suc (length (ordered (slice_set places n None))) ≡ length (ordered places)
  length-cleared =
      sym (length-filled (slice_set places n None) n x (omega (arith, within, length-set places n None)) cleared-here) ∙ ap (λ (ps : List (Option Ready)). length (ordered ps)) back

  -- no other job has this priority and stamp
  module _ (apart : (i : ℕ) (y : Ready) → (i ≡ n → ⊥) → at places i ≡ Some y → is_same x y ≡ false) where
    others : (i : ℕ) (y : Ready) → at (slice_set places n None) i ≡ Some y → is_same x y ≡ false
    others i y e = elim (cases_eq i n) [
      | inl same ↦ let gone : at (slice_set places n None) i ≡ None = ap (at (slice_set places n None)) same ∙ cleared-here in absurd (let never : None ≡ Some y = sym gone ∙ e in cc)
      | inr other ↦ apart i y other (sym (cleared-other i other) ∙ e)
    ]

    pub put-back : ordered places ≡ placed x (ordered (slice_set places n None))
    put-back =
        ap ordered (sym back) ∙ filled (slice_set places n None) n x (omega (arith, within, length-set places n None)) cleared-here others

-- ---- the first job, and any

pub placed-first : (x : Ready) (l : List Ready) → All (λ (y : Ready). precedes x y ≡ true) l → placed x l ≡ x ∷ l
placed-first x [] all = refl
placed-first x (y ∷ ys) all =
    ap (λ (b : Bool). cond b (x ∷ y ∷ ys) (y ∷ placed x ys)) (All-head (λ (z : Ready). precedes x z ≡ true) y ys all)

pub without-placed : (x : Ready) (l : List Ready) → All (λ (y : Ready). is_same x y ≡ false) l → without x (placed x l) ≡ l
without-placed x [] all = ap (λ (b : Bool). cond b [] (x ∷ [])) (same-itself x)
without-placed x (y ∷ ys) all =
    by (precedes x y) (without-placed x ys (All-tail (λ (z : Ready). is_same x z ≡ false) y ys all))
  where
    by : (b : Bool) → without x (placed x ys) ≡ ys → without x (cond b (x ∷ y ∷ ys) (y ∷ placed x ys)) ≡ y ∷ ys
    by true rest = ap (λ (c : Bool). cond c (y ∷ ys) (x ∷ without x (y ∷ ys))) (same-itself x)
    by false rest =
        ap (λ (c : Bool). cond c (placed x ys) (y ∷ without x (placed x ys))) (All-head (λ (z : Ready). is_same x z ≡ false) y ys all)
        ∙ ap (λ (l : List Ready). y ∷ l) rest

module _ (places : List (Option Ready)) (n : ℕ) (x : Ready) (here : at places n ≡ Some x) (apart : (i : ℕ) (y : Ready) → (i ≡ n → ⊥) → at places i ≡ Some y → is_same x y ≡ false) where
  pub taken-out : ordered (slice_set places n None) ≡ without x (ordered places)
  taken-out =
      sym (without-placed x (ordered (slice_set places n None)) (ordered-all (λ (y : Ready). is_same x y ≡ false) (slice_set places n None) (others places n x here apart)))
      ∙ ap (without x) (sym (put-back places n x here apart))

  pub popped : ((i : ℕ) (y : Ready) → (i ≡ n → ⊥) → at places i ≡ Some y → precedes x y ≡ true) → ordered places ≡ x ∷ ordered (slice_set places n None)
  popped first =
      put-back places n x here apart
      ∙ placed-first x (ordered (slice_set places n None)) (ordered-all (λ (y : Ready). precedes x y ≡ true) (slice_set places n None) behind)
    where
      behind : (i : ℕ) (y : Ready) → at (slice_set places n None) i ≡ Some y → precedes x y ≡ true
      behind i y e = elim (cases_eq i n) [
        | inl same ↦ let gone : at (slice_set places n None) i ≡ None = ap (at (slice_set places n None)) same ∙ cleared-here places n x here in absurd (let never : None ≡ Some y = sym gone ∙ e in cc)
        | inr other ↦ first i y other (sym (cleared-other places n x here i other) ∙ e)
      ]
