-- A pool's places that have no job, and lists changed at one place.
use Rattle.std.proofs.Common.{◌≡◌, inl, inr, ℕ, ◌+◌, ◌-◌, ◌<◌, true, false, Option, Some, None, is_some, List, [], length, replicate, refl, ap, sym, subst, ◌∙◌, arith, get_or-set_same, get_or-set_other, length-set}
use Rattle.std.specs.{List.slice_index, List.slice_set, Int.bit_at}
use Rattle.std.proofs.{lemmas.Bool.false≢true, lemmas.Bool.cases_eq, lemmas.Bool.cases_lt, lemmas.List.length-replicate, lemmas.List.get_or-replicate, lemmas.List.get_or_past, lemmas.Nat.Bits.bit_at-zero}
use Rattle.osqueue.specs.{declared.ready.Ready.Ready, Ordered.ordered, Links.IsPool, Links.IsQueued, Links.at}
use Rattle.osqueue.proofs.Ordering.{inside, length-cleared, length-filled, ordered-none}
use Rattle.osqueue.proofs.Linking.{Clears, Puts, Sets}

pub some-of : (o : Option Ready) → is_some o ≡ true → (x : Ready) × (o ≡ Some x)
some-of None e = absurd (false≢true e)
some-of (Some x) e = (x, refl)

-- ---- lists changed at one place

pub sets : (xs : List ℕ) (i v : ℕ) → i < length xs → Sets (slice_index xs) (slice_index (slice_set xs i v)) i v
sets xs i v h = record {
  here = get_or-set_same xs i v 0 h;
  kept = λ k other. get_or-set_other xs i k v 0 other;
}

pub puts : (places : List (Option Ready)) (n : ℕ) (x : Ready) → n < length places → at places n ≡ None → Puts (at places) (at (slice_set places n (Some x))) n x
puts places n x h blank = record {
  blank = blank;
  here = get_or-set_same places n (Some x) None h;
  kept = λ i other. get_or-set_other places n i (Some x) None other;
}

pub clears : (places : List (Option Ready)) (n : ℕ) → n < length places → Clears (at places) (at (slice_set places n None)) n
clears places n h = record {
  here = get_or-set_same places n None None h;
  kept = λ i other. get_or-set_other places n i None None other;
}

-- ---- the places that have none

pub none-at : (n i : ℕ) → at (replicate n None) i ≡ None
none-at n i = elim (cases_lt i n) [
  | inl h ↦ get_or-replicate n i None None h
  | inr h ↦ get_or_past (replicate n None) i None (omega (arith, length-replicate {A = Option Ready} n None, h))
]

none-used : (n i : ℕ) → is_some (at (replicate n None) i) ≡ false
none-used n i = ap (λ (o : Option Ready). is_some o) (none-at n i)

pub none-ordered : (n : ℕ) → ordered (replicate n None) ≡ []
none-ordered n = ordered-none (replicate n None) (none-used n)

pub pool-begun : (room : ℕ) (blanks : List ℕ) → ((k : ℕ) → k < room → slice_index blanks k ≡ k) → IsPool room (replicate room None) blanks room
pool-begun room blanks each = record {
  size = length-replicate room None;
  inside = λ k h. omega (arith, each k h, h);
  blank = λ k h. none-at room (slice_index blanks k);
  distinct = λ k m h i e. omega (arith, each k h, each m i, e);
  total = omega (arith, ap (λ (l : List Ready). length l) (none-ordered room));
}

pub pool-filled : (room : ℕ) (places : List (Option Ready)) (blanks : List ℕ) (free : ℕ) (x : Ready) → IsPool room places blanks free → 0 < free → IsPool room (slice_set places (slice_index blanks (free - 1)) (Some x)) blanks (free - 1)
pool-filled room places blanks free x is some = record {
  size = length-set places (slice_index blanks (free - 1)) (Some x) ∙ is.size;
  inside = λ k h. is.inside k (omega (arith, h));
  blank = λ k h. (
      let other : slice_index blanks k ≡ slice_index blanks (free - 1) → ⊥ = (λ e. let same : k ≡ free - 1 = is.distinct k (free - 1) (omega (arith, h)) (omega (arith, some)) e in omega (arith, same, h)) in
      get_or-set_other places (slice_index blanks (free - 1)) (slice_index blanks k) (Some x) None other ∙ is.blank k (omega (arith, h)));
  distinct = λ k m h i e. is.distinct k m (omega (arith, h)) (omega (arith, i)) e;
  total = (
      let last : free - 1 < free = omega (arith, some) in
      let within : slice_index blanks (free - 1) < length places = omega (arith, is.inside (free - 1) last, is.size) in
      omega (arith, length-filled places (slice_index blanks (free - 1)) x within (is.blank (free - 1) last), is.total, some));
}

pub has-free : (room : ℕ) (places : List (Option Ready)) (blanks : List ℕ) (free n : ℕ) → IsPool room places blanks free → is_some (at places n) ≡ true → free < room
has-free room places blanks free n is used =
    let here = some-of (at places n) used in
    omega (arith, length-cleared places n here.0 here.1, is.total)

pub pool-cleared : (room : ℕ) (places : List (Option Ready)) (blanks : List ℕ) (free n : ℕ) → IsPool room places blanks free → length blanks ≡ room → is_some (at places n) ≡ true → IsPool room (slice_set places n None) (slice_set blanks free n) (free + 1)
pool-cleared room places blanks free n is known used = record {
  size = length-set places n None ∙ is.size;
  inside = λ k h. elim (cases_eq k free) [
    | inl same ↦ subst (λ (j : ℕ). j < room) (sym (ap (slice_index (slice_set blanks free n)) same ∙ top)) (omega (arith, inside places n used, is.size))
    | inr other ↦ subst (λ (j : ℕ). j < room) (sym (below k other)) (is.inside k (omega (arith, h, other)))
  ];
  blank = λ k h. elim (cases_eq k free) [
    | inl same ↦ ap (at (slice_set places n None)) (ap (slice_index (slice_set blanks free n)) same ∙ top) ∙ get_or-set_same places n None None (inside places n used)
    | inr other ↦ ap (at (slice_set places n None)) (below k other) ∙ get_or-set_other places n (slice_index blanks k) None None (not-n k (omega (arith, h, other))) ∙ is.blank k (omega (arith, h, other))
  ];
  distinct = λ k m h i e. elim (cases_eq k free) [
    | inl same ↦ elim (cases_eq m free) [
      | inl too ↦ same ∙ sym too
      | inr other ↦ absurd (not-n m (omega (arith, i, other)) (sym (below m other) ∙ sym e ∙ ap (slice_index (slice_set blanks free n)) same ∙ top))
    ]
    | inr other ↦ elim (cases_eq m free) [
      | inl same ↦ absurd (not-n k (omega (arith, h, other)) (sym (below k other) ∙ e ∙ ap (slice_index (slice_set blanks free n)) same ∙ top))
      | inr too ↦ is.distinct k m (omega (arith, h, other)) (omega (arith, i, too)) (sym (below k other) ∙ e ∙ below m too)
    ]
  ];
  total = (let here = some-of (at places n) used in omega (arith, length-cleared places n here.0 here.1, is.total));
}
  where
    top : slice_index (slice_set blanks free n) free ≡ n
    top = get_or-set_same blanks free n 0 (omega (arith, known, has-free room places blanks free n is used))

    below : (k : ℕ) → (k ≡ free → ⊥) → slice_index (slice_set blanks free n) k ≡ slice_index blanks k
    below k other = get_or-set_other blanks free k n 0 other

    not-n : (k : ℕ) → k < free → slice_index blanks k ≡ n → ⊥
    not-n k h e = false≢true (sym (ap (λ (o : Option Ready). is_some o) (sym (ap (at places) e) ∙ is.blank k h)) ∙ used)

-- ---- a queue with no job

pub queue-begun : (priorities room : ℕ) (word : ℕ) (fronts ends next : List ℕ) (pool : List (Option Ready)) → word ≡ 0 → length fronts ≡ priorities → pool ≡ replicate room None → IsQueued priorities room word fronts ends pool next
queue-begun priorities room word fronts ends next pool none reach empty = record {
  size = ap (λ (ps : List (Option Ready)). length ps) empty ∙ length-replicate room None;
  reach = reach;
  low = λ i used. absurd (unused i used);
  within = λ i used. absurd (unused i used);
  linked = record {
    marked = λ i used. absurd (unused i used);
    first = λ p mark. absurd (unmarked p mark);
    last = λ p mark. absurd (unmarked p mark);
    follows = λ i used out. absurd (unused i used);
    apart = λ i k used there p s. absurd (unused i used);
  };
}
  where
    unused : (i : ℕ) → is_some (at pool i) ≡ true → ⊥
    unused i used = false≢true (sym (none-used room i) ∙ sym (ap (λ (ps : List (Option Ready)). is_some (at ps i)) empty) ∙ used)

    unmarked : (p : ℕ) → bit_at word p ≡ 1 → ⊥
    unmarked p mark = let zeros : bit_at word p ≡ 0 = ap (λ (w : ℕ). bit_at w p) none ∙ bit_at-zero p in omega (arith, zeros, mark)
