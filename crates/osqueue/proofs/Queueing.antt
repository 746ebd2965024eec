-- The fields of a queue after a job came or went, and what the list of its jobs is then.
use Rattle.std.proofs.Common.{◌≡◌, inl, inr, ℕ, ◌≤◌, ◌<◌, true, false, Option, Some, None, is_some, List, [], ◌∷◌, length, refl, ap, sym, subst, ◌∙◌, arith, length-set, get_or-set_same, get_or-set_other}
use Rattle.std.specs.List.{All, Contains, slice_index, slice_set}
use Rattle.std.specs.Int.{bit_at}
use Rattle.std.proofs.lemmas.Bool.{false≢true, cases_eq, cases_lt}
use Rattle.osqueue.specs.{declared.ready.Ready.Ready, declared.ready.TheConstants.PRIORITIES}
use Rattle.osqueue.specs.Ordered.{ComesAfter, ComesBefore, IsBest, is_same, ordered, placed, precedes, without}
use Rattle.osqueue.specs.Links.{IsBefore, IsFirst, IsOnTheWay, IsQueued, IsWay, at, priority_of, stamp_of}
use Rattle.osqueue.proofs.Ordering.{all-ordered, filled, inside, is-apart, is-before, ordered-all, ordered-none, place-of, popped, taken-out}
use Rattle.osqueue.proofs.Linking.{Sets, first-out, last-out, middle-out, only-out, put-alone, put-before, put-behind}
use Rattle.osqueue.proofs.Pooling.{clears, puts, sets, some-of}

has-priority : (o : Option Ready) (x : Ready) → o ≡ Some x → priority_of o ≡ x.priority
has-priority o x e = ap priority_of e

has-stamp : (o : Option Ready) (x : Ready) → o ≡ Some x → stamp_of o ≡ x.job.stamp
has-stamp o x e = ap stamp_of e

is-used : (o : Option Ready) (x : Ready) → o ≡ Some x → is_some o ≡ true
is-used o x e = ap (λ (p : Option Ready). is_some p) e

module _ (priorities room word : ℕ) (fronts ends next : List ℕ) (pool : List (Option Ready)) (is : IsQueued priorities room word fronts ends pool next) (ends-known : length ends ≡ priorities) (next-known : length next ≡ room) where
  pub used-within : (i : ℕ) → is_some (at pool i) ≡ true → i < room
  used-within i used = omega (arith, inside pool i used, is.size)

  pub front-used : (p : ℕ) → bit_at word p ≡ 1 → is_some (at pool (slice_index fronts p)) ≡ true
  front-used p mark = let f = is.linked.first p mark in f.used

  pub front-within : (p : ℕ) → bit_at word p ≡ 1 → slice_index fronts p < room
  front-within p mark = used-within (slice_index fronts p) (front-used p mark)

  pub end-within : (p : ℕ) → bit_at word p ≡ 1 → slice_index ends p < room
  end-within p mark = let l = is.linked.last p mark in used-within (slice_index ends p) l.used

  pub mark-low : (p : ℕ) → bit_at word p ≡ 1 → p < priorities
  mark-low p mark = let f = is.linked.first p mark in omega (arith, is.low (slice_index fronts p) f.used, f.priority)

  pub empty : word ≡ 0 → ((p : ℕ) → bit_at word p ≡ 0) → ordered pool ≡ []
  empty none zeros = ordered-none pool unused
    where
      unused : (i : ℕ) → is_some (at pool i) ≡ false
      unused i = cases (at pool i) refl
        where
          cases : (o : Option Ready) → at pool i ≡ o → is_some o ≡ false
          cases None e = refl
          cases (Some x) e =
              absurd (omega (arith, zeros (priority_of (at pool i)), is.linked.marked i (is-used (at pool i) x e)))

  -- ---- a job put in

  module _ (n : ℕ) (x : Ready) (n-within : n < length pool) (blank : at pool n ≡ None) (low : x.priority < priorities) (narrow : x.priority < PRIORITIES) where
    size-kept : length (slice_set pool n (Some x)) ≡ room
    size-kept = length-set pool n (Some x) ∙ is.size

    each-below : (bound : ℕ) → ((i : ℕ) → is_some (at pool i) ≡ true → priority_of (at pool i) < bound) → x.priority < bound → (i : ℕ) → is_some (at (slice_set pool n (Some x)) i) ≡ true → priority_of (at (slice_set pool n (Some x)) i) < bound
    each-below bound old mine i used = elim (cases_eq i n) [
      | inl same ↦ omega (arith, mine, ap priority_of (ap (at (slice_set pool n (Some x))) same ∙ get_or-set_same pool n (Some x) None n-within))
      | inr other ↦ (
          let kept : at (slice_set pool n (Some x)) i ≡ at pool i = get_or-set_other pool n i (Some x) None other in
          omega (arith, ap priority_of kept, old i (sym (ap (λ (o : Option Ready). is_some o) kept) ∙ used)))
    ]

    pub listed : ((i : ℕ) → is_some (at pool i) ≡ true → priority_of (at pool i) ≡ x.priority → stamp_of (at pool i) ≡ x.job.stamp → ⊥) → ordered (slice_set pool n (Some x)) ≡ placed x (ordered pool)
    listed apart =
        filled pool n x n-within blank (λ i y e. is-apart x y (λ p s. apart i (is-used (at pool i) y e) (has-priority (at pool i) y e ∙ sym p) (has-stamp (at pool i) y e ∙ sym s)))

    pub older-all : All (ComesBefore x) (ordered pool) → (i : ℕ) → is_some (at pool i) ≡ true → priority_of (at pool i) ≡ x.priority → stamp_of (at pool i) < x.job.stamp
    older-all all i used p =
        let here = some-of (at pool i) used in
        omega (arith, has-stamp (at pool i) here.0 here.1, all-ordered (ComesBefore x) pool all i here.0 here.1 (sym (has-priority (at pool i) here.0 here.1) ∙ p))

    pub newer-all : All (ComesAfter x) (ordered pool) → (i : ℕ) → is_some (at pool i) ≡ true → priority_of (at pool i) ≡ x.priority → x.job.stamp < stamp_of (at pool i)
    newer-all all i used p =
        let here = some-of (at pool i) used in
        omega (arith, has-stamp (at pool i) here.0 here.1, all-ordered (ComesAfter x) pool all i here.0 here.1 (sym (has-priority (at pool i) here.0 here.1) ∙ p))

    pub behind : bit_at word x.priority ≡ 1 → All (ComesBefore x) (ordered pool) → IsQueued priorities room word fronts (slice_set ends x.priority n) (slice_set pool n (Some x)) (slice_set next (slice_index ends x.priority) n)
    behind mark all = record {
      size = size-kept;
      reach = is.reach;
      low = each-below priorities is.low low;
      within = each-below PRIORITIES is.within narrow;
      linked = put-behind (at pool) (at (slice_set pool n (Some x))) (slice_index next) (slice_index fronts) (slice_index ends) (bit_at word) n x (puts pool n x n-within blank) is.linked (slice_index (slice_set next (slice_index ends x.priority) n)) (slice_index (slice_set ends x.priority n)) mark (sets next (slice_index ends x.priority) n (omega (arith, end-within x.priority mark, next-known))) (sets ends x.priority n (omega (arith, low, ends-known))) (older-all all);
    }

    pub ahead : bit_at word x.priority ≡ 1 → All (ComesAfter x) (ordered pool) → IsQueued priorities room word (slice_set fronts x.priority n) ends (slice_set pool n (Some x)) (slice_set next n (slice_index fronts x.priority))
    ahead mark all = record {
      size = size-kept;
      reach = length-set fronts x.priority n ∙ is.reach;
      low = each-below priorities is.low low;
      within = each-below PRIORITIES is.within narrow;
      linked = put-before (at pool) (at (slice_set pool n (Some x))) (slice_index next) (slice_index fronts) (slice_index ends) (bit_at word) n x (puts pool n x n-within blank) is.linked (slice_index (slice_set next n (slice_index fronts x.priority))) (slice_index (slice_set fronts x.priority n)) mark (sets next n (slice_index fronts x.priority) (omega (arith, n-within, is.size, next-known))) (sets fronts x.priority n (omega (arith, low, is.reach))) (newer-all all);
    }

    pub alone : (word' : ℕ) → bit_at word x.priority ≡ 0 → bit_at word' x.priority ≡ 1 → ((q : ℕ) → (q ≡ x.priority → ⊥) → bit_at word' q ≡ bit_at word q) → IsQueued priorities room word' (slice_set fronts x.priority n) (slice_set ends x.priority n) (slice_set pool n (Some x)) next
    alone word' none here others = record {
      size = size-kept;
      reach = length-set fronts x.priority n ∙ is.reach;
      low = each-below priorities is.low low;
      within = each-below PRIORITIES is.within narrow;
      linked = put-alone (at pool) (at (slice_set pool n (Some x))) (slice_index next) (slice_index fronts) (slice_index ends) (bit_at word) n x (puts pool n x n-within blank) is.linked (slice_index (slice_set fronts x.priority n)) (slice_index (slice_set ends x.priority n)) (bit_at word') none (sets fronts x.priority n (omega (arith, low, is.reach))) (sets ends x.priority n (omega (arith, low, ends-known))) (record { here = here; kept = others });
    }

  -- ---- a job taken out

  module _ (n : ℕ) (x : Ready) (here : at pool n ≡ Some x) where
    used-n : is_some (at pool n) ≡ true
    used-n = is-used (at pool n) x here

    priority-n : priority_of (at pool n) ≡ x.priority
    priority-n = has-priority (at pool n) x here

    n-inside : n < length pool
    n-inside = inside pool n used-n

    x-low : x.priority < priorities
    x-low = omega (arith, is.low n used-n, priority-n)

    less : (bound : ℕ) → ((i : ℕ) → is_some (at pool i) ≡ true → priority_of (at pool i) < bound) → (i : ℕ) → is_some (at (slice_set pool n None) i) ≡ true → priority_of (at (slice_set pool n None) i) < bound
    less bound old i used = elim (cases_eq i n) [
      | inl same ↦ absurd (false≢true (sym (ap (λ (o : Option Ready). is_some o) (ap (at (slice_set pool n None)) same ∙ get_or-set_same pool n None None n-inside)) ∙ used))
      | inr other ↦ (
          let kept : at (slice_set pool n None) i ≡ at pool i = get_or-set_other pool n i None None other in
          omega (arith, ap priority_of kept, old i (sym (ap (λ (o : Option Ready). is_some o) kept) ∙ used)))
    ]

    only-one : (i : ℕ) (y : Ready) → (i ≡ n → ⊥) → at pool i ≡ Some y → is_same x y ≡ false
    only-one i y other e =
        is-apart x y (λ p s. other (is.linked.apart i n (is-used (at pool i) y e) used-n (has-priority (at pool i) y e ∙ sym p ∙ sym priority-n) (has-stamp (at pool i) y e ∙ sym s ∙ sym (has-stamp (at pool n) x here))))

    pub out : ordered (slice_set pool n None) ≡ without x (ordered pool)
    out = taken-out pool n x here only-one

    pub without-only : (word' : ℕ) → n ≡ slice_index fronts x.priority → n ≡ slice_index ends x.priority → bit_at word' x.priority ≡ 0 → ((q : ℕ) → (q ≡ x.priority → ⊥) → bit_at word' q ≡ bit_at word q) → IsQueued priorities room word' fronts ends (slice_set pool n None) next
    without-only word' front-n end-n none others = record {
      size = length-set pool n None ∙ is.size;
      reach = is.reach;
      low = less priorities is.low;
      within = less PRIORITIES is.within;
      linked = only-out (at pool) (at (slice_set pool n None)) (slice_index next) (slice_index fronts) (slice_index ends) (bit_at word) n (clears pool n n-inside) is.linked used-n (front-n ∙ ap (slice_index fronts) (sym priority-n)) (end-n ∙ ap (slice_index ends) (sym priority-n)) (bit_at word') (subst (λ (p : ℕ). Sets (bit_at word) (bit_at word') p 0) (sym priority-n) (record { here = none; kept = others }));
    }

    pub without-first : n ≡ slice_index fronts x.priority → (n ≡ slice_index ends x.priority → ⊥) → IsQueued priorities room word (slice_set fronts x.priority (slice_index next n)) ends (slice_set pool n None) next
    without-first front-n not-end = record {
      size = length-set pool n None ∙ is.size;
      reach = length-set fronts x.priority (slice_index next n) ∙ is.reach;
      low = less priorities is.low;
      within = less PRIORITIES is.within;
      linked = first-out (at pool) (at (slice_set pool n None)) (slice_index next) (slice_index fronts) (slice_index ends) (bit_at word) n (clears pool n n-inside) is.linked used-n (front-n ∙ ap (slice_index fronts) (sym priority-n)) (λ e. not-end (e ∙ ap (slice_index ends) priority-n)) (slice_index (slice_set fronts x.priority (slice_index next n))) (subst (λ (p : ℕ). Sets (slice_index fronts) (slice_index (slice_set fronts x.priority (slice_index next n))) p (slice_index next n)) (sym priority-n) (sets fronts x.priority (slice_index next n) (omega (arith, x-low, is.reach))));
    }

    module _ (b : ℕ) (before : IsBefore pool next x b) (next-b : slice_index next b ≡ n) where
      b-priority : priority_of (at pool b) ≡ priority_of (at pool n)
      b-priority = before.way.priority ∙ sym priority-n

      b-older : stamp_of (at pool b) < stamp_of (at pool n)
      b-older = omega (arith, before.way.older, has-stamp (at pool n) x here)

      pub without-last : n ≡ slice_index ends x.priority → IsQueued priorities room word fronts (slice_set ends x.priority b) (slice_set pool n None) next
      without-last end-n = record {
        size = length-set pool n None ∙ is.size;
        reach = is.reach;
        low = less priorities is.low;
        within = less PRIORITIES is.within;
        linked = last-out (at pool) (at (slice_set pool n None)) (slice_index next) (slice_index fronts) (slice_index ends) (bit_at word) n (clears pool n n-inside) is.linked used-n b before.way.used b-priority b-older next-b (end-n ∙ ap (slice_index ends) (sym priority-n)) (slice_index (slice_set ends x.priority b)) (subst (λ (p : ℕ). Sets (slice_index ends) (slice_index (slice_set ends x.priority b)) p b) (sym priority-n) (sets ends x.priority b (omega (arith, x-low, ends-known))));
      }

      pub without-middle : (n ≡ slice_index ends x.priority → ⊥) → IsQueued priorities room word fronts ends (slice_set pool n None) (slice_set next b (slice_index next n))
      without-middle not-end = record {
        size = length-set pool n None ∙ is.size;
        reach = is.reach;
        low = less priorities is.low;
        within = less PRIORITIES is.within;
        linked = middle-out (at pool) (at (slice_set pool n None)) (slice_index next) (slice_index fronts) (slice_index ends) (bit_at word) n (clears pool n n-inside) is.linked used-n b before.way.used b-priority b-older next-b (λ e. not-end (e ∙ ap (slice_index ends) priority-n)) (slice_index (slice_set next b (slice_index next n))) (sets next b (slice_index next n) (omega (arith, used-within b before.way.used, next-known)));
      }

    -- ---- the first of the greatest priority

    module _ (front-n : n ≡ slice_index fronts x.priority) (top : (q : ℕ) → x.priority < q → bit_at word q ≡ 0) where
      first-n : IsFirst (at pool) x.priority (slice_index fronts x.priority)
      first-n = is.linked.first x.priority (subst (λ (p : ℕ). bit_at word p ≡ 1) priority-n (is.linked.marked n used-n))

      no-greater : (i : ℕ) (y : Ready) → at pool i ≡ Some y → y.priority ≤ x.priority
      no-greater i y e = elim (cases_lt x.priority y.priority) [
        | inl above ↦ (
            let mark : bit_at word y.priority ≡ 1 = subst (λ (p : ℕ). bit_at word p ≡ 1) (has-priority (at pool i) y e) (is.linked.marked i (is-used (at pool i) y e)) in
            absurd (omega (arith, mark, top y.priority above)))
        | inr low ↦ low
      ]

      no-older : (i : ℕ) (y : Ready) → at pool i ≡ Some y → y.priority ≡ x.priority → x.job.stamp ≤ y.job.stamp
      no-older i y e same =
          omega (arith, has-stamp (at pool i) y e, has-stamp (at pool n) x here, ap (λ (j : ℕ). stamp_of (at pool j)) front-n, first-n.oldest i (is-used (at pool i) y e) (has-priority (at pool i) y e ∙ same))

      later : (i : ℕ) (y : Ready) → (i ≡ n → ⊥) → at pool i ≡ Some y → precedes x y ≡ true
      later i y other e = is-before x y (no-greater i y e) (λ p. omega (arith, no-older i y e (sym p), differ p))
        where
          differ : x.priority ≡ y.priority → x.job.stamp ≡ y.job.stamp → ⊥
          differ p s =
              other (is.linked.apart i n (is-used (at pool i) y e) used-n (has-priority (at pool i) y e ∙ sym p ∙ sym priority-n) (has-stamp (at pool i) y e ∙ sym s ∙ sym (has-stamp (at pool n) x here)))

      behind-n : (i : ℕ) (y : Ready) → at (slice_set pool n None) i ≡ Some y → y.priority ≡ x.priority → x.job.stamp < y.job.stamp
      behind-n i y e p = elim (cases_eq i n) [
        | inl same ↦ absurd (false≢true (sym (is-gone i same) ∙ is-used (at (slice_set pool n None) i) y e))
        | inr other ↦ strict i y other (sym (get_or-set_other pool n i None None other) ∙ e) p
      ]
        where
          is-gone : (i : ℕ) → i ≡ n → is_some (at (slice_set pool n None) i) ≡ false
          is-gone i same = ap (λ (o : Option Ready). is_some o) (ap (at (slice_set pool n None)) same ∙ get_or-set_same pool n None None n-inside)

          strict : (i : ℕ) (y : Ready) → (i ≡ n → ⊥) → at pool i ≡ Some y → y.priority ≡ x.priority → x.job.stamp < y.job.stamp
          strict i y other e p =
              let differ : x.job.stamp ≡ y.job.stamp → ⊥ = (λ s. other (is.linked.apart i n (is-used (at pool i) y e) used-n (has-priority (at pool i) y e ∙ p ∙ sym priority-n) (has-stamp (at pool i) y e ∙ sym s ∙ sym (has-stamp (at pool n) x here)))) in
              omega (arith, no-older i y e p, differ)

      pub is-ahead : All (ComesAfter x) (ordered (slice_set pool n None))
      is-ahead = ordered-all (ComesAfter x) (slice_set pool n None) behind-n

      pub is-popped : ordered pool ≡ x ∷ ordered (slice_set pool n None)
      is-popped = popped pool n x here only-one later

      pub is-best : IsBest x (ordered pool)
      is-best = record {
        there = subst (λ (l : List Ready). Contains l x) (sym is-popped) (0, omega arith, refl);
        greatest = ordered-all (λ (y : Ready). y.priority ≤ x.priority) pool no-greater;
        oldest = ordered-all (λ (y : Ready). y.priority ≡ x.priority → x.job.stamp ≤ y.job.stamp) pool no-older;
      }

  -- ---- a job that is asked for

  module _ (x : Ready) (m : ℕ) (there : at pool m ≡ Some x) where
    used-m : is_some (at pool m) ≡ true
    used-m = is-used (at pool m) x there

    priority-m : priority_of (at pool m) ≡ x.priority
    priority-m = has-priority (at pool m) x there

    stamp-m : stamp_of (at pool m) ≡ x.job.stamp
    stamp-m = has-stamp (at pool m) x there

    pub marked-m : bit_at word x.priority ≡ 1
    marked-m = subst (λ (p : ℕ). bit_at word p ≡ 1) priority-m (is.linked.marked m used-m)

    pub low-m : x.priority < priorities
    low-m = omega (arith, is.low m used-m, priority-m)

    -- the job's place is known by its priority and stamp
    pub is-place : (i : ℕ) → is_some (at pool i) ≡ true → priority_of (at pool i) ≡ x.priority → stamp_of (at pool i) ≡ x.job.stamp → at pool i ≡ Some x
    is-place i used p s =
        ap (at pool) (is.linked.apart i m used used-m (p ∙ sym priority-m) (s ∙ sym stamp-m)) ∙ there

    pub leads : IsWay pool next x
    leads i way =
        let f = is.linked.follows i way.used not-end in
        record {
          used = f.used;
          priority = f.priority ∙ way.priority;
          later = f.later;
          most = omega (arith, stamp-m, f.oldest m used-m (priority-m ∙ sym way.priority) (omega (arith, way.older, stamp-m)));
        }
      where
        not-end : i ≡ slice_index ends (priority_of (at pool i)) → ⊥
        not-end e =
            let l = is.linked.last x.priority marked-m in
            let here : stamp_of (at pool i) ≡ stamp_of (at pool (slice_index ends x.priority)) = ap (λ (j : ℕ). stamp_of (at pool j)) (e ∙ ap (slice_index ends) way.priority) in
            omega (arith, way.older, here, stamp-m, l.newest m used-m priority-m)

    pub starts : (stamp_of (at pool (slice_index fronts x.priority)) ≡ x.job.stamp → ⊥) → IsOnTheWay pool x (slice_index fronts x.priority)
    starts other =
        let f = is.linked.first x.priority marked-m in
        record { used = f.used; priority = f.priority; older = omega (arith, other, stamp-m, f.oldest m used-m priority-m) }

    pub front-is : stamp_of (at pool (slice_index fronts x.priority)) ≡ x.job.stamp → at pool (slice_index fronts x.priority) ≡ Some x
    front-is s = let f = is.linked.first x.priority marked-m in is-place (slice_index fronts x.priority) f.used f.priority s

  module _ (x : Ready) (listed-x : Contains (ordered pool) x) where
    here : (i : ℕ) × (at pool i ≡ Some x)
    here = place-of pool x listed-x

    pub asked-mark : bit_at word x.priority ≡ 1
    asked-mark = marked-m x here.0 here.1

    pub asked-low : x.priority < priorities
    asked-low = low-m x here.0 here.1

    pub asked-narrow : x.priority < PRIORITIES
    asked-narrow = omega (arith, is.within here.0 (is-used (at pool here.0) x here.1), has-priority (at pool here.0) x here.1)

    pub asked-way : IsWay pool next x
    asked-way = leads x here.0 here.1

    pub asked-start : (y : Ready) → at pool (slice_index fronts x.priority) ≡ Some y → (y.job.stamp ≡ x.job.stamp → ⊥) → IsOnTheWay pool x (slice_index fronts x.priority)
    asked-start y e other =
        starts x here.0 here.1 (λ s. other (sym (has-stamp (at pool (slice_index fronts x.priority)) y e) ∙ s))

    pub asked-front : (y : Ready) → at pool (slice_index fronts x.priority) ≡ Some y → y.job.stamp ≡ x.job.stamp → at pool (slice_index fronts x.priority) ≡ Some x
    asked-front y e s =
        front-is x here.0 here.1 (has-stamp (at pool (slice_index fronts x.priority)) y e ∙ s)

    pub asked-behind : (b : ℕ) → IsBefore pool next x b → at pool (slice_index next b) ≡ Some x
    asked-behind b before =
        is-place x here.0 here.1 (slice_index next b) before.used before.priority before.stamp

  module _ (p n : ℕ) (x : Ready) (mark : bit_at word p ≡ 1) (front-n : n ≡ slice_index fronts p) (there : at pool n ≡ Some x) where
    p-is : x.priority ≡ p
    p-is =
        let f = is.linked.first p mark in
        sym (has-priority (at pool n) x there) ∙ ap (λ (i : ℕ). priority_of (at pool i)) front-n ∙ f.priority

    front-x : n ≡ slice_index fronts x.priority
    front-x = front-n ∙ ap (slice_index fronts) (sym p-is)

    pub pop-only : (word' : ℕ) → n ≡ slice_index ends p → bit_at word' p ≡ 0 → ((q : ℕ) → (q ≡ p → ⊥) → bit_at word' q ≡ bit_at word q) → IsQueued priorities room word' fronts ends (slice_set pool n None) next
    pop-only word' end-n none others =
        without-only n x there word' front-x (end-n ∙ ap (slice_index ends) (sym p-is)) (ap (bit_at word') p-is ∙ none) (λ q other. others q (λ e. other (e ∙ sym p-is)))

    pub pop-first : (n ≡ slice_index ends p → ⊥) → IsQueued priorities room word (slice_set fronts p (slice_index next n)) ends (slice_set pool n None) next
    pop-first not-end =
        subst (λ (q : ℕ). IsQueued priorities room word (slice_set fronts q (slice_index next n)) ends (slice_set pool n None) next) p-is
        (without-first n x there front-x (λ e. not-end (e ∙ ap (slice_index ends) p-is)))

    module _ (top : (q : ℕ) → p < q → bit_at word q ≡ 0) where
      top-x : (q : ℕ) → x.priority < q → bit_at word q ≡ 0
      top-x q above = top q (omega (arith, above, p-is))

      pub pop-list : ordered pool ≡ x ∷ ordered (slice_set pool n None)
      pop-list = is-popped n x there front-x top-x

      pub pop-ahead : All (ComesAfter x) (ordered (slice_set pool n None))
      pop-ahead = is-ahead n x there front-x top-x

      pub pop-best : IsBest x (ordered pool)
      pop-best = is-best n x there front-x top-x
