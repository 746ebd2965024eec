-- What the links are after a job was put into a place, or taken out of one.
use Rattle.std.proofs.Common.{◌≡◌, ◌⊎◌, inl, inr, ℕ, ◌≤◌, ◌<◌, true, Option, Some, None, is_some, refl, ap, sym, subst, ◌∙◌, arith}
use Rattle.std.proofs.lemmas.Bool.{false≢true, cases_eq, cases_order}
use Rattle.osqueue.specs.declared.ready.Ready.{Ready}
use Rattle.osqueue.specs.Links.{IsFirst, IsLast, IsNext, IsLinked, priority_of, stamp_of}

-- A function changed at one number.
pub record Sets (f g : ℕ → ℕ) (i v : ℕ) : Type 0 where
  pub here : g i ≡ v
  pub kept : (k : ℕ) → (k ≡ i → ⊥) → g k ≡ f k

-- A place that had a job before, and has it still.
record Stays (old new : ℕ → Option Ready) (i : ℕ) : Type 0 where
  before : is_some (old i) ≡ true
  after : is_some (new i) ≡ true
  priority : priority_of (new i) ≡ priority_of (old i)
  stamp : stamp_of (new i) ≡ stamp_of (old i)

stays : (old new : ℕ → Option Ready) (i : ℕ) → new i ≡ old i → is_some (old i) ≡ true → Stays old new i
stays old new i same used = record {
  before = used;
  after = ap (λ (o : Option Ready). is_some o) same ∙ used;
  priority = ap priority_of same;
  stamp = ap stamp_of same;
}

-- ---- a job put in

pub record Puts (old new : ℕ → Option Ready) (n : ℕ) (x : Ready) : Type 0 where
  pub blank : old n ≡ None
  pub here : new n ≡ Some x
  pub kept : (i : ℕ) → (i ≡ n → ⊥) → new i ≡ old i

record IsNew (new : ℕ → Option Ready) (i n : ℕ) (x : Ready) : Type 0 where
  place : i ≡ n
  priority : priority_of (new i) ≡ x.priority
  stamp : stamp_of (new i) ≡ x.job.stamp

module _ (old new : ℕ → Option Ready) (n : ℕ) (x : Ready) (puts : Puts old new n x) where
  pub not-blank : (i : ℕ) → is_some (old i) ≡ true → i ≡ n → ⊥
  not-blank i used same =
      false≢true (sym (ap (λ (j : ℕ). is_some (old j)) same ∙ ap (λ (o : Option Ready). is_some o) puts.blank) ∙ used)

  kept : (i : ℕ) → is_some (old i) ≡ true → Stays old new i
  kept i used = stays old new i (puts.kept i (not-blank i used)) used

  put-there : is_some (new n) ≡ true
  put-there = ap (λ (o : Option Ready). is_some o) puts.here

  is-new : (i : ℕ) → i ≡ n → IsNew new i n x
  is-new i same = record {
    place = same;
    priority = ap (λ (j : ℕ). priority_of (new j)) same ∙ ap priority_of puts.here;
    stamp = ap (λ (j : ℕ). stamp_of (new j)) same ∙ ap stamp_of puts.here;
  }

  split : (i : ℕ) → is_some (new i) ≡ true → IsNew new i n x ⊎ Stays old new i
  split i used = elim (cases_eq i n) [
    | inl same ↦ inl (is-new i same)
    | inr other ↦ inr (stays old new i (puts.kept i other) (sym (ap (λ (o : Option Ready). is_some o) (puts.kept i other)) ∙ used))
  ]

module _ (old new : ℕ → Option Ready) (next front end marks : ℕ → ℕ) (n : ℕ) (x : Ready) (puts : Puts old new n x) (links : IsLinked old next front end marks) where
  -- an old job stays first or last of a queue, if the new job is not first or last of it
  first-kept : (p : ℕ) → marks p ≡ 1 → (x.priority ≡ p → stamp_of (old (front p)) ≤ x.job.stamp) → IsFirst new p (front p)
  first-kept p m low =
      let f = links.first p m in
      let k = kept old new n x puts (front p) f.used in
      record {
        used = k.after;
        priority = k.priority ∙ f.priority;
        oldest = λ i used e. elim (split old new n x puts i used) [
          | inl fresh ↦ (let mine : x.priority ≡ p = sym fresh.priority ∙ e in omega (arith, low mine))
          | inr o ↦ (let mine : priority_of (old i) ≡ p = sym o.priority ∙ e in omega (arith, f.oldest i o.before mine))
        ];
      }

  last-kept : (p : ℕ) → marks p ≡ 1 → (x.priority ≡ p → x.job.stamp ≤ stamp_of (old (end p))) → IsLast new p (end p)
  last-kept p m high =
      let l = links.last p m in
      let k = kept old new n x puts (end p) l.used in
      record {
        used = k.after;
        priority = k.priority ∙ l.priority;
        newest = λ i used e. elim (split old new n x puts i used) [
          | inl fresh ↦ (let mine : x.priority ≡ p = sym fresh.priority ∙ e in omega (arith, high mine))
          | inr o ↦ (let mine : priority_of (old i) ≡ p = sym o.priority ∙ e in omega (arith, l.newest i o.before mine))
        ];
      }

  -- the link of an old job stays, if the new job does not come between it and the next one
  next-kept : (i : ℕ) → is_some (old i) ≡ true → (i ≡ end (priority_of (old i)) → ⊥) → (x.priority ≡ priority_of (old i) → stamp_of (old i) < x.job.stamp → stamp_of (old (next i)) ≤ x.job.stamp) → IsNext new i (next i)
  next-kept i used out low =
      let f = links.follows i used out in
      let k = kept old new n x puts i used in
      let j = kept old new n x puts (next i) f.used in
      record {
        used = j.after;
        priority = j.priority ∙ f.priority ∙ sym k.priority;
        later = omega (arith, f.later, j.stamp, k.stamp);
        oldest = λ m here e above. elim (split old new n x puts m here) [
          | inl fresh ↦ (let mine : x.priority ≡ priority_of (old i) = sym fresh.priority ∙ e ∙ k.priority in omega (arith, j.stamp, fresh.stamp, low mine (omega (arith, above, k.stamp, fresh.stamp))))
          | inr o ↦ (let mine : priority_of (old m) ≡ priority_of (old i) = sym o.priority ∙ e ∙ k.priority in omega (arith, j.stamp, o.stamp, f.oldest m o.before mine (omega (arith, above, k.stamp, o.stamp))))
        ];
      }

  -- no job had the priority and the stamp of the new job
  apart-kept : ((i : ℕ) → is_some (old i) ≡ true → priority_of (old i) ≡ x.priority → stamp_of (old i) ≡ x.job.stamp → ⊥) → (i k : ℕ) → is_some (new i) ≡ true → is_some (new k) ≡ true → priority_of (new i) ≡ priority_of (new k) → stamp_of (new i) ≡ stamp_of (new k) → i ≡ k
  apart-kept alone i k used there p s = elim (split old new n x puts i used) [
    | inl fresh ↦ elim (split old new n x puts k there) [
      | inl other ↦ fresh.place ∙ sym other.place
      | inr o ↦ absurd (alone k o.before (sym o.priority ∙ sym p ∙ fresh.priority) (sym o.stamp ∙ sym s ∙ fresh.stamp))
    ]
    | inr o ↦ elim (split old new n x puts k there) [
      | inl other ↦ absurd (alone i o.before (sym o.priority ∙ p ∙ other.priority) (sym o.stamp ∙ s ∙ other.stamp))
      | inr q ↦ links.apart i k o.before q.before (sym o.priority ∙ p ∙ q.priority) (sym o.stamp ∙ s ∙ q.stamp)
    ]
  ]

  -- the new job comes behind all of its priority, if there are some
  pub put-behind : (next' end' : ℕ → ℕ) → marks x.priority ≡ 1 → Sets next next' (end x.priority) n → Sets end end' x.priority n → ((i : ℕ) → is_some (old i) ≡ true → priority_of (old i) ≡ x.priority → stamp_of (old i) < x.job.stamp) → IsLinked new next' front end' marks
  put-behind next' end' m linked ended newest = record {
    marked = λ i used. elim (split old new n x puts i used) [
      | inl fresh ↦ subst (λ (p : ℕ). marks p ≡ 1) (sym fresh.priority) m
      | inr o ↦ subst (λ (p : ℕ). marks p ≡ 1) (sym o.priority) (links.marked i o.before)
    ];
    first = λ p mark. first-kept p mark (λ mine. let f = links.first p mark in omega (arith, newest (front p) f.used (f.priority ∙ sym mine)));
    last = λ p mark. elim (cases_eq p x.priority) [
      | inl same ↦ subst (λ (i : ℕ). IsLast new p i) (sym (ap end' same ∙ ended.here)) (is-last p same)
      | inr other ↦ subst (λ (i : ℕ). IsLast new p i) (sym (ended.kept p other)) (last-kept p mark (λ mine. absurd (other (sym mine))))
    ];
    follows = λ i used out. elim (split old new n x puts i used) [
      | inl fresh ↦ absurd (out (fresh.place ∙ sym (ap end' fresh.priority ∙ ended.here)))
      | inr o ↦ elim (cases_eq i (end x.priority)) [
        | inl same ↦ subst (λ (j : ℕ). IsNext new i j) (sym (ap next' same ∙ linked.here)) (is-next i same)
        | inr other ↦ subst (λ (j : ℕ). IsNext new i j) (sym (linked.kept i other)) (old-next i o other out)
      ]
    ];
    apart = apart-kept (λ i used p s. omega (arith, newest i used p, s));
  }
    where
      is-last : (p : ℕ) → p ≡ x.priority → IsLast new p n
      is-last p same =
          let mine = is-new old new n x puts n refl in
          record {
            used = put-there old new n x puts;
            priority = mine.priority ∙ sym same;
            newest = λ i used e. elim (split old new n x puts i used) [
              | inl fresh ↦ omega (arith, fresh.stamp, mine.stamp)
              | inr o ↦ omega (arith, o.stamp, mine.stamp, newest i o.before (sym o.priority ∙ e ∙ same))
            ];
          }

      is-next : (i : ℕ) → i ≡ end x.priority → IsNext new i n
      is-next i same =
          let l = links.last x.priority m in
          let old-used : is_some (old i) ≡ true = ap (λ (j : ℕ). is_some (old j)) same ∙ l.used in
          let old-priority : priority_of (old i) ≡ x.priority = ap (λ (j : ℕ). priority_of (old j)) same ∙ l.priority in
          let k = kept old new n x puts i old-used in
          let mine = is-new old new n x puts n refl in
          record {
            used = put-there old new n x puts;
            priority = mine.priority ∙ sym (k.priority ∙ old-priority);
            later = omega (arith, mine.stamp, k.stamp, newest i old-used old-priority);
            oldest = λ j used e above. elim (split old new n x puts j used) [
              | inl fresh ↦ omega (arith, fresh.stamp, mine.stamp)
              | inr o ↦ (
                  let at-most : stamp_of (old j) ≤ stamp_of (old (end x.priority)) = l.newest j o.before (sym o.priority ∙ e ∙ k.priority ∙ old-priority) in
                  let here : stamp_of (old i) ≡ stamp_of (old (end x.priority)) = ap (λ (h : ℕ). stamp_of (old h)) same in
                  absurd (omega (arith, at-most, here, above, k.stamp, o.stamp)))
            ];
          }

      old-next : (i : ℕ) → Stays old new i → (i ≡ end x.priority → ⊥) → (i ≡ end' (priority_of (new i)) → ⊥) → IsNext new i (next i)
      old-next i o other out =
          next-kept i o.before not-end (λ mine below. let f = links.follows i o.before not-end in omega (arith, newest (next i) f.used (f.priority ∙ sym mine)))
        where
          not-end : i ≡ end (priority_of (old i)) → ⊥
          not-end e = elim (cases_eq (priority_of (old i)) x.priority) [
            | inl same ↦ other (e ∙ ap end same)
            | inr apart ↦ out (e ∙ sym (ap end' o.priority ∙ ended.kept (priority_of (old i)) apart))
          ]

  -- the new job comes before all of its priority, if there are some
  pub put-before : (next' front' : ℕ → ℕ) → marks x.priority ≡ 1 → Sets next next' n (front x.priority) → Sets front front' x.priority n → ((i : ℕ) → is_some (old i) ≡ true → priority_of (old i) ≡ x.priority → x.job.stamp < stamp_of (old i)) → IsLinked new next' front' end marks
  put-before next' front' m linked begun oldest = record {
    marked = λ i used. elim (split old new n x puts i used) [
      | inl fresh ↦ subst (λ (p : ℕ). marks p ≡ 1) (sym fresh.priority) m
      | inr o ↦ subst (λ (p : ℕ). marks p ≡ 1) (sym o.priority) (links.marked i o.before)
    ];
    first = λ p mark. elim (cases_eq p x.priority) [
      | inl same ↦ subst (λ (i : ℕ). IsFirst new p i) (sym (ap front' same ∙ begun.here)) (is-first p same)
      | inr other ↦ subst (λ (i : ℕ). IsFirst new p i) (sym (begun.kept p other)) (first-kept p mark (λ mine. absurd (other (sym mine))))
    ];
    last = λ p mark. last-kept p mark (λ mine. let l = links.last p mark in omega (arith, oldest (end p) l.used (l.priority ∙ sym mine)));
    follows = λ i used out. elim (split old new n x puts i used) [
      | inl fresh ↦ subst (λ (j : ℕ). IsNext new i j) (sym (ap next' fresh.place ∙ linked.here)) (is-next i fresh)
      | inr o ↦ subst (λ (j : ℕ). IsNext new i j) (sym (linked.kept i (not-blank old new n x puts i o.before))) (next-kept i o.before (λ e. out (e ∙ sym (ap end o.priority))) (λ mine below. absurd (omega (arith, oldest i o.before (sym mine), below))))
    ];
    apart = apart-kept (λ i used p s. omega (arith, oldest i used p, s));
  }
    where
      is-first : (p : ℕ) → p ≡ x.priority → IsFirst new p n
      is-first p same =
          let mine = is-new old new n x puts n refl in
          record {
            used = put-there old new n x puts;
            priority = mine.priority ∙ sym same;
            oldest = λ i used e. elim (split old new n x puts i used) [
              | inl fresh ↦ omega (arith, fresh.stamp, mine.stamp)
              | inr o ↦ omega (arith, o.stamp, mine.stamp, oldest i o.before (sym o.priority ∙ e ∙ same))
            ];
          }

      is-next : (i : ℕ) → IsNew new i n x → IsNext new i (front x.priority)
      is-next i fresh =
          let f = links.first x.priority m in
          let k = kept old new n x puts (front x.priority) f.used in
          record {
            used = k.after;
            priority = k.priority ∙ f.priority ∙ sym fresh.priority;
            later = omega (arith, fresh.stamp, k.stamp, oldest (front x.priority) f.used f.priority);
            oldest = λ j used e above. elim (split old new n x puts j used) [
              | inl other ↦ absurd (omega (arith, fresh.stamp, other.stamp, above))
              | inr o ↦ omega (arith, k.stamp, o.stamp, f.oldest j o.before (sym o.priority ∙ e ∙ fresh.priority))
            ];
          }

  -- the new job is the only one of its priority
  pub put-alone : (front' end' marks' : ℕ → ℕ) → marks x.priority ≡ 0 → Sets front front' x.priority n → Sets end end' x.priority n → Sets marks marks' x.priority 1 → IsLinked new next front' end' marks'
  put-alone front' end' marks' m begun ended marked' = record {
    marked = λ i used. elim (split old new n x puts i used) [
      | inl fresh ↦ ap marks' fresh.priority ∙ marked'.here
      | inr o ↦ ap marks' o.priority ∙ marked'.kept (priority_of (old i)) (none i o.before) ∙ links.marked i o.before
    ];
    first = λ p mark. elim (cases_eq p x.priority) [
      | inl same ↦ subst (λ (i : ℕ). IsFirst new p i) (sym (ap front' same ∙ begun.here)) (is-first p same)
      | inr other ↦ subst (λ (i : ℕ). IsFirst new p i) (sym (begun.kept p other)) (first-kept p (sym (marked'.kept p other) ∙ mark) (λ mine. absurd (other (sym mine))))
    ];
    last = λ p mark. elim (cases_eq p x.priority) [
      | inl same ↦ subst (λ (i : ℕ). IsLast new p i) (sym (ap end' same ∙ ended.here)) (is-last p same)
      | inr other ↦ subst (λ (i : ℕ). IsLast new p i) (sym (ended.kept p other)) (last-kept p (sym (marked'.kept p other) ∙ mark) (λ mine. absurd (other (sym mine))))
    ];
    follows = λ i used out. elim (split old new n x puts i used) [
      | inl fresh ↦ absurd (out (fresh.place ∙ sym (ap end' fresh.priority ∙ ended.here)))
      | inr o ↦ next-kept i o.before (λ e. out (e ∙ sym (ap end' o.priority ∙ ended.kept (priority_of (old i)) (none i o.before)))) (λ mine below. absurd (none i o.before (sym mine)))
    ];
    apart = apart-kept (λ i used p s. none i used p);
  }
    where
      none : (i : ℕ) → is_some (old i) ≡ true → priority_of (old i) ≡ x.priority → ⊥
      none i used p = let mark : marks x.priority ≡ 1 = ap marks (sym p) ∙ links.marked i used in omega (arith, mark, m)

      is-first : (p : ℕ) → p ≡ x.priority → IsFirst new p n
      is-first p same =
          let mine = is-new old new n x puts n refl in
          record {
            used = put-there old new n x puts;
            priority = mine.priority ∙ sym same;
            oldest = λ i used e. elim (split old new n x puts i used) [
              | inl fresh ↦ omega (arith, fresh.stamp, mine.stamp)
              | inr o ↦ absurd (none i o.before (sym o.priority ∙ e ∙ same))
            ];
          }

      is-last : (p : ℕ) → p ≡ x.priority → IsLast new p n
      is-last p same =
          let mine = is-new old new n x puts n refl in
          record {
            used = put-there old new n x puts;
            priority = mine.priority ∙ sym same;
            newest = λ i used e. elim (split old new n x puts i used) [
              | inl fresh ↦ omega (arith, fresh.stamp, mine.stamp)
              | inr o ↦ absurd (none i o.before (sym o.priority ∙ e ∙ same))
            ];
          }

-- ---- a job taken out

pub record Clears (old new : ℕ → Option Ready) (n : ℕ) : Type 0 where
  pub here : new n ≡ None
  pub kept : (i : ℕ) → (i ≡ n → ⊥) → new i ≡ old i

record Left (old new : ℕ → Option Ready) (i n : ℕ) : Type 0 where
  other : i ≡ n → ⊥
  before : is_some (old i) ≡ true
  priority : priority_of (new i) ≡ priority_of (old i)
  stamp : stamp_of (new i) ≡ stamp_of (old i)

module _ (old new : ℕ → Option Ready) (next front end marks : ℕ → ℕ) (n : ℕ) (clears : Clears old new n) (links : IsLinked old next front end marks) where
  gone : (i : ℕ) → is_some (new i) ≡ true → Left old new i n
  gone i used = record {
    other = not-there;
    before = sym (ap (λ (o : Option Ready). is_some o) (clears.kept i not-there)) ∙ used;
    priority = ap priority_of (clears.kept i not-there);
    stamp = ap stamp_of (clears.kept i not-there);
  }
    where
      not-there : i ≡ n → ⊥
      not-there same = false≢true (sym (ap (λ (j : ℕ). is_some (new j)) same ∙ ap (λ (o : Option Ready). is_some o) clears.here) ∙ used)

  left : (i : ℕ) → (i ≡ n → ⊥) → is_some (old i) ≡ true → Stays old new i
  left i other used = stays old new i (clears.kept i other) used

  first-left : (p i : ℕ) → (i ≡ n → ⊥) → IsFirst old p i → IsFirst new p i
  first-left p i other f =
      let k = left i other f.used in
      record {
        used = k.after;
        priority = k.priority ∙ f.priority;
        oldest = λ j used e. (let o = gone j used in omega (arith, k.stamp, o.stamp, f.oldest j o.before (sym o.priority ∙ e)));
      }

  last-left : (p i : ℕ) → (i ≡ n → ⊥) → IsLast old p i → IsLast new p i
  last-left p i other l =
      let k = left i other l.used in
      record {
        used = k.after;
        priority = k.priority ∙ l.priority;
        newest = λ j used e. (let o = gone j used in omega (arith, k.stamp, o.stamp, l.newest j o.before (sym o.priority ∙ e)));
      }

  next-left : (i j : ℕ) → (i ≡ n → ⊥) → (j ≡ n → ⊥) → is_some (old i) ≡ true → IsNext old i j → IsNext new i j
  next-left i j other away used f =
      let k = left i other used in
      let m = left j away f.used in
      record {
        used = m.after;
        priority = m.priority ∙ f.priority ∙ sym k.priority;
        later = omega (arith, f.later, k.stamp, m.stamp);
        oldest = λ h there e above. (let o = gone h there in omega (arith, m.stamp, o.stamp, f.oldest h o.before (sym o.priority ∙ e ∙ k.priority) (omega (arith, above, k.stamp, o.stamp))));
      }

  apart-left : (i k : ℕ) → is_some (new i) ≡ true → is_some (new k) ≡ true → priority_of (new i) ≡ priority_of (new k) → stamp_of (new i) ≡ stamp_of (new k) → i ≡ k
  apart-left i k used there p s =
      let o = gone i used in
      let q = gone k there in
      links.apart i k o.before q.before (sym o.priority ∙ p ∙ q.priority) (sym o.stamp ∙ s ∙ q.stamp)

  marked-left : (i : ℕ) → is_some (new i) ≡ true → marks (priority_of (new i)) ≡ 1
  marked-left i used = let o = gone i used in ap marks o.priority ∙ links.marked i o.before

  module _ (used-n : is_some (old n) ≡ true) where
    mark-n : marks (priority_of (old n)) ≡ 1
    mark-n = links.marked n used-n

    -- a place of another priority is another place
    other-place : (p i : ℕ) → (p ≡ priority_of (old n) → ⊥) → priority_of (old i) ≡ p → i ≡ n → ⊥
    other-place p i other e same = other (sym e ∙ ap (λ (j : ℕ). priority_of (old j)) same)

    -- the first of several
    module _ (front-n : n ≡ front (priority_of (old n))) (not-end : n ≡ end (priority_of (old n)) → ⊥) where
      older : (i : ℕ) → is_some (old i) ≡ true → priority_of (old i) ≡ priority_of (old n) → (i ≡ n → ⊥) → stamp_of (old n) < stamp_of (old i)
      older i used p other =
          let f = links.first (priority_of (old n)) mark-n in
          let here : stamp_of (old n) ≡ stamp_of (old (front (priority_of (old n)))) = ap (λ (j : ℕ). stamp_of (old j)) front-n in
          let most : stamp_of (old n) ≤ stamp_of (old i) = omega (arith, here, f.oldest i used p) in
          let differ : stamp_of (old n) ≡ stamp_of (old i) → ⊥ = (λ s. other (links.apart i n used used-n p (sym s))) in
          omega (arith, most, differ)

      pub first-out : (front' : ℕ → ℕ) → Sets front front' (priority_of (old n)) (next n) → IsLinked new next front' end marks
      first-out front' begun = record {
        marked = marked-left;
        first = λ p mark. elim (cases_eq p (priority_of (old n))) [
          | inl same ↦ subst (λ (i : ℕ). IsFirst new p i) (sym (ap front' same ∙ begun.here)) (second p same)
          | inr other ↦ subst (λ (i : ℕ). IsFirst new p i) (sym (begun.kept p other)) (let f = links.first p mark in first-left p (front p) (other-place p (front p) other f.priority) f)
        ];
        last = λ p mark. (let l = links.last p mark in last-left p (end p) (not-last p l) l);
        follows = λ i used out. (
            let o = gone i used in
            let f = links.follows i o.before (λ e. out (e ∙ sym (ap end o.priority))) in
            next-left i (next i) o.other (not-next i o f) o.before f);
        apart = apart-left;
      }
        where
          f-n : IsNext old n (next n)
          f-n = links.follows n used-n not-end

          away : next n ≡ n → ⊥
          away same = omega (arith, f-n.later, ap (λ (j : ℕ). stamp_of (old j)) same)

          second : (p : ℕ) → p ≡ priority_of (old n) → IsFirst new p (next n)
          second p same =
              let k = left (next n) away f-n.used in
              record {
                used = k.after;
                priority = k.priority ∙ f-n.priority ∙ sym same;
                oldest = λ i used e. (
                    let o = gone i used in
                    let mine : priority_of (old i) ≡ priority_of (old n) = sym o.priority ∙ e ∙ same in
                    omega (arith, k.stamp, o.stamp, f-n.oldest i o.before mine (older i o.before mine o.other)));
              }

          not-last : (p : ℕ) → IsLast old p (end p) → end p ≡ n → ⊥
          not-last p l same =
              let mine : priority_of (old n) ≡ p = ap (λ (j : ℕ). priority_of (old j)) (sym same) ∙ l.priority in
              not-end (sym same ∙ ap end (sym mine))

          not-next : (i : ℕ) → Left old new i n → IsNext old i (next i) → next i ≡ n → ⊥
          not-next i o f same =
              let mine : priority_of (old i) ≡ priority_of (old n) = sym f.priority ∙ ap (λ (j : ℕ). priority_of (old j)) same in
              omega (arith, f.later, ap (λ (j : ℕ). stamp_of (old j)) same, older i o.before mine o.other)

    -- the only one
    module _ (front-n : n ≡ front (priority_of (old n))) (end-n : n ≡ end (priority_of (old n))) where
      alone : (i : ℕ) → is_some (old i) ≡ true → priority_of (old i) ≡ priority_of (old n) → i ≡ n
      alone i used p =
          let f = links.first (priority_of (old n)) mark-n in
          let l = links.last (priority_of (old n)) mark-n in
          let at-front : stamp_of (old n) ≡ stamp_of (old (front (priority_of (old n)))) = ap (λ (j : ℕ). stamp_of (old j)) front-n in
          let at-end : stamp_of (old n) ≡ stamp_of (old (end (priority_of (old n)))) = ap (λ (j : ℕ). stamp_of (old j)) end-n in
          links.apart i n used used-n p (omega (arith, at-front, at-end, f.oldest i used p, l.newest i used p))

      pub only-out : (marks' : ℕ → ℕ) → Sets marks marks' (priority_of (old n)) 0 → IsLinked new next front end marks'
      only-out marks' unmarked = record {
        marked = λ i used. (let o = gone i used in ap marks' o.priority ∙ unmarked.kept (priority_of (old i)) (λ p. o.other (alone i o.before p)) ∙ links.marked i o.before);
        first = λ p mark. (let f = links.first p (was p mark) in first-left p (front p) (other-place p (front p) (not-mine p mark) f.priority) f);
        last = λ p mark. (let l = links.last p (was p mark) in last-left p (end p) (other-place p (end p) (not-mine p mark) l.priority) l);
        follows = λ i used out. (
            let o = gone i used in
            let f = links.follows i o.before (λ e. out (e ∙ sym (ap end o.priority))) in
            next-left i (next i) o.other (λ same. o.other (alone i o.before (sym f.priority ∙ ap (λ (j : ℕ). priority_of (old j)) same))) o.before f);
        apart = apart-left;
      }
        where
          not-mine : (p : ℕ) → marks' p ≡ 1 → p ≡ priority_of (old n) → ⊥
          not-mine p mark same = let none : marks' p ≡ 0 = ap marks' same ∙ unmarked.here in omega (arith, none, mark)

          was : (p : ℕ) → marks' p ≡ 1 → marks p ≡ 1
          was p mark = sym (unmarked.kept p (not-mine p mark)) ∙ mark

    -- one behind another
    module _ (b : ℕ) (used-b : is_some (old b) ≡ true) (priority-b : priority_of (old b) ≡ priority_of (old n)) (before-n : stamp_of (old b) < stamp_of (old n)) (next-b : next b ≡ n) where
      b-apart : b ≡ n → ⊥
      b-apart same = omega (arith, before-n, ap (λ (j : ℕ). stamp_of (old j)) same)

      b-not-end : b ≡ end (priority_of (old b)) → ⊥
      b-not-end e =
          let l = links.last (priority_of (old n)) mark-n in
          let here : stamp_of (old b) ≡ stamp_of (old (end (priority_of (old n)))) = ap (λ (j : ℕ). stamp_of (old j)) (e ∙ ap end priority-b) in
          omega (arith, before-n, here, l.newest n used-n refl)

      f-b : IsNext old b (next b)
      f-b = links.follows b used-b b-not-end

      -- whatever is newer than b is not older than n
      beyond : (i : ℕ) → is_some (old i) ≡ true → priority_of (old i) ≡ priority_of (old n) → stamp_of (old b) < stamp_of (old i) → stamp_of (old n) ≤ stamp_of (old i)
      beyond i used p above =
          omega (arith, f-b.oldest i used (p ∙ sym priority-b) above, ap (λ (j : ℕ). stamp_of (old j)) next-b)

      not-first : (p : ℕ) → IsFirst old p (front p) → front p ≡ n → ⊥
      not-first p f same =
          let mine : priority_of (old n) ≡ p = ap (λ (j : ℕ). priority_of (old j)) (sym same) ∙ f.priority in
          omega (arith, f.oldest b used-b (priority-b ∙ mine), before-n, ap (λ (j : ℕ). stamp_of (old j)) same)

      -- no other place leads to n
      not-next : (i : ℕ) → (i ≡ b → ⊥) → is_some (old i) ≡ true → IsNext old i (next i) → next i ≡ n → ⊥
      not-next i other used f same =
          let mine : priority_of (old i) ≡ priority_of (old n) = sym f.priority ∙ ap (λ (j : ℕ). priority_of (old j)) same in
          let here : stamp_of (old (next i)) ≡ stamp_of (old n) = ap (λ (j : ℕ). stamp_of (old j)) same in
          elim (cases_order (stamp_of (old i)) (stamp_of (old b))) [
            | inl s ↦ other (links.apart i b used used-b (mine ∙ sym priority-b) s)
            | inr (inl low) ↦ (let wrong : stamp_of (old (next i)) ≤ stamp_of (old b) = f.oldest b used-b (priority-b ∙ sym mine) low in omega (arith, wrong, here, before-n))
            | inr (inr high) ↦ omega (arith, f.later, here, beyond i used mine high)
          ]

      pub last-out : n ≡ end (priority_of (old n)) → (end' : ℕ → ℕ) → Sets end end' (priority_of (old n)) b → IsLinked new next front end' marks
      last-out end-n end' ended = record {
        marked = marked-left;
        first = λ p mark. (let f = links.first p mark in first-left p (front p) (not-first p f) f);
        last = λ p mark. elim (cases_eq p (priority_of (old n))) [
          | inl same ↦ subst (λ (i : ℕ). IsLast new p i) (sym (ap end' same ∙ ended.here)) (new-last p same)
          | inr other ↦ subst (λ (i : ℕ). IsLast new p i) (sym (ended.kept p other)) (let l = links.last p mark in last-left p (end p) (other-place p (end p) other l.priority) l)
        ];
        follows = λ i used out. (
            let o = gone i used in
            let f = links.follows i o.before (inner i o out) in
            next-left i (next i) o.other (not-next i (not-b i o out) o.before f) o.before f);
        apart = apart-left;
      }
        where
          new-last : (p : ℕ) → p ≡ priority_of (old n) → IsLast new p b
          new-last p same =
              let k = left b b-apart used-b in
              let l = links.last (priority_of (old n)) mark-n in
              record {
                used = k.after;
                priority = k.priority ∙ priority-b ∙ sym same;
                newest = λ i used e. (
                    let o = gone i used in
                    let mine : priority_of (old i) ≡ priority_of (old n) = sym o.priority ∙ e ∙ same in
                    let most : stamp_of (old i) ≤ stamp_of (old n) = omega (arith, l.newest i o.before mine, ap (λ (j : ℕ). stamp_of (old j)) end-n) in
                    let differ : stamp_of (old i) ≡ stamp_of (old n) → ⊥ = (λ s. o.other (links.apart i n o.before used-n mine s)) in
                    let not-beyond : stamp_of (old b) < stamp_of (old i) → ⊥ = (λ above. omega (arith, most, differ, beyond i o.before mine above)) in
                    omega (arith, k.stamp, o.stamp, not-beyond));
              }

          inner : (i : ℕ) → Left old new i n → (i ≡ end' (priority_of (new i)) → ⊥) → i ≡ end (priority_of (old i)) → ⊥
          inner i o out e = elim (cases_eq (priority_of (old i)) (priority_of (old n))) [
            | inl same ↦ o.other (e ∙ ap end same ∙ sym end-n)
            | inr other ↦ out (e ∙ sym (ap end' o.priority ∙ ended.kept (priority_of (old i)) other))
          ]

          not-b : (i : ℕ) → Left old new i n → (i ≡ end' (priority_of (new i)) → ⊥) → i ≡ b → ⊥
          not-b i o out same =
              let mine : priority_of (old i) ≡ priority_of (old n) = ap (λ (j : ℕ). priority_of (old j)) same ∙ priority-b in
              out (same ∙ sym (ap end' (o.priority ∙ mine) ∙ ended.here))

      pub middle-out : (n ≡ end (priority_of (old n)) → ⊥) → (next' : ℕ → ℕ) → Sets next next' b (next n) → IsLinked new next' front end marks
      middle-out not-end next' linked = record {
        marked = marked-left;
        first = λ p mark. (let f = links.first p mark in first-left p (front p) (not-first p f) f);
        last = λ p mark. (let l = links.last p mark in last-left p (end p) (not-last p l) l);
        follows = λ i used out. (
            let o = gone i used in
            let inner : i ≡ end (priority_of (old i)) → ⊥ = (λ e. out (e ∙ sym (ap end o.priority))) in
            elim (cases_eq i b) [
              | inl same ↦ subst (λ (j : ℕ). IsNext new i j) (sym (ap next' same ∙ linked.here)) (over i same o)
              | inr other ↦ subst (λ (j : ℕ). IsNext new i j) (sym (linked.kept i other)) (let f = links.follows i o.before inner in next-left i (next i) o.other (not-next i other o.before f) o.before f)
            ]);
        apart = apart-left;
      }
        where
          f-n : IsNext old n (next n)
          f-n = links.follows n used-n not-end

          away : next n ≡ n → ⊥
          away same = omega (arith, f-n.later, ap (λ (j : ℕ). stamp_of (old j)) same)

          not-last : (p : ℕ) → IsLast old p (end p) → end p ≡ n → ⊥
          not-last p l same =
              let mine : priority_of (old n) ≡ p = ap (λ (j : ℕ). priority_of (old j)) (sym same) ∙ l.priority in
              not-end (sym same ∙ ap end (sym mine))

          over : (i : ℕ) → i ≡ b → Left old new i n → IsNext new i (next n)
          over i same o =
              let mine : priority_of (old i) ≡ priority_of (old n) = ap (λ (j : ℕ). priority_of (old j)) same ∙ priority-b in
              let at-b : stamp_of (old i) ≡ stamp_of (old b) = ap (λ (j : ℕ). stamp_of (old j)) same in
              let k = left (next n) away f-n.used in
              record {
                used = k.after;
                priority = k.priority ∙ f-n.priority ∙ sym (o.priority ∙ mine);
                later = omega (arith, k.stamp, o.stamp, at-b, f-n.later, before-n);
                oldest = λ h there e above. (
                    let q = gone h there in
                    let ours : priority_of (old h) ≡ priority_of (old n) = sym q.priority ∙ e ∙ o.priority ∙ mine in
                    let most : stamp_of (old n) ≤ stamp_of (old h) = beyond h q.before ours (omega (arith, above, o.stamp, q.stamp, at-b)) in
                    let differ : stamp_of (old n) ≡ stamp_of (old h) → ⊥ = (λ s. q.other (links.apart h n q.before used-n ours (sym s))) in
                    omega (arith, k.stamp, q.stamp, f-n.oldest h q.before ours (omega (arith, most, differ))));
              }
