-- How many jobs there are of each place, and that no job of a runner comes before its first.
use Rattle.std.proofs.Common.{◌≡◌, ℕ, zero, suc, ◌+◌, ◌-◌, ◌<◌, ◌≤◌, nat_eq, Bool, true, false, cond, Some, None, List, [], ◌∷◌, ◌++◌, length, replicate, take, drop, get_or-set_same, get_or-set_other, refl, ap, sym, ◌∙◌, arith}
use Rattle.std.specs.List.{slice_index_or, slice_set}
use Rattle.std.proofs.{lemmas.Bool.eq-eqb, lemmas.Bool.eqb-true, lemmas.Bool.false≢true, lemmas.List.get_or-replicate}
use Rattle.osbase.specs.{declared.references.Runner.Runner, declared.histories.Job.Job, Sets.slot_of, declared.limits.TheConstants.RUNNERS}
use Rattle.osbase.specs.declared.references.Runner.TheVariants as Runner
use Rattle.osbase.specs.History.{job_count, oldest, same_runner, without_oldest}
use Rattle.osbase.proofs.Same.{same_runner-true}
use Rattle.osjobs.specs.Live.{AreCounted, place_count}

pub same-place : (a b : Runner) → same_runner a b ≡ true → nat_eq (slot_of a) (slot_of b) ≡ true
same-place a b same = eq-eqb (slot_of a) (slot_of b) (ap slot_of (same_runner-true a b same))

-- ---- one more, and one fewer

pub count-push : (n : ℕ) (js : List Job) (j : Job) → place_count n (js ++ j ∷ []) ≡ cond (nat_eq (slot_of j.runner) n) (suc (place_count n js)) (place_count n js)
count-push n [] j = refl
count-push n (x ∷ js) j = by (nat_eq (slot_of x.runner) n) (nat_eq (slot_of j.runner) n) (count-push n js j)
  where
    by : (a b : Bool) → place_count n (js ++ j ∷ []) ≡ cond b (suc (place_count n js)) (place_count n js)
        → cond a (suc (place_count n (js ++ j ∷ []))) (place_count n (js ++ j ∷ [])) ≡ cond b (suc (cond a (suc (place_count n js)) (place_count n js))) (cond a (suc (place_count n js)) (place_count n js))
    by true true e = ap suc e
    by true false e = ap suc e
    by false true e = e
    by false false e = e

pub count-less : (n : ℕ) (r : Runner) (js : List Job) (j : Job) → oldest r js ≡ Some j
    → place_count n js ≡ cond (nat_eq (slot_of r) n) (suc (place_count n (without_oldest r js))) (place_count n (without_oldest r js))
count-less n r [] j e = cc
count-less n r (x ∷ js) j e = by (same_runner x.runner r) refl e (λ found. count-less n r js j found)
  where
    both : (a b : Bool) → place_count n js ≡ cond b (suc (place_count n (without_oldest r js))) (place_count n (without_oldest r js))
        → cond a (suc (place_count n js)) (place_count n js) ≡ cond b (suc (cond a (suc (place_count n (without_oldest r js))) (place_count n (without_oldest r js)))) (cond a (suc (place_count n (without_oldest r js))) (place_count n (without_oldest r js)))
    both true true e = ap suc e
    both true false e = ap suc e
    both false true e = e
    both false false e = e

    by : (b : Bool) → same_runner x.runner r ≡ b → cond b (Some x) (oldest r js) ≡ Some j
        → (oldest r js ≡ Some j → place_count n js ≡ cond (nat_eq (slot_of r) n) (suc (place_count n (without_oldest r js))) (place_count n (without_oldest r js)))
        → place_count n (x ∷ js) ≡ cond (nat_eq (slot_of r) n) (suc (place_count n (cond b js (x ∷ without_oldest r js)))) (place_count n (cond b js (x ∷ without_oldest r js)))
    by true same found rest = ap (λ (m : ℕ). cond (nat_eq m n) (suc (place_count n js)) (place_count n js)) (ap slot_of (same_runner-true x.runner r same))
    by false same found rest = both (nat_eq (slot_of x.runner) n) (nat_eq (slot_of r) n) (rest found)

pub count-few : (n : ℕ) (js : List Job) → place_count n js ≤ length js
count-few n [] = omega arith
count-few n (j ∷ js) = by (nat_eq (slot_of j.runner) n) (count-few n js)
  where
    by : (b : Bool) → place_count n js ≤ length js → cond b (suc (place_count n js)) (place_count n js) ≤ length (j ∷ js)
    by true few = omega (arith, few)
    by false few = omega (arith, few)

-- a runner has no more jobs than its place
pub count-at-place : (r : Runner) (js : List Job) → job_count r js ≤ place_count (slot_of r) js
count-at-place r [] = omega arith
count-at-place r (x ∷ js) = by (same_runner x.runner r) refl (nat_eq (slot_of x.runner) (slot_of r)) refl (count-at-place r js)
  where
    by : (b : Bool) → same_runner x.runner r ≡ b → (a : Bool) → nat_eq (slot_of x.runner) (slot_of r) ≡ a → job_count r js ≤ place_count (slot_of r) js
        → cond b (suc (job_count r js)) (job_count r js) ≤ cond a (suc (place_count (slot_of r) js)) (place_count (slot_of r) js)
    by true same true at rest = omega (arith, rest)
    by true same false at rest = absurd (false≢true (sym at ∙ same-place x.runner r same))
    by false same true at rest = omega (arith, rest)
    by false same false at rest = rest

-- ---- the jobs of a runner from a place on

pub count-parts : (r : Runner) (js : List Job) (i : ℕ) → job_count r js ≡ job_count r (take i js) + job_count r (drop i js)
count-parts r js zero = omega arith
count-parts r [] (suc i) = omega arith
count-parts r (x ∷ js) (suc i) = by (same_runner x.runner r) (count-parts r js i)
  where
    by : (b : Bool) → job_count r js ≡ job_count r (take i js) + job_count r (drop i js)
        → cond b (suc (job_count r js)) (job_count r js) ≡ cond b (suc (job_count r (take i js))) (job_count r (take i js)) + job_count r (drop i js)
    by true rest = omega (arith, rest)
    by false rest = rest

pub count-within : (r : Runner) (js : List Job) → job_count r js ≤ length js
count-within r [] = omega arith
count-within r (x ∷ js) = by (same_runner x.runner r) (count-within r js)
  where
    by : (b : Bool) → job_count r js ≤ length js → cond b (suc (job_count r js)) (job_count r js) ≤ length (x ∷ js)
    by true rest = omega (arith, rest)
    by false rest = omega (arith, rest)

-- if no job of a runner comes before a place, its first job is the first from there on
none-first : (b : Bool) (count : ℕ) → cond b (suc count) count ≡ 0 → (b ≡ false) × (count ≡ 0)
none-first true count none = absurd (omega (arith, none))
none-first false count none = (refl, none)

pub oldest-behind : (r : Runner) (js : List Job) (i : ℕ) → job_count r (take i js) ≡ 0 → oldest r js ≡ oldest r (drop i js)
oldest-behind r js zero none = refl
oldest-behind r [] (suc i) none = refl
oldest-behind r (x ∷ js) (suc i) none =
    let first = none-first (same_runner x.runner r) (job_count r (take i js)) none in
    ap (λ (b : Bool). cond b (Some x) (oldest r js)) first.0 ∙ oldest-behind r js i first.1

pub rest-behind : (r : Runner) (js : List Job) (i : ℕ) → job_count r (take i js) ≡ 0 → without_oldest r js ≡ take i js ++ without_oldest r (drop i js)
rest-behind r js zero none = refl
rest-behind r [] (suc i) none = refl
rest-behind r (x ∷ js) (suc i) none =
    let first = none-first (same_runner x.runner r) (job_count r (take i js)) none in
    ap (λ (b : Bool). cond b js (x ∷ without_oldest r js)) first.0 ∙ ap (λ (rest : List Job). x ∷ rest) (rest-behind r js i first.1)

pub none-oldest : (r : Runner) (js : List Job) → job_count r js ≡ 0 → (oldest r js ≡ None) × (without_oldest r js ≡ js)
none-oldest r [] none = (refl, refl)
none-oldest r (x ∷ js) none =
    let first = none-first (same_runner x.runner r) (job_count r js) none in
    let rest = none-oldest r js first.1 in
    (ap (λ (b : Bool). cond b (Some x) (oldest r js)) first.0 ∙ rest.0, ap (λ (b : Bool). cond b js (x ∷ without_oldest r js)) first.0 ∙ ap (λ (others : List Job). x ∷ others) rest.1)

-- ---- what is counted

-- one count is changed, to that of its place
counted-at : (before after : List Job) (counts : List ℕ) (place count : ℕ) → AreCounted before counts → place < length counts → count ≡ place_count place after
    → ((n : ℕ) → nat_eq place n ≡ false → place_count n after ≡ place_count n before) → AreCounted after (slice_set counts place count)
counted-at before after counts place count is inside mine others = record { each = λ n h. by n h (nat_eq place n) refl }
  where
    by : (n : ℕ) → n < RUNNERS → (b : Bool) → nat_eq place n ≡ b → slice_index_or (slice_set counts place count) n 0 ≡ place_count n after
    by n h true e =
        let same : place ≡ n = eqb-true place n e in
        ap (λ (m : ℕ). slice_index_or (slice_set counts place count) m 0) (sym same) ∙ (get_or-set_same counts place count 0 inside ∙ (mine ∙ ap (λ (m : ℕ). place_count m after) same))
    by n h false e =
        get_or-set_other counts place n count 0 (λ same. false≢true (sym e ∙ eq-eqb place n (sym same))) ∙ (is.each n h ∙ sym (others n e))

itself : (n : ℕ) → nat_eq n n ≡ true
itself n = eq-eqb n n refl

pushed-other : (jobs : List Job) (j : Job) (n : ℕ) → nat_eq (slot_of j.runner) n ≡ false → place_count n (jobs ++ j ∷ []) ≡ place_count n jobs
pushed-other jobs j n e = count-push n jobs j ∙ ap (λ (b : Bool). cond b (suc (place_count n jobs)) (place_count n jobs)) e

pub counted-more : (jobs : List Job) (counts : List ℕ) (j : Job) → AreCounted jobs counts → slot_of j.runner < RUNNERS → slot_of j.runner < length counts
    → AreCounted (jobs ++ j ∷ []) (slice_set counts (slot_of j.runner) (slice_index_or counts (slot_of j.runner) 0 + 1))
counted-more jobs counts j is known inside =
    let place = slot_of j.runner in
    let more : place_count place (jobs ++ j ∷ []) ≡ suc (place_count place jobs) = count-push place jobs j ∙ ap (λ (b : Bool). cond b (suc (place_count place jobs)) (place_count place jobs)) (itself place) in
    counted-at jobs (jobs ++ j ∷ []) counts place (slice_index_or counts place 0 + 1) is inside (omega (arith, is.each place known, more)) (pushed-other jobs j)

-- a job whose place is beyond those that are counted
pub counted-beyond : (jobs : List Job) (counts : List ℕ) (j : Job) → AreCounted jobs counts → RUNNERS ≤ slot_of j.runner → AreCounted (jobs ++ j ∷ []) counts
counted-beyond jobs counts j is out = record { each = λ n h. is.each n h ∙ sym (pushed-other jobs j n (apart n h)) }
  where
    apart : (n : ℕ) → n < RUNNERS → nat_eq (slot_of j.runner) n ≡ false
    apart n h = by (nat_eq (slot_of j.runner) n) refl
      where
        by : (b : Bool) → nat_eq (slot_of j.runner) n ≡ b → nat_eq (slot_of j.runner) n ≡ false
        by true e = absurd (omega (arith, h, out, eqb-true (slot_of j.runner) n e))
        by false e = e

taken-other : (jobs : List Job) (r : Runner) (j : Job) → oldest r jobs ≡ Some j → (n : ℕ) → nat_eq (slot_of r) n ≡ false → place_count n (without_oldest r jobs) ≡ place_count n jobs
taken-other jobs r j found n e =
    sym (count-less n r jobs j found ∙ ap (λ (b : Bool). cond b (suc (place_count n (without_oldest r jobs))) (place_count n (without_oldest r jobs))) e)

taken-here : (jobs : List Job) (r : Runner) (j : Job) → oldest r jobs ≡ Some j → place_count (slot_of r) jobs ≡ suc (place_count (slot_of r) (without_oldest r jobs))
taken-here jobs r j found =
    let n = slot_of r in
    count-less n r jobs j found ∙ ap (λ (b : Bool). cond b (suc (place_count n (without_oldest r jobs))) (place_count n (without_oldest r jobs))) (itself n)

pub counted-some : (jobs : List Job) (counts : List ℕ) (r : Runner) (j : Job) → AreCounted jobs counts → oldest r jobs ≡ Some j → slot_of r < RUNNERS → 1 ≤ slice_index_or counts (slot_of r) 0
counted-some jobs counts r j is found known = omega (arith, is.each (slot_of r) known, taken-here jobs r j found)

pub counted-fewer : (jobs : List Job) (counts : List ℕ) (r : Runner) (j : Job) → AreCounted jobs counts → oldest r jobs ≡ Some j → slot_of r < RUNNERS → slot_of r < length counts
    → AreCounted (without_oldest r jobs) (slice_set counts (slot_of r) (slice_index_or counts (slot_of r) 0 - 1))
counted-fewer jobs counts r j is found known inside =
    counted-at jobs (without_oldest r jobs) counts (slot_of r) (slice_index_or counts (slot_of r) 0 - 1) is inside (omega (arith, is.each (slot_of r) known, taken-here jobs r j found)) (taken-other jobs r j found)

pub counted-without : (jobs : List Job) (counts : List ℕ) (r : Runner) (j : Job) → AreCounted jobs counts → oldest r jobs ≡ Some j → RUNNERS ≤ slot_of r → AreCounted (without_oldest r jobs) counts
counted-without jobs counts r j is found out = record { each = λ n h. is.each n h ∙ sym (taken-other jobs r j found n (apart n h)) }
  where
    apart : (n : ℕ) → n < RUNNERS → nat_eq (slot_of r) n ≡ false
    apart n h = by (nat_eq (slot_of r) n) refl
      where
        by : (b : Bool) → nat_eq (slot_of r) n ≡ b → nat_eq (slot_of r) n ≡ false
        by true e = absurd (omega (arith, h, out, eqb-true (slot_of r) n e))
        by false e = e

pub none-counted : AreCounted [] (replicate RUNNERS 0)
none-counted = record { each = λ n h. get_or-replicate RUNNERS n 0 0 h }

-- a default job, for a place without a job
abbrev pub no-job : Job
no-job = record { runner = Runner.Task (record { core = record { number = 0 }; index = 0 }); stamp = 0 }
