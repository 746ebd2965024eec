-- A tick, counter by counter.
use Rattle.std.proofs.Common.{◌≡◌, ℕ, zero, suc, ◌+◌, ◌≤◌, true, List, [], ◌∷◌, ◌++◌, length, filter, refl, ap, ◌∙◌, arith, sum_by, add-one}
use Rattle.std.proofs.lemmas.List.Sums.{length-filter, sum_by-cons, sum_by-le-sum_by, sum_by_push}
use Rattle.osbase.specs.{declared.references.AlarmRef.AlarmRef, declared.references.CounterRef.CounterRef, declared.references.TableRef.TableRef, Sets.numbers_from}
use Rattle.osplan.specs.{declared.plans.Core.Core, Objects.most_posts_of_table, Objects.most_posts_per_tick}
use Rattle.osclock.specs.Clocks.{alarm_refs, attached_to, counter_ref}
use Rattle.osclock.proofs.Portions.{attached-portions}
use Rattle.osstate.specs.State.{KernelState}
use Rattle.ostable.specs.Tables.{table_refs, timed_by}
use Rattle.ostable.proofs.{Portions.sum-of-plans, Portions.timed-portions, Sums.sum-both}
use Rattle.osexpiry.specs.Advancing.{most_posted_of_table, posted_by, posted_for, posts_by}
use Rattle.osexpiry.proofs.Postings.{sum-of-alarms}

-- ---- how much the counters before a place add up to

abbrev pub total : (ℕ → ℕ) → ℕ → ℕ
total f place = sum_by f (numbers_from 0 place)

numbers-more : (first place : ℕ) → numbers_from first (suc place) ≡ numbers_from first place ++ (first + place) ∷ []
numbers-more first zero = ap (λ (n : ℕ). n ∷ []) (let same : first ≡ first + 0 = omega arith in same)
numbers-more first (suc place) = ap (λ (ns : List ℕ). first ∷ ns) (numbers-more (first + 1) place ∙ ap (λ (n : ℕ). numbers_from (first + 1) place ++ n ∷ []) (let same : (first + 1) + place ≡ first + suc place = omega arith in same))

pub total-more : (f : ℕ → ℕ) (place : ℕ) → total f (place + 1) ≡ total f place + f place
total-more f place =
    ap (total f) (add-one place)
    ∙ ap (sum_by f) (numbers-more 0 place ∙ ap (λ (n : ℕ). numbers_from 0 place ++ n ∷ []) (let same : 0 + place ≡ place = omega arith in same))
    ∙ sum_by_push f (numbers_from 0 place) place

-- The alarms and the tables of the counter at a place, and how many letters they may add to the outbox.
abbrev pub alarms_at : Core → ℕ → ℕ
alarms_at core n = length (attached_to core (counter_ref core n))

abbrev pub tables_at : Core → ℕ → ℕ
tables_at core n = length (timed_by core (counter_ref core n))

abbrev pub posted_at : Core → ℕ → ℕ
posted_at core n = posted_by core (counter_ref core n)

-- The same amounts for the counter with this reference, in a state of the same core.
pub record Amounts (own : Core) (place : ℕ) (now : KernelState) (c : CounterRef) : Type 0 where
  pub alarms : length (attached_to now.view.own c) ≡ alarms_at own place
  pub tables : length (timed_by now.view.own c) ≡ tables_at own place
  pub posted : posted_by now.view.own c ≡ posted_at own place

pub amounts : (old : KernelState) (place : ℕ) (now : KernelState) (c : CounterRef) → now.view ≡ old.view → c ≡ counter_ref old.view.own place → Amounts old.view.own place now c
amounts old place now c view here = record {
  alarms = λ i. length (attached_to (view i).own (here i));
  tables = λ i. length (timed_by (view i).own (here i));
  posted = λ i. posted_by (view i).own (here i);
}

-- Added up over counters, they are at most those of the core.
filter-every : (xs : List AlarmRef) → length (filter (λ a. true) xs) ≡ length xs
filter-every [] = refl
filter-every (x ∷ xs) = ap suc (filter-every xs)

pub alarms-within : (core : Core) (place : ℕ) → total (alarms_at core) place ≤ length (alarm_refs core)
alarms-within core place =
    omega (
      arith,
      sum_by-le-sum_by (alarms_at core) (λ (n : ℕ). length (filter (λ a. true) (attached_to core (counter_ref core n)))) (numbers_from 0 place) (λ n. omega (arith, filter-every (attached_to core (counter_ref core n)))),
      attached-portions core (λ a. true) place,
      filter-every (alarm_refs core),
    )

sum-of-ones : {X : Type 0} (xs : List X) → sum_by (λ x. 1) xs ≡ length xs
sum-of-ones [] = refl
sum-of-ones (x ∷ xs) = sum_by-cons (λ y. 1) x xs ∙ ap (λ (n : ℕ). 1 + n) (sum-of-ones xs) ∙ omega arith

pub tables-within : (core : Core) (place : ℕ) → total (tables_at core) place ≤ length (table_refs core)
tables-within core place =
    omega (
      arith,
      sum_by-le-sum_by (tables_at core) (λ (n : ℕ). sum_by (λ (s : TableRef). 1) (timed_by core (counter_ref core n))) (numbers_from 0 place) (λ n. omega (arith, sum-of-ones (timed_by core (counter_ref core n)))),
      timed-portions core (λ (s : TableRef). 1) place,
      sum-of-ones (table_refs core),
    )

alarms-posted : (core : Core) (place : ℕ) → total (λ (n : ℕ). sum_by (posted_for core) (attached_to core (counter_ref core n))) place ≤ sum_by (posted_for core) (alarm_refs core)
alarms-posted core place =
    omega (
      arith,
      sum_by-le-sum_by (λ (n : ℕ). sum_by (posted_for core) (attached_to core (counter_ref core n))) (λ (n : ℕ). length (filter (posts_by core) (attached_to core (counter_ref core n)))) (numbers_from 0 place) (λ n. omega (arith, length-filter (posts_by core) (attached_to core (counter_ref core n)))),
      attached-portions core (posts_by core) place,
      length-filter (posts_by core) (alarm_refs core),
    )

pub posted-within : (core : Core) (place : ℕ) → total (posted_at core) place ≤ most_posts_per_tick core
posted-within core place =
    omega (
      arith,
      sum-both (λ (n : ℕ). sum_by (posted_for core) (attached_to core (counter_ref core n))) (λ (n : ℕ). sum_by (most_posted_of_table core) (timed_by core (counter_ref core n))) (numbers_from 0 place),
      alarms-posted core place,
      sum-of-alarms core,
      timed-portions core (most_posted_of_table core) place,
      sum-of-plans core (most_posts_of_table core),
    )

-- ---- steps at what is read now, and by a test
