-- The least group of a core is a group, and lies in every group of the core. As many rounds as there are cores are
-- enough.
use Rattle.std.proofs.Common.{◌≡◌, ℕ, zero, suc, ◌+◌, ◌<◌, Bool, true, false, ◌&&◌, ◌||◌, List, [], ◌∷◌, Some, is_some, length, replicate, slice_get, IsTrue, inl, inr, refl, sym, ap, subst, ◌∙◌, add-one, arith}
use Rattle.std.proofs.{Math.Path.fun_ext, lemmas.Map.Keys.any_passes_from_place}
use Rattle.std.specs.{Cmp.both_ways, List.AllByRecursion, List.list_any}
use Rattle.std.proofs.lemmas.Bool.{and_parts, and_from, cases_lt, false≢true, false_from_ne_true, ltb-true, or_cases, or_left, or_right}
use Rattle.osbase.specs.{declared.references.CoreId.CoreId, declared.items.CoreSet.CoreSet, History.same_core, Sets.has_core}
use Rattle.osbase.proofs.{Places.passes-at, Same.same_core-refl, Same.same_core-true, Sets.has_core-flag, Sets.no-flag}
use Rattle.osplan.specs.{declared.plans.Plan.Plan, declared.plans.Core.Core, Limits.is_within_limits, View.core_of}
use Rattle.osplan.proofs.{Numbered.configured-low, Numbered.numbers-low, Rounds.Stays, Rounds.settled, Tests.any-find}
use Rattle.osgroup.specs.Groups.{belongs_within, has_say, is_group, is_heard, is_in_least_group}
use Rattle.osgroup.specs.Least.{AreRows, IsLeast, is_in_one_row, is_next, has_say_in}
use Rattle.osgroup.proofs.Among.{any-one, recursion-at}
use Rattle.osgroup.proofs.Members.{GroupParts, core-low, group-from, group-parts}

-- two tests that agree on all elements, beside a third
any-beside : {X : Type 0} (p q r : X → Bool) (xs : List X) → AllByRecursion (λ x. p x ≡ q x) xs → list_any (λ x. p x && r x) xs ≡ list_any (λ x. q x && r x) xs
any-beside p q r [] same = refl
any-beside p q r (x ∷ xs) same = rw (same.0, any-beside p q r xs same.1) refl

-- ---- who has a say in what the cores that pass a test do

module _ (plan : Plan) where
  -- a core, and another one that has a say in what the core does
  record Heard (cores : CoreId → Bool) (id : CoreId) : Type 0 where
    pub other : Core
    pub core : Core
    pub i : ℕ
    pub j : ℕ
    pub here : slice_get plan.cores i ≡ Some core
    pub there : slice_get plan.cores j ≡ Some other
    pub same : same_core other.id id ≡ true
    pub inside : cores core.id ≡ true
    pub says : has_say plan other core ≡ true

  heard-one : (cores : CoreId → Bool) (id : CoreId) → is_heard plan cores id ≡ true → Heard cores id
  heard-one cores id e =
      let other = any-one _ plan.cores e in
      let parts = and_parts _ _ other.passes in
      let core = any-one _ plan.cores parts.1 in
      let both = and_parts _ _ core.passes in
      record { other = other.one; core = core.one; i = core.at; j = other.at; here = core.there; there = other.there; same = parts.0; inside = both.0; says = both.1 }

  one-heard : (cores : CoreId → Bool) (id : CoreId) → Heard cores id → is_heard plan cores id ≡ true
  one-heard cores id h = any_passes_from_place _ plan.cores h.j h.other h.there (and_from _ _ h.same (any_passes_from_place _ plan.cores h.i h.core h.here (and_from _ _ h.inside h.says)))

-- ---- rounds

module _ (plan : Plan) (core : CoreId) where
  abbrev within : ℕ → CoreId → Bool
  within n id = belongs_within plan core n id

  abbrev test : ℕ → Core → Bool
  test n c = within n c.id

  more : (n : ℕ) (c : Core) → test n c ≡ true → test (suc n) c ≡ true
  more n c e = or_left (within n c.id) (is_heard plan (within n) c.id) e

  heard-stays : (n : ℕ) → Stays test plan.cores n → (id : CoreId) → is_heard plan (within (suc n)) id ≡ is_heard plan (within n) id
  heard-stays n stays id =
      ap (λ (says : Core → Bool). list_any (λ (o : Core). same_core o.id id && says o) plan.cores) (fun_ext (λ (o : Core). any-beside (test (suc n)) (test n) (has_say plan o) plan.cores stays))

  stays-on : (n : ℕ) → Stays test plan.cores n → (c : Core) → test (suc n) c ≡ test n c → test (suc (suc n)) c ≡ test (suc n) c
  stays-on n stays c same =
      ap (λ b. within (suc n) c.id || b) (heard-stays n stays c.id) ∙ ap (λ b. b || is_heard plan (within n) c.id) same

  enough : Stays test plan.cores (length plan.cores)
  enough = settled test plan.cores more stays-on

  -- ---- what belongs

  within-configured : (n : ℕ) (id : CoreId) → within n id ≡ true → is_some (core_of plan id) ≡ true
  within-configured zero id e = (and_parts _ _ e).1
  within-configured (suc n) id e =
      elim (or_cases (within n id) (is_heard plan (within n) id) e) as (λ _. is_some (core_of plan id) ≡ true) [
        | inl before ↦ within-configured n id before
        | inr heard ↦
            let h = heard-one plan (within n) id heard in
            sym (any-find (λ (c : Core). same_core c.id id) plan.cores) ∙ any_passes_from_place _ plan.cores h.j h.other h.there h.same
      ]

  within-later : (n : ℕ) → within zero core ≡ true → within n core ≡ true
  within-later zero e = e
  within-later (suc n) e = or_left _ _ (within-later n e)

  within-group : (group : CoreSet) → GroupParts plan group → has_core group core ≡ true → (n : ℕ) (id : CoreId) → within n id ≡ true → has_core group id ≡ true
  within-group group parts own zero id e = ap (has_core group) (same_core-true id core (and_parts _ _ e).0) ∙ own
  within-group group parts own (suc n) id e =
      elim (or_cases (within n id) (is_heard plan (within n) id) e) as (λ _. has_core group id ≡ true) [
        | inl before ↦ within-group group parts own n id before
        | inr heard ↦
            let h = heard-one plan (within n) id heard in
            ap (has_core group) (sym (same_core-true h.other.id id h.same))
            ∙ parts.closed h.core h.other h.i h.j h.here h.there (within-group group parts own n h.core.id h.inside) h.says
      ]

  within-closed : (c o : Core) (i j : ℕ) → slice_get plan.cores i ≡ Some c → slice_get plan.cores j ≡ Some o
      → is_in_least_group plan core c.id ≡ true → has_say plan o c ≡ true → is_in_least_group plan core o.id ≡ true
  within-closed c o i j here there inside says =
      let stays = recursion-at (λ (x : Core). test (suc (length plan.cores)) x ≡ test (length plan.cores) x) plan.cores j o enough there in
      let heard = one-heard plan (within (length plan.cores)) o.id (record { other = o; core = c; i = i; j = j; here = here; there = there; same = same_core-refl o.id; inside = inside; says = says }) in
      sym stays ∙ or_right (within (length plan.cores) o.id) _ heard

  -- ---- the set of those that belong

  module _ (cores : CoreSet) (are : (id : CoreId) → has_core cores id ≡ is_in_least_group plan core id) where
    pub least-group : is_group plan cores ≡ true
    least-group = group-from plan cores (record {
      configured = λ id inside. within-configured (length plan.cores) id (sym (are id) ∙ inside);
      closed = λ c o i j here there inside says. are o.id ∙ within-closed c o i j here there (sym (are c.id) ∙ inside) says;
    })

    pub least-own : is_some (core_of plan core) ≡ true → has_core cores core ≡ true
    least-own there = are core ∙ within-later (length plan.cores) (and_from _ _ (same_core-refl core) there)

    pub least-least : IsLeast plan core cores
    least-least group is own id inside = within-group group (group-parts plan group is) own (length plan.cores) id (sym (are id) ∙ inside)

-- ---- the code's rows and rounds

-- After `n` rounds the set has the cores that belong within `n` rounds.
abbrev pub IsWithin : Plan → CoreId → ℕ → CoreSet → Type 0
IsWithin plan core n cores = (id : CoreId) → has_core cores id ≡ belongs_within plan core n id

module _ (plan : Plan) (limits : IsTrue (is_within_limits plan)) where
  low : (i : ℕ) (c : Core) → slice_get plan.cores i ≡ Some c → c.id.number < 16
  low i c there = ltb-true c.id.number 16 (passes-at _ plan.cores i c (numbers-low plan limits) there)

  -- two tests of core numbers, neither of which a number from 16 on passes
  low-same : (core : CoreId) (n : ℕ) (cores : CoreSet) → ((id : CoreId) → id.number < 16 → has_core cores id ≡ belongs_within plan core n id) → IsWithin plan core n cores
  low-same core n cores same id =
      elim (cases_lt id.number 16) as (λ _. has_core cores id ≡ belongs_within plan core n id) [
        | inl lt ↦ same id lt
        | inr ge ↦ both_ways _ _
            (λ inside. absurd (omega (arith, ge, core-low cores id inside)))
            (λ belongs. absurd (omega (arith, ge, configured-low plan id limits (within-configured plan core n id belongs))))
      ]

  -- the number is the core's, which is configured or not
  configured-same : (core id : CoreId) → same_core id core ≡ true → is_some (core_of plan id) ≡ is_some (core_of plan core)
  configured-same core id same = ap (λ k. is_some (core_of plan k)) (same_core-true id core same)

  pub first-found : (core : CoreId) (cores : CoreSet) → ((id : CoreId) → id.number < 16 → has_core cores id ≡ same_core id core) → is_some (core_of plan core) ≡ true → IsWithin plan core 0 cores
  first-found core cores is found =
      low-same core 0 cores (λ id lt. is id lt ∙ both_ways _ _ (λ same. and_from _ _ same (configured-same core id same ∙ found)) (λ both. (and_parts _ _ both).0))

  pub first-none : (core : CoreId) (cores : CoreSet) → cores.members ≡ replicate 16 false → is_some (core_of plan core) ≡ false → IsWithin plan core 0 cores
  first-none core cores is none =
      low-same core 0 cores (λ id lt.
      has_core-flag cores id lt ∙ rw is (no-flag 16 id.number)
      ∙ sym (false_from_ne_true _ (λ both. let parts = and_parts _ _ both in false≢true (sym none ∙ sym (configured-same core id parts.0) ∙ parts.1))))

  -- A core is in the row of a core of the set exactly if it has a say in what a core of the set does.
  in-rows : (rows : List CoreSet) → AreRows plan rows → (cores : CoreSet) (id : CoreId) → id.number < 16 → is_in_one_row plan.cores rows cores id ≡ is_heard plan (has_core cores) id
  in-rows rows are cores id lt = both_ways _ _ to from
    where
      to : is_in_one_row plan.cores rows cores id ≡ true → is_heard plan (has_core cores) id ≡ true
      to e =
          let first = any-one _ plan.cores e in
          let parts = and_parts _ _ first.passes in
          let core = any-one _ plan.cores (sym (are first.one.id id (low first.at first.one first.there) lt) ∙ parts.1) in
          let both = and_parts _ _ core.passes in
          let other = any-one _ plan.cores both.1 in
          let last = and_parts _ _ other.passes in
          let inside = ap (has_core cores) (same_core-true core.one.id first.one.id both.0) ∙ parts.0 in
          one-heard plan (has_core cores) id (record { other = other.one; core = core.one; i = core.at; j = other.at; here = core.there; there = other.there; same = last.0; inside = inside; says = last.1 })

      from : is_heard plan (has_core cores) id ≡ true → is_in_one_row plan.cores rows cores id ≡ true
      from e =
          let h = heard-one plan (has_core cores) id e in
          let says : has_say_in plan h.core id ≡ true = any_passes_from_place _ plan.cores h.j h.other h.there (and_from _ _ h.same h.says) in
          let row = are h.core.id id (low h.i h.core h.here) lt ∙ any_passes_from_place _ plan.cores h.i h.core h.here (and_from _ _ (same_core-refl h.core.id) says) in
          any_passes_from_place _ plan.cores h.i h.core h.here (and_from _ _ h.inside row)

  pub within-next : (core : CoreId) (n : ℕ) (rows : List CoreSet) (before after : CoreSet) → AreRows plan rows → IsWithin plan core n before
      → ((id : CoreId) → id.number < 16 → has_core after id ≡ is_next plan.cores rows before id) → IsWithin plan core (n + 1) after
  within-next core n rows before after are within flags =
      rw add-one
      (low-same core (suc n) after (λ id lt.
      flags id lt ∙ ap (λ b. has_core before id || b) (in-rows rows are before id lt) ∙ ap (λ (test : CoreId → Bool). test id || is_heard plan test id) (fun_ext within)))

pub within-all : (plan : Plan) (core : CoreId) (n : ℕ) (cores : CoreSet) → n ≡ length plan.cores → IsWithin plan core n cores → (id : CoreId) → has_core cores id ≡ is_in_least_group plan core id
within-all plan core n cores all within id = subst (λ (m : ℕ). has_core cores id ≡ belongs_within plan core m id) all (within id)
