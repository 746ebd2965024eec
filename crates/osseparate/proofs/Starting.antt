-- The flags of the code are those of the started cores.
use Rattle.std.proofs.Common.{◌≡◌, ◌≢◌, ℕ, zero, suc, ◌+◌, ◌<◌, Bool, true, false, ◌&&◌, ◌||◌, nat_lt, List, [], ◌∷◌, length, map, filter, get_or, set, is_some, IsTrue, refl, sym, ap, ◌∙◌, get_or-set_same, get_or-set_other, below_more, add-one, arith}
use Rattle.std.specs.{List.list_all}
use Rattle.std.proofs.{Math.Bool.and-true, lemmas.Map.Views.any-filter_same}
use Rattle.std.proofs.lemmas.Bool.{and_parts, and_from, both_ways, false_from_ne_true, or_right, ltb-true}
use Rattle.osbase.specs.{declared.references.CoreId.CoreId, declared.items.CoreSet.CoreSet, History.same_core, Sets.has_core}
use Rattle.osbase.proofs.Same.{same_core-true, same_core-refl}
use Rattle.osplan.specs.{declared.plans.Plan.Plan, declared.plans.Core.Core, View.core_of, Limits.is_within_limits}
use Rattle.osplan.proofs.{Tests.all-weaker, Tests.all-both, Tests.any-same, Tests.any-find, Tests.any-mapped, Numbered.configured-low, Numbered.numbers-low}
use Rattle.osseparate.specs.Flags.{is_named_by_one_of, is_next, AreStarted}
use Rattle.osseparate.specs.Separate.{configured_ids, is_among, is_named_by, is_started, started_within}

-- one flag more
pub flags-more : (f : ℕ → Bool) (members : List Bool) (n : ℕ) (flag : Bool) → length members ≡ 16 → n < 16 → flag ≡ f n → ((k : ℕ) → k < n → get_or members k false ≡ f k)
    → (k : ℕ) → k < n + 1 → get_or (set members n flag) k false ≡ f k
flags-more f members n flag len lt here below =
    below_more (λ k. get_or (set members n flag) k false ≡ f k) n
    (λ k h. let ne : k ≢ n = omega arith in get_or-set_other members n k flag false ne ∙ below k h)
    (let inside : n < length members = omega arith in get_or-set_same members n flag false inside ∙ here)

-- ---- what a round keeps

-- The started cores within n rounds are the configured cores that are flagged.
abbrev pub AreWithin : Plan → ℕ → CoreSet → Type 0
AreWithin plan n cores = (id : CoreId) → id.number < 16 → is_among (started_within plan n) id ≡ (has_core cores id && is_among (configured_ids plan) id)

pub kept : (test : CoreId → Bool) (ids : List CoreId) (id : CoreId) → is_among (filter test ids) id ≡ (test id && is_among ids id)
kept test ids id = any-filter_same (λ c. same_core c id) test (test id) (λ c e. ap test (same_core-true c id e)) ids

-- every configured core is among the configured ones, under a number below 16
abbrev is_known : Plan → Core → Bool
is_known plan core = nat_lt core.id.number 16 && is_among (configured_ids plan) core.id

all-among : (cores : List Core) → list_all (λ (c : Core). is_among (map (λ (d : Core). d.id) cores) c.id) cores ≡ true
all-among [] = refl
all-among (c ∷ cs) =
    and_from _ _ (ap (λ b. b || is_among (map (λ (d : Core). d.id) cs) c.id) (same_core-refl c.id))
    (all-weaker (λ (d : Core). is_among (map (λ (e : Core). e.id) cs) d.id) (λ (d : Core). is_among (map (λ (e : Core). e.id) (c ∷ cs)) d.id) (λ d h. or_right (same_core c.id d.id) _ h) cs (all-among cs))

all-known : (plan : Plan) → IsTrue (is_within_limits plan) → list_all (is_known plan) plan.cores ≡ true
all-known plan limits =
    all-both (λ (c : Core). nat_lt c.id.number 16) (λ (c : Core). is_among (configured_ids plan) c.id) plan.cores
    (numbers-low plan limits) (all-among plan.cores)

pub within-zero : (plan : Plan) (cores : CoreSet) → ((id : CoreId) → id.number < 16 → has_core cores id ≡ same_core id plan.master) → AreWithin plan 0 cores
within-zero plan cores flags id lt = rw (kept (λ i. same_core i plan.master) (configured_ids plan) id, flags id lt) refl

-- the flags after a round, and the started cores after it
round-same : (f a n : Bool) → (((f && a) || n) && a) ≡ ((f || n) && a)
round-same f a n = grind arith

flagged-known : (plan : Plan) (n : ℕ) (cores : CoreSet) → AreWithin plan n cores → (id : CoreId) (core : Core) → is_known plan core ≡ true
    → (is_among (started_within plan n) core.id && is_among core.start id) ≡ (has_core cores core.id && is_among core.start id)
flagged-known plan n cores within id core known =
    let parts = and_parts (nat_lt core.id.number 16) (is_among (configured_ids plan) core.id) known in
    rw (within core.id (ltb-true core.id.number 16 parts.0), parts.1, and-true) refl

pub within-suc : (plan : Plan) (n : ℕ) (before after : CoreSet) → IsTrue (is_within_limits plan) → AreWithin plan n before
    → ((id : CoreId) → id.number < 16 → has_core after id ≡ is_next plan.cores before id)
    → AreWithin plan (n + 1) after
within-suc plan n before after limits within flags id lt =
    let named : is_named_by plan (started_within plan n) id ≡ is_named_by_one_of plan.cores before id
    = any-same _ _ (is_known plan) (flagged-known plan n before within id) plan.cores (all-known plan limits) in
    rw (add-one, kept (λ i. is_among (started_within plan n) i || is_named_by plan (started_within plan n) i) (configured_ids plan) id, within id lt, named, flags id lt)
    (round-same (has_core before id) (is_among (configured_ids plan) id) _)

pub among-configured : (plan : Plan) (id : CoreId) → is_among (configured_ids plan) id ≡ is_some (core_of plan id)
among-configured plan id = any-mapped (λ c. same_core c id) (λ (c : Core). c.id) plan.cores ∙ any-find (λ (c : Core). same_core c.id id) plan.cores

-- after as many rounds as there are cores, the flags are those of the started cores
pub started-within : (plan : Plan) (n : ℕ) (cores : CoreSet) → IsTrue (is_within_limits plan) → n ≡ length plan.cores → AreWithin plan n cores → AreStarted plan cores
started-within plan n cores limits e within id found =
    rw (← e, within id (configured-low plan id limits found), among-configured plan id, found) (and-true (has_core cores id))

-- a started core is configured
pub within-known : (plan : Plan) (n : ℕ) (id : CoreId) → is_among (started_within plan n) id ≡ true → is_among (configured_ids plan) id ≡ true
within-known plan zero id e = (and_parts _ (is_among (configured_ids plan) id) (sym (kept (λ i. same_core i plan.master) (configured_ids plan) id) ∙ e)).1
within-known plan (suc n) id e = (and_parts _ (is_among (configured_ids plan) id) (sym (kept _ (configured_ids plan) id) ∙ e)).1

pub unstarted : (plan : Plan) (id : CoreId) → is_some (core_of plan id) ≡ false → is_started plan id ≡ false
unstarted plan id none = false_from_ne_true _ (λ h. both_ways _ (among-configured plan id ∙ none) (within-known plan (length plan.cores) id h))
