-- The number of each configured core, and of the master, is below 16.
use Rattle.std.proofs.Common.{◌≡◌, ◌<◌, true, nat_lt, List, [], ◌∷◌, is_some, IsTrue, inl, inr, ◌∙◌, arith}
use Rattle.std.specs.{List.list_all, List.list_any}
use Rattle.std.proofs.lemmas.Bool.{and_parts, or_cases, ltb-true, eqb-true}
use Rattle.osbase.specs.{declared.references.CoreId.CoreId, History.same_core}
use Rattle.osplan.specs.{declared.plans.Plan.Plan, declared.plans.Core.Core, View.core_of, Limits.is_within_limits}
use Rattle.osplan.proofs.{Tests.all-weaker, Tests.any-find, Within.limit-parts, Within.fits}

pub numbers-low : (plan : Plan) → IsTrue (is_within_limits plan) → list_all (λ (c : Core). nat_lt c.id.number 16) plan.cores ≡ true
numbers-low plan limits = all-weaker _ _ (λ c h. (fits plan c h).number) plan.cores (limit-parts plan limits).cores

-- a number that some core has is below 16
number-found : (cores : List Core) (id : CoreId) → list_all (λ (c : Core). nat_lt c.id.number 16) cores ≡ true → list_any (λ (c : Core). same_core c.id id) cores ≡ true → id.number < 16
number-found [] id low found = cc
number-found (c ∷ cs) id low found =
    let parts = and_parts (nat_lt c.id.number 16) _ low in
    elim (or_cases (same_core c.id id) _ found) as (λ _. id.number < 16) [
      | inl here ↦ let same : c.id.number ≡ id.number = eqb-true c.id.number id.number here in let lt : c.id.number < 16 = ltb-true c.id.number 16 parts.0 in omega arith
      | inr later ↦ number-found cs id parts.1 later
    ]

-- a configured core's number is below 16
pub configured-low : (plan : Plan) (id : CoreId) → IsTrue (is_within_limits plan) → is_some (core_of plan id) ≡ true → id.number < 16
configured-low plan id limits found =
    number-found plan.cores id (numbers-low plan limits) (any-find (λ (c : Core). same_core c.id id) plan.cores ∙ found)

pub master-low : (plan : Plan) → IsTrue (is_within_limits plan) → plan.master.number < 16
master-low plan limits =
    configured-low plan plan.master limits (limit-parts plan limits).master
