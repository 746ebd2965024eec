-- The configured cores, by ascending numbers.
use Rattle.std.proofs.Common.{◌≡◌, ℕ, ◌+◌, ◌<◌, Bool, true, false, cond, is_some, List, [], ◌∷◌, ◌++◌, take, ap, ◌∙◌, arith, filter, append-nil}
use Rattle.std.proofs.{lemmas.List.take_more, lemmas.List.Elements.filter-append}
use Rattle.osbase.specs.{declared.references.CoreId.CoreId, declared.limits.TheConstants.CORES, Sets.core_ids}
use Rattle.osplan.specs.{declared.plans.Plan.Plan, View.core_of}
use Rattle.osbase.proofs.Tables.{table-at}

abbrev pub id_at : ℕ → CoreId
id_at n = record { number = n }

abbrev pub is_there : Plan → CoreId → Bool
is_there plan id = is_some (core_of plan id)

-- The configured cores with a number below n.
abbrev pub ids_below : Plan → ℕ → List CoreId
ids_below plan n = filter (is_there plan) (take n core_ids)

pub one_more_id : (n : ℕ) → n < 16 → take (n + 1) core_ids ≡ take n core_ids ++ id_at n ∷ []
one_more_id n lt = take_more core_ids n (id_at n) lt ∙ ap (λ (id : CoreId). take n core_ids ++ id ∷ []) (table-at id_at 0 CORES n n (id_at n) (omega arith) lt)

-- One number more adds the core of that number if it is configured, and nothing if it is not.
pub ids_below-more : (plan : Plan) (n : ℕ) → n < 16 → ids_below plan (n + 1) ≡ ids_below plan n ++ cond (is_there plan (id_at n)) (id_at n ∷ []) []
ids_below-more plan n lt = ap (filter (is_there plan)) (one_more_id n lt) ∙ filter-append (is_there plan) (take n core_ids) (id_at n ∷ [])

pub ids_below-skip : (plan : Plan) (n : ℕ) → n < 16 → is_there plan (id_at n) ≡ false → ids_below plan (n + 1) ≡ ids_below plan n
ids_below-skip plan n lt nobody = ids_below-more plan n lt ∙ ap (λ (b : Bool). ids_below plan n ++ cond b (id_at n ∷ []) []) nobody ∙ append-nil (ids_below plan n)

pub ids_below-push : (plan : Plan) (n : ℕ) → n < 16 → is_there plan (id_at n) ≡ true → ids_below plan (n + 1) ≡ ids_below plan n ++ id_at n ∷ []
ids_below-push plan n lt there = ids_below-more plan n lt ∙ ap (λ (b : Bool). ids_below plan n ++ cond b (id_at n ∷ []) []) there
