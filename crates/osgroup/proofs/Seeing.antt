-- What a core of a group sees in the group's configuration.
use Rattle.std.proofs.Common.{◌≡◌, true, cond, Bool, Option, Some, None, option_map, find, map, List, [], ◌∷◌, refl, ap, ◌∙◌, arith}
use Rattle.std.proofs.lemmas.Bool.{cond_both}
use Rattle.osbase.specs.{declared.references.CoreId.CoreId, declared.items.CoreSet.CoreSet, History.same_core, Sets.has_core}
use Rattle.osbase.proofs.Same.{same_core-true}
use Rattle.osplan.specs.{declared.plans.Plan.Plan, declared.plans.Core.Core}
use Rattle.osplan.specs.View.{core_of, view_of}
use Rattle.osplan.proofs.Tests.{find-holds}
use Rattle.osgroup.specs.Groups.{bare_core, group_of, part_of}

-- A part keeps its number.
pub part-id : (group : CoreSet) (c : Core) → (part_of group c).id ≡ c.id
part-id group c = cond_both (has_core group c.id) c (bare_core c) (λ (d : Core). d.id ≡ c.id) (λ inside. refl) (λ outside. refl)

find-part : (group : CoreSet) (id : CoreId) (cores : List Core) → find (λ (c : Core). same_core c.id id) (map (part_of group) cores) ≡ option_map (part_of group) (find (λ (c : Core). same_core c.id id) cores)
find-part group id [] = refl
find-part group id (c ∷ cs) = grind (arith, part-id group c, find-part group id cs)

pub core-part : (plan : Plan) (group : CoreSet) (id : CoreId) → core_of (group_of plan group) id ≡ option_map (part_of group) (core_of plan id)
core-part plan group id = find-part group id plan.cores

-- A core of the group is in the group's configuration as it is in the whole one.
pub core-inside : (plan : Plan) (group : CoreSet) (id : CoreId) → has_core group id ≡ true → core_of (group_of plan group) id ≡ core_of plan id
core-inside plan group id inside = core-part plan group id ∙ by (core_of plan id) refl
  where
    by : (o : Option Core) → core_of plan id ≡ o → option_map (part_of group) o ≡ o
    by None found = refl
    by (Some c) found =
        let same = same_core-true c.id id (find-holds (λ (c : Core). same_core c.id id) plan.cores c found) in
        ap (λ (b : Bool). Some (cond b c (bare_core c))) (ap (has_core group) same ∙ inside)

pub ids-same : (group : CoreSet) (cores : List Core) → map (λ (c : Core). c.id) (map (part_of group) cores) ≡ map (λ (c : Core). c.id) cores
ids-same group [] = refl
ids-same group (c ∷ cs) = rw (part-id group c, ids-same group cs) refl

pub sees-same : (plan : Plan) (group : CoreSet) (id : CoreId) → has_core group id ≡ true → view_of (group_of plan group) id ≡ view_of plan id
sees-same plan group id inside = rw (core-inside plan group id inside, ids-same group plan.cores) refl
