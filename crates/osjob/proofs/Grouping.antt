-- The line of a core's least group, and its parts.
use Rattle.std.proofs.{Common.◌≡◌, Common.◌∙◌, Common.◌++◌, Common.Bool, Common.codes, Common.ℕ, Common.List, Common.[], Common.◌∷◌, Common.refl, Common.ap, Common.append_assoc, Common.filter, Common.map, Math.Path.fun_ext}
use Rattle.std.specs.List.{flat_map}
use Rattle.osbase.specs.{declared.references.CoreId.CoreId, Sets.core_ids}
use Rattle.osplan.specs.declared.plans.Plan.{Plan}
use Rattle.osgroup.specs.Groups.{is_in_least_group}
use Rattle.ostrace_text.specs.Trace.{after_spaces, line_end}
use Rattle.osjob.specs.Groups.{group_head, group_line, number_of, number_word}

numbers_after_spaces : (ids : List CoreId) → flat_map number_word ids ≡ after_spaces (map number_of ids)
numbers_after_spaces [] = refl
numbers_after_spaces (id ∷ ids) = ap (λ rest. number_word id ++ rest) (numbers_after_spaces ids)

joined : (core : CoreId) (numbers : List ℕ) → group_head core ++ (numbers ++ line_end) ≡ (codes "core" ++ (number_word core ++ (codes " group" ++ numbers))) ++ line_end
joined core numbers = simp append_assoc

-- what is written of a core whose least group is known is its line
pub is_line : (plan : Plan) (core : CoreId) (members : CoreId → Bool) → ((id : CoreId) → members id ≡ is_in_least_group plan core id)
    → group_head core ++ (flat_map number_word (filter members core_ids) ++ line_end) ≡ group_line plan core
is_line plan core members same =
    let numbers = numbers_after_spaces (filter members core_ids) ∙ ap (λ (p : CoreId → Bool). after_spaces (map number_of (filter p core_ids))) (fun_ext same) in
    ap (λ words. group_head core ++ (words ++ line_end)) numbers ∙ joined core (after_spaces (map number_of (filter (is_in_least_group plan core) core_ids)))
