-- What `groups` and `group` print. [own]
use Rattle.std.specs.Prelude.{ℕ, ◌++◌, Bool, if◌then◌else◌, is_some, List, [], ◌∷◌, codes, filter, map}
use Rattle.std.specs.{Fmt.decimal, List.flat_map}
use Rattle.osbase.specs.{declared.items.CoreSet.CoreSet, declared.references.CoreId.CoreId, Sets.core_ids}
use Rattle.osplan.specs.{declared.plans.Plan.Plan, View.core_of}
use Rattle.osgroup.specs.Groups.{group_of, is_in_least_group}
use Rattle.ostrace_text.specs.Trace.{line_end, spaced}
use Rattle.oswrite.specs.Writing.{config_text}
use Rattle.osrun.specs.Fits.{ids_of}

-- The number of a core in decimal digits.
abbrev pub number_of : CoreId → List ℕ
number_of id = decimal id.number

-- The line of a core: its number, and the numbers of the cores of its least group, ascending. [own]
abbrev pub group_line : Plan → CoreId → List ℕ
group_line plan id =
    spaced (codes "core" ∷ number_of id ∷ codes "group" ∷ map number_of (filter (is_in_least_group plan id) core_ids)) ++ line_end

-- What `groups` prints: for each configured core, by ascending number, the line of its least group. [own]
abbrev pub groups_text : Plan → List ℕ
groups_text plan = flat_map (group_line plan) (ids_of plan)

-- The text of a group's own configuration, with a line end. [own]
abbrev pub group_text : Plan → CoreSet → List ℕ
group_text plan group = config_text (group_of plan group) ++ codes "\n"

-- ---- the parts of a line

-- The line of the core's least group, or nothing if the core is not configured.
abbrev pub group_at : Plan → CoreId → List ℕ
group_at plan id = if is_some (core_of plan id) then group_line plan id else []

-- A space and the core's number.
abbrev pub number_word : CoreId → List ℕ
number_word id = codes " " ++ number_of id

-- The part of the core's line before the numbers of its least group.
abbrev pub group_head : CoreId → List ℕ
group_head id = codes "core" ++ (number_word id ++ codes " group")

-- A space and the core's number, or nothing if the core is not one of `cores`.
abbrev pub number_at : (CoreId → Bool) → CoreId → List ℕ
number_at cores id = if cores id then number_word id else []
