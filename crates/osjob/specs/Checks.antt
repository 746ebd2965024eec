-- What `check` and `cut` print. [own]
use Rattle.std.specs.Prelude.{ℕ, ◌++◌, if◌then◌else◌, is_some, List, [], ◌∷◌, codes}
use Rattle.std.specs.{Fmt.decimal, List.flat_map}
use Rattle.osbase.specs.declared.references.CoreId.{CoreId}
use Rattle.osplan.specs.{declared.plans.Plan.Plan, View.core_of}
use Rattle.osseparate.specs.{declared.separate.Coupling.Coupling, declared.separate.Coupling.TheVariants.Separate, declared.separate.Coupling.TheVariants.Bound, declared.separate.Coupling.TheVariants.Off, Separate.cut_of, Separate.coupling_of}
use Rattle.ostrace_text.specs.Trace.{line_end, spaced}
use Rattle.oswrite.specs.Writing.{config_text}
use Rattle.osrun.specs.Fits.{ids_of}

-- The printed word of a coupling.
abbrev pub coupling_word : Coupling → List ℕ
coupling_word Separate = codes "separate"
coupling_word Bound = codes "bound"
coupling_word Off = codes "off"

-- The line of a core with this coupling. [own]
abbrev pub core_text : CoreId → Coupling → List ℕ
core_text id coupling = spaced (codes "core" ∷ decimal id.number ∷ coupling_word coupling ∷ []) ++ line_end

-- The line that says how a configuration couples a core.
abbrev pub coupling_line : Plan → CoreId → List ℕ
coupling_line plan id = core_text id (coupling_of plan id)

-- The line that says how the core is coupled, or nothing if the core is not configured.
abbrev pub line_at : Plan → CoreId → List ℕ
line_at plan id = if is_some (core_of plan id) then coupling_line plan id else []

-- What `check` prints: `ok`, and for each configured core, by ascending number, the line of its coupling. [own]
abbrev pub check_text : Plan → List ℕ
check_text plan = codes "ok\n" ++ flat_map (coupling_line plan) (ids_of plan)

-- The text of the core's own configuration, with a line end. [own]
abbrev pub cut_text : Plan → CoreId → List ℕ
cut_text plan id = config_text (cut_of plan id) ++ codes "\n"
