-- The text of a schedule, and which turns are a configuration's. All of it is this project's own.
use Rattle.std.specs.Prelude.{ℕ, ◌&&◌, Bool, true, not, is_some, List, ◌++◌, codes, map}
use Rattle.std.specs.{Fmt.decimal, List.list_all}
use Rattle.osbase.specs.{declared.references.CoreId.CoreId, declared.turns.Choice.Choice, declared.turns.Choice.TheVariants.Own, declared.turns.Choice.TheVariants.Serve, declared.turns.Choice.TheVariants.Look, History.same_core}
use Rattle.osplan.specs.{declared.plans.Plan.Plan, View.core_of}
use Rattle.ostrace_text.specs.Trace.{spaced}

-- `o` is Own, `l` is Look, and `s` with the number of the served core is Serve.
abbrev pub choice_word : Choice → List ℕ
choice_word Own = codes "o"
choice_word Look = codes "l"
choice_word (Serve from) = codes "s" ++ decimal from.number

-- A turn is the number of its core, and then its choice.
abbrev pub turn_word : CoreId × Choice → List ℕ
turn_word turn = decimal turn.0.number ++ choice_word turn.1

-- A JSON string of the turns' words, divided by one space.
abbrev pub schedule_text : List (CoreId × Choice) → List ℕ
schedule_text turns = codes "\"" ++ (spaced (map turn_word turns) ++ codes "\"")

-- The core may make this choice. If it chooses to serve a core, that core has to be configured and not be itself.
abbrev pub is_choice_of : Plan → CoreId → Choice → Bool
is_choice_of plan core Own = true
is_choice_of plan core Look = true
is_choice_of plan core (Serve from) = is_some (core_of plan from) && not (same_core from core)

-- A turn of a configured core, with a choice that this core may make.
abbrev pub is_turn_of : Plan → CoreId × Choice → Bool
is_turn_of plan turn = is_some (core_of plan turn.0) && is_choice_of plan turn.0 turn.1

-- Each of the turns is one of a configured core, with a choice that this core may make.
abbrev pub are_turns_of : Plan → List (CoreId × Choice) → Bool
are_turns_of plan turns = list_all (is_turn_of plan) turns
