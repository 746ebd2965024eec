-- How many letters a core's alarms and tables may add to its outbox at once, by their texts. [own]
use Rattle.std.specs.Prelude.{ℕ, ◌+◌, Bool, false, not, option_and_then, List, map, count_by, sum_by}
use Rattle.std.specs.Option.{option_map_or}
use Rattle.osvalidate.specs.Words.{AlarmText, CoreId, CoreText, Declaration, PointText, RemoteCall, TableText}
use Rattle.osbase.specs.{History.same_core, Objects.object_of_call}
use Rattle.oscript.specs.Calls.{action_of_op}
use Rattle.ossyntax.specs.Operation.{op_of_text}
use Rattle.osplan.specs.Objects.{greatest_of}
use Rattle.osschema.specs.Declarations.{id_of, place_alone}

-- The text is an action on a task of another core than this one, and no other object has the task's name.
abbrev pub is_posting : List Declaration → CoreId → List ℕ → Bool
is_posting objects id text =
    option_map_or (λ (action : RemoteCall). not (same_core (object_of_call action).place.core id)) (option_and_then action_of_op (op_of_text (place_alone objects) text)) false

-- How many actions of a point post a letter to another core.
abbrev pub posted_at : List Declaration → CoreId → PointText → ℕ
posted_at objects id point = count_by (is_posting objects id) point.actions

-- The greatest number of letters that a point of the table posts.
abbrev pub most_posts_of_table : List Declaration → CoreId → TableText → ℕ
most_posts_of_table objects id table = greatest_of (map (posted_at objects id) table.points)

-- How many of these alarms post a letter to another core.
abbrev pub posted_by_alarms : List Declaration → CoreId → List AlarmText → ℕ
posted_by_alarms objects id alarms = count_by (λ (alarm : AlarmText). is_posting objects id alarm.action) alarms

-- How many letters these tables may post at once: for each table, the most that one of its points posts.
abbrev pub posted_by_tables : List Declaration → CoreId → List TableText → ℕ
posted_by_tables objects id tables = sum_by (most_posts_of_table objects id) tables

-- How many letters the core's alarms and tables may post at once: one for each alarm that posts, and for each table the
-- most that one of its points posts.
abbrev pub most_posts_per_tick : List Declaration → CoreText → ℕ
most_posts_per_tick objects core = posted_by_alarms objects (id_of core) core.alarms + posted_by_tables objects (id_of core) core.tables
