-- What is right about each part of a text: its names, the cores of the named objects, its masks and its form. [own]
use Rattle.std.specs.Prelude.{◌≡◌, ◌⊎◌, ℕ, ◌&&◌, Bool, true, false, is_some, List, Result, Ok, Err}
use Rattle.std.specs.List.{list_all}
use Rattle.osbase.specs.{declared.objects.ObjectKind.TheVariants.Counter, History.same_core}
use Rattle.osvalidate.specs.Words.{AlarmText, ConfigText, CoreId, CoreText, Declaration, Op, PointText, SpinlockText, TableText, TaskText}
use Rattle.ossyntax.specs.{Action.is_action, Operation.has_masks}
use Rattle.osplan.specs.{declared.faults.ConfFault.ConfFault, declared.faults.ConfFault.TheVariants.Limit, declared.faults.ConfFault.TheVariants.NoMemory}
use Rattle.osschema.specs.Declarations.{counter_ref, declarations, place_of}
use Rattle.osvalidate.specs.{declared.verdicts.Judged.Judged, declared.verdicts.Verdict.Verdict, Action.is_action_known, Action.is_action_masked, Operation.is_operation, Operation.is_operation_known, Operation.op_of}
use Rattle.osvalidate.specs.Check.{are_operations_known, is_alarm_acting, is_alarm_known, is_alarm_masked, is_alarm_local, is_core_known, is_core_masked, has_local_references, is_core_script, is_isr_script, is_operation_local, is_point_acting, is_point_known, is_point_masked, is_script, is_script_masked, is_script_local, is_spinlock_known, is_table_acting, is_table_known, is_table_masked, is_table_local, is_task_known, is_task_masked, is_task_script}

-- The verdict that nothing is wrong.
abbrev pub all_right : Verdict
all_right = record { known = true; near = true; masked = true; formed = true }

-- The verdict on two parts together, by the verdict on each.
abbrev pub both : Verdict → Verdict → Verdict
both a b = record { known = a.known && b.known; near = a.near && b.near; masked = a.masked && b.masked; formed = a.formed && b.formed }

-- The verdict on all parts of a list together; `f` gives the verdict on one part.
abbrev pub each : {X : Type 0} → (X → Verdict) → List X → Verdict
each f xs = record {
  known = list_all (λ x. (f x).known) xs;
  near = list_all (λ x. (f x).near) xs;
  masked = list_all (λ x. (f x).masked) xs;
  formed = list_all (λ x. (f x).formed) xs;
}

-- The verdict `v` on a part, after further names of the part are judged. `are_known` says whether these are known.
abbrev pub with_names : Bool → Verdict → Verdict
with_names are_known v = record { known = are_known && v.known; near = v.near; masked = v.masked; formed = v.formed }

-- ---- part by part

-- The verdict on an operation in a script of this core.
abbrev pub op_verdict : List Declaration → CoreId → List ℕ → Verdict
op_verdict objects id text = record { known = is_operation_known objects text; near = is_operation_local objects id text; masked = has_masks text; formed = is_operation text }

-- The verdict on the script of a task of this core.
abbrev pub script_verdict : List Declaration → CoreId → List ℕ → Verdict
script_verdict objects id script = record {
  known = are_operations_known objects script;
  near = is_script_local objects id script;
  masked = is_script_masked script;
  formed = is_script objects script;
}

-- The verdict on an action. It may name any core's task, so `near` is true.
abbrev pub action_verdict : List Declaration → List ℕ → Verdict
action_verdict objects text = record { known = is_action_known objects text; near = true; masked = is_action_masked text; formed = is_action text }

-- The verdict on the name of a counter: `known` if a counter has the name, `near` unless that counter is on another
-- core than this one.
abbrev pub counter_verdict : List Declaration → CoreId → List ℕ → Verdict
counter_verdict objects id name = record { known = is_some (place_of objects Counter name); near = same_core (counter_ref objects id name).core id; masked = true; formed = true }

-- The verdict on a task of this core: on its script and the modes of its autostart.
abbrev pub task_verdict : List Declaration → CoreId → TaskText → Verdict
task_verdict objects id task = record { known = is_task_known objects task; near = is_script_local objects id task.script; masked = is_task_masked task; formed = is_task_script objects task }

-- The verdict on an ISR of this core, by its script.
abbrev pub isr_verdict : List Declaration → CoreId → List ℕ → Verdict
isr_verdict objects id script = record (script_verdict objects id script) { formed = is_isr_script objects script }

-- The verdict on an alarm of this core: on its counter, its action and the modes of its autostart.
abbrev pub alarm_verdict : List Declaration → CoreId → AlarmText → Verdict
alarm_verdict objects id alarm = record { known = is_alarm_known objects alarm; near = is_alarm_local objects id alarm; masked = is_alarm_masked alarm; formed = is_alarm_acting alarm }

-- The verdict on an expiry point: on its actions.
abbrev pub point_verdict : List Declaration → PointText → Verdict
point_verdict objects point = record { known = is_point_known objects point; near = true; masked = is_point_masked point; formed = is_point_acting point }

-- The verdict on a table of this core: on its counter, its actions and the modes of its autostart.
abbrev pub table_verdict : List Declaration → CoreId → TableText → Verdict
table_verdict objects id table = record { known = is_table_known objects table; near = is_table_local objects id table; masked = is_table_masked table; formed = is_table_acting table }

-- The verdict on a core: on its mode, tasks, ISRs, alarms and tables.
abbrev pub core_verdict : List Declaration → CoreText → Verdict
core_verdict objects core = record { known = is_core_known objects core; near = has_local_references objects core; masked = is_core_masked core; formed = is_core_script objects core }

-- The verdict on a spinlock, by the name of its successor.
abbrev pub spinlock_verdict : List Declaration → SpinlockText → Verdict
spinlock_verdict objects spinlock = record { known = is_spinlock_known objects spinlock; near = true; masked = true; formed = true }

-- The verdict on a text: on all its cores and spinlocks.
abbrev pub text_verdict : ConfigText → Verdict
text_verdict t = with_names (list_all (is_spinlock_known (declarations t)) t.spinlocks) (each (core_verdict (declarations t)) t.cores)

-- ---- what a reading answers

-- The operation that a text means, and the verdict on it, in a script of this core.
abbrev pub judged_op : List Declaration → CoreId → List ℕ → Judged Op
judged_op objects id text = record { value = op_of objects text; verdict = op_verdict objects id text }

-- A reading returns this value with this verdict, and no script is too long (`is_short`). Or the reading returns a
-- fault: NoMemory; or Limit, and a script is too long.
abbrev pub Judges : {X : Type 0} → Result (Judged X) ConfFault → Bool → X → Verdict → Type 0
Judges (Ok judged) is_short value verdict = (is_short ≡ true) × (judged.value ≡ value) × (judged.verdict ≡ verdict)
Judges (Err fault) is_short value verdict = (fault ≡ NoMemory) ⊎ ((fault ≡ Limit) × (is_short ≡ false))
