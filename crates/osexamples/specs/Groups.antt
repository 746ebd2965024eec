-- Two cores, of which one calls the other, beside two that refer to neither; and the same two where those lack objects.
use Rattle.std.specs.Prelude.{◌≡◌, Some, true, false, List, [], ◌∷◌, ◌++◌, codes, map, replicate}
use Rattle.osbase.specs.{declared.items.CoreSet.CoreSet, declared.items.Item.Item, declared.marks.Mark.Mark, declared.messages.RemoteCall.RemoteCall, declared.references.CoreId.CoreId, declared.references.TaskRef.TaskRef, declared.statuses.Status.TheVariants.EOk, Sets.core_ids}
use Rattle.osbase.specs.declared.messages.RemoteCall.TheVariants as Remote
use Rattle.osbase.specs.declared.statuses.ServiceId.TheVariants as Service
use Rattle.oscript.specs.declared.Op.TheVariants as Op
use Rattle.osgroup.specs.Groups.{group_of, is_in_least_group}
use Rattle.osplan.specs.declared.plans.Plan.{Plan}
use Rattle.osexamples.specs.Border.{op_to_end, posted, queued, replied_to, served, task_a, task_b}
use Rattle.osexamples.specs.Example.{Block, Example, core}
use Rattle.osexamples.specs.Parts.{auto_task, begun, both, core_of, end, ended, gates, given_to, operations, plan_of, replied, returned, run_to_end, short_task, taken, task_at}

-- The set of cores 0 to 3.
abbrev pub all_four : CoreSet
all_four = record { members = true ∷ true ∷ true ∷ true ∷ replicate 12 false }

-- Task C, of core 2.
abbrev pub task_c : TaskRef
task_c = task_at 2 0

-- Task D, of core 3.
abbrev pub task_d : TaskRef
task_d = task_at 3 0

-- The activation of task B, which task A requests.
abbrev pub call : RemoteCall
call = Remote.ActivateTask task_b

-- The items of core 2 up to the second gate: it starts core 3.
abbrev pub starter_gates : List Item
starter_gates = Item.On ∷ Item.Began (core 3) EOk ∷ gates all_four

-- The items of core 1, and of core 3, up to the second gate: they start no core.
abbrev pub started_gates : List Item
started_gates = Item.On ∷ gates all_four

-- The items and marks of cores 0 and 1, which are the same in both configurations.
abbrev pub pair_blocks : List Block
pair_blocks = record {
  items = (Item.Began (core 1) EOk ∷ Item.Began (core 2) EOk ∷ gates all_four) ++ posted (replied 1 0 EOk) ++ op_to_end;
  marks =
      Mark.StartCoreReturned (core 1) EOk ∷ Mark.StartCoreReturned (core 2) EOk ∷ begun task_a
      ++ queued call ++ returned task_a Service.ActivateTask EOk ++ ended task_a;
} ∷ record {
  items = started_gates ++ taken (operations 1) ++ served 0 call ++ op_to_end;
  marks = (Mark.StartupHook ∷ Mark.Activated task_b ∷ []) ++ replied_to call EOk ++ run_to_end task_b;
} ∷ []

-- Core 0 starts cores 1 and 2, and its task A activates task B of core 1. Core 2 starts core 3, and refers to nothing
-- else. Core 3 is separate.
abbrev pub four : Example
four = record {
  plan = plan_of (
      core_of 0 (core 1 ∷ core 2 ∷ []) (auto_task (codes "A") (Op.ActivateTask (Some task_b) ∷ Op.TerminateTask ∷ []) ∷ [])
      ∷ core_of 1 [] (short_task (codes "B") ∷ [])
      ∷ core_of 2 (core 3 ∷ []) (auto_task (codes "C") (Op.TerminateTask ∷ []) ∷ [])
      ∷ core_of 3 [] (auto_task (codes "D") (Op.TerminateTask ∷ []) ∷ []) ∷ []);
  stimuli = given_to 0 (operations 2) ∷ given_to 1 (operations 2) ∷ given_to 2 (operations 1) ∷ given_to 3 (operations 1) ∷ [];
  blocks = pair_blocks ++ record {
    items = starter_gates ++ op_to_end;
    marks = Mark.StartCoreReturned (core 3) EOk ∷ begun task_c ++ ended task_c;
  } ∷ record {
    items = started_gates ++ op_to_end;
    marks = begun task_d ++ ended task_d;
  } ∷ [];
}

-- Cores 0 and 1 by themselves: cores 2 and 3 have no objects and take no stimuli, but are started as before. Cores 0
-- and 1 have the same items and marks as in `four`.
abbrev pub pair : Example
pair = record four {
  plan = group_of four.plan both;
  stimuli = given_to 0 (operations 2) ∷ given_to 1 (operations 2) ∷ [];
  blocks = pair_blocks ++ record {
    items = starter_gates ++ Item.Drained ∷ end;
    marks = Mark.StartCoreReturned (core 3) EOk ∷ Mark.StartupHook ∷ [];
  } ∷ record {
    items = started_gates ++ Item.Drained ∷ end;
    marks = Mark.StartupHook ∷ [];
  } ∷ [];
}

-- The set is the least group of the core.
abbrev pub IsLeastOf : Plan → CoreId → CoreSet → Type 0
IsLeastOf plan id cores = map (is_in_least_group plan id) core_ids ≡ cores.members
