-- What each entry of the history does to the state.
use Rattle.std.specs.Prelude.{ℕ, ◌&&◌, nat_lt, Bool, if◌then◌else◌, true, Option, Some, None, List, [], slice_index}
use Rattle.std.specs.Option.{option_map_or}
use Rattle.osbase.specs.{declared.references.CoreId.CoreId, declared.references.Runner.Runner, declared.messages.Message.Message, declared.messages.Letter.Letter, declared.items.Item.Item, declared.limits.TheConstants.ISRS, declared.limits.TheConstants.TASKS, History.Entry, History.letter_with, History.same_core, Interrupts.runner_of_job}
use Rattle.osbase.specs.declared.items.Item.TheVariants as Item
use Rattle.oscript.specs.{declared.Op.Op, Runners.Row, Runners.runner_of}
use Rattle.osplan.specs.{declared.plans.Plan.Plan, declared.plans.Core.Core, View.view_from}
use Rattle.osrunner.specs.Rows.{rows_by}
use Rattle.osjobs.specs.Jobs.{JobState, first_jobs, jobs_by, running_among}
use Rattle.osclock.specs.Clocks.{ClockState, clocks_by, clocks_of}
use Rattle.ostable.specs.Tables.{TableStates, tables_by, tables_of}
use Rattle.osprogress.specs.{declared.progress.Progress.Progress, Border.BorderState, Border.border_after, Border.first_border, Progress.first_progress, Progress.progress_after}
use Rattle.osstate.specs.{Readings.script_of, State.KernelState}

-- ---- the tasks

-- The task or ISR whose row an entry changes, if it changes one.
abbrev pub runner_by : Entry → JobState → Option Runner
runner_by e s = runner_of (runner_of_job (running_among s)) e

-- The script of this task or ISR of the core; an empty one if none is given.
abbrev pub script_for : Core → Option Runner → List Op
script_for core None = []
script_for core (Some r) = script_of core r

-- The runner is on this core, and its index has a place among the rows. If the core has no more tasks and ISRs than
-- there are places, each of them has one.
abbrev pub has_place : Core → Runner → Bool
has_place core (Runner.Task t) = same_core t.core core.id && nat_lt t.index TASKS
has_place core (Runner.Isr i) = same_core i.core core.id && nat_lt i.index ISRS

-- If an entry changes the row of a runner, that runner has a place.
abbrev pub is_placed : Core → Option Runner → Bool
is_placed core who = option_map_or (has_place core) who true

-- The rows after an entry that changes the row of runner `who`, if any. If `who` has no place, no row changes.
abbrev pub rows_after : Core → Entry → Option Runner → List Row → List Row
rows_after core e who rows = if is_placed core who then rows_by (script_for core who) e who rows else rows

-- What is kept of a core's tasks and ISRs after an entry with this stamp.
abbrev pub tasks_after : Core → Entry → ℕ → JobState → JobState
tasks_after core e stamp s = record (jobs_by (script_for core (runner_by e s)) e stamp s) { rows = rows_after core e (runner_by e s) s.rows }

-- A letter for core `to`, with the next number on the way to that core.
abbrev pub next_letter : KernelState → CoreId → Message → Letter
next_letter s to message = letter_with (slice_index s.border.queued to.number) message

-- ---- the whole

-- The state after one more entry: each part changes by its step. [own]
abbrev pub state_after : Entry → KernelState → KernelState
state_after e s = record {
  view = s.view;
  progress = progress_after e s.progress;
  tasks = tasks_after s.view.own e s.progress.entries s.tasks;
  clocks = clocks_by s.view.own e s.clocks;
  tables = tables_by s.view.own e s.tables;
  border = border_after e s.border;
}

-- The state of a core of this plan, made of these parts.
abbrev pub state_from : Plan → Core → Progress → JobState → ClockState → TableStates → BorderState → KernelState
state_from plan core progress tasks clocks tables border =
    record { view = view_from plan core.id core; progress = progress; tasks = tasks; clocks = clocks; tables = tables; border = border }

-- The state of a core that took no item yet; `is_master` says whether it is the master core.
abbrev pub first_state : Plan → Core → Bool → KernelState
first_state plan core is_master = state_from plan core (first_progress is_master) (first_jobs core) (clocks_of core []) (tables_of core []) first_border
