-- What the worked examples are made of.
use Rattle.std.specs.Prelude.{ℕ, pos, true, false, None, List, [], ◌∷◌, ◌++◌, codes, map, replicate}
use Rattle.osbase.specs.{declared.references.AlarmRef.AlarmRef, declared.references.CoreId.CoreId, declared.references.CounterRef.CounterRef, declared.references.ResourceRef.ResourceRef, declared.references.TaskRef.TaskRef, declared.references.ModeId.ModeId, declared.items.CoreSet.CoreSet, declared.items.Item.Item, declared.items.Stimulus.Stimulus as Word, declared.marks.Mark.Mark, declared.messages.Message.Message, declared.messages.RemoteCall.RemoteCall, declared.statuses.ServiceId.ServiceId, declared.statuses.Status.Status, declared.statuses.Status.TheVariants.EOk, declared.turns.CoreStimuli.CoreStimuli, declared.items.CoreMode.TheVariants.Named}
use Rattle.osbase.specs.declared.references.Runner.TheVariants as Runner
use Rattle.osbase.specs.declared.items.Agreement.TheVariants as Agreement
use Rattle.osbase.specs.declared.items.Stimulus.TheVariants as Stimulus
use Rattle.osbase.specs.declared.messages.RemoteCall.TheVariants as Remote
use Rattle.osbase.specs.declared.statuses.ServiceId.TheVariants as Service
use Rattle.oscript.specs.{declared.Op.Op, declared.Op.TheVariants.TerminateTask}
use Rattle.osplan.specs.{declared.plans.Alarm.Alarm, declared.plans.Counter.Counter, declared.plans.Plan.Plan, declared.plans.Core.Core, declared.plans.Table.Table, declared.plans.Task.Task, declared.protection.Protection.Protection}
use Rattle.osexamples.specs.Example.{Example, core}

-- ---- the configuration

-- the one mode, M
abbrev pub mode : ModeId
mode = record { index = 0 }

-- the task of core `n` at this index
abbrev pub task_at : ℕ → ℕ → TaskRef
task_at n index = record { core = core n; index = index }

-- a basic, preemptable task of priority 1, with this script, without a budget and not autostarted; one job at a time
abbrev pub task : List ℕ → List Op → Task
task name script = record { name = name; priority = 1; auto = []; activations = 1; preemptable = true; extended = false; budget = 0; script = script }

-- a task of priority 1 that is autostarted in mode M
abbrev pub auto_task : List ℕ → List Op → Task
auto_task name script = record (task name script) { auto = mode ∷ [] }

-- a task of priority 1 that only ends
abbrev pub short_task : List ℕ → Task
short_task name = task name (TerminateTask ∷ [])

-- the task with this priority instead
abbrev pub with_priority : ℕ → Task → Task
with_priority n t = record t { priority = n }

-- the task, but not preemptable
abbrev pub without_preemption : Task → Task
without_preemption t = record t { preemptable = false }

-- the task as an extended one
abbrev pub with_events : Task → Task
with_events t = record t { extended = true }

-- core `n`, of mode M, which starts these cores and has these tasks and no other objects
abbrev pub core_of : ℕ → List CoreId → List Task → Core
core_of n start tasks = record { id = core n; mode = Named mode; start = start; protection = Protection.Shutdown; tasks = tasks; isrs = []; resources = []; counters = []; alarms = []; tables = [] }

-- the core with one resource, of this name, ceiling and lock budget
abbrev pub with_lock : List ℕ → ℕ → ℕ → Core → Core
with_lock name ceiling lock c = record c { resources = record { name = name; ceiling = ceiling; lock = lock } ∷ [] }

-- the core with one resource, of this name and ceiling, without a lock budget
abbrev pub with_resource : List ℕ → ℕ → Core → Core
with_resource name ceiling c = with_lock name ceiling 0 c

-- the resource of core `n` at index 0
abbrev pub first_resource : ℕ → ResourceRef
first_resource n = record { core = core n; index = 0 }

-- a counter that ticks advance, with this greatest value
abbrev pub counter : List ℕ → ℕ → Counter
counter name max = record { name = name; max = max; min = 1; software = false }

-- the counter of core `n` at this index
abbrev pub counter_at : ℕ → ℕ → CounterRef
counter_at n index = record { core = core n; index = index }

-- an alarm of the first counter of core `n`, which activates this task
abbrev pub alarm_for : ℕ → List ℕ → TaskRef → Alarm
alarm_for n name t = record { name = name; counter = counter_at n 0; action = Remote.ActivateTask t; auto = None }

-- the alarm of core `n` at this index
abbrev pub alarm_at : ℕ → ℕ → AlarmRef
alarm_at n index = record { core = core n; index = index }

-- the core with these counters and alarms
abbrev pub with_clocks : List Counter → List Alarm → Core → Core
with_clocks counters alarms c = record c { counters = counters; alarms = alarms }

-- the core with these schedule tables
abbrev pub with_tables : List Table → Core → Core
with_tables tables c = record c { tables = tables }

-- a configuration of these cores, with mode M alone and core 0 as master
abbrev pub plan_of : List Core → Plan
plan_of cores = record { version = 1; cap = 16; master = core 0; modes = codes "M" ∷ []; spinlocks = []; cores = cores }

-- ---- the stimuli and the items

-- this many stimuli `op`
abbrev pub operations : ℕ → List Word
operations n = replicate n Stimulus.Op

-- this many stimuli `tick`
abbrev pub ticks : ℕ → List Word
ticks n = replicate n Stimulus.Tick

-- these stimuli for core `n`
abbrev pub given_to : ℕ → List Word → CoreStimuli
given_to n words = record { core = core n; words = words }

-- the set of core 0 alone
abbrev pub alone : CoreSet
alone = record { members = true ∷ replicate 15 false }

-- the set of cores 0 and 1
abbrev pub both : CoreSet
both = record { members = true ∷ true ∷ replicate 14 false }

-- the items that lead a core through both gates in mode M, with these started cores
abbrev pub gates : CoreSet → List Item
gates started = Item.Entered ∷ Item.Pass1 (Agreement.Mode mode) ∷ Item.Readied ∷ Item.Pass2 started ∷ []

-- the item by which a core receives a request, which is letter `number` of core `from`
abbrev pub requested : ℕ → ℕ → RemoteCall → Item
requested from number call = Item.Received (core from) number (Message.Request call)

-- the item by which a core receives a reply with this status, which is letter `number` of core `from`
abbrev pub replied : ℕ → ℕ → Status → Item
replied from number status = Item.Received (core from) number (Message.Reply status)

-- the item by which a core receives a reply with E_OK and this value, which is letter `number` of core `from`
abbrev pub replied_with : ℕ → ℕ → ℕ → Item
replied_with from number value = Item.Received (core from) number (Message.Value EOk (pos value))

-- the stimuli as items
abbrev pub taken : List Word → List Item
taken words = map Item.Stim words

-- the items of a core after it has drained, without a shutdown of all cores
abbrev pub end : List Item
end = Item.PassEnd ∷ Item.Last None ∷ []

-- ---- the marks

-- what a core prints as it starts and the job of this autostarted task begins to run
abbrev pub begun : TaskRef → List Mark
begun t = Mark.StartupHook ∷ Mark.Activated t ∷ Mark.PreTaskHook t ∷ []

-- what a core prints when a service that the task called returns this status
abbrev pub returned : TaskRef → ServiceId → Status → List Mark
returned t service status = Mark.ServiceReturned (Runner.Task t) service status ∷ []

-- what a core prints when a service that the task called returns E_OK and this value
abbrev pub returned_with : TaskRef → ServiceId → ℕ → List Mark
returned_with t service value = Mark.ValueReturned (Runner.Task t) service (pos value) ∷ []

-- what a core prints when a service that the task called returns this error, and ErrorHook is called
abbrev pub failed : TaskRef → ServiceId → Status → List Mark
failed t service status = returned t service status ++ Mark.ErrorHook status ∷ []

-- what a core prints when task `t` activates the task `other` with success
abbrev pub activated_by : TaskRef → TaskRef → List Mark
activated_by t other = Mark.Activated other ∷ returned t Service.ActivateTask EOk

-- what a core prints when the task begins to wait for the events of this mask
abbrev pub awaited : TaskRef → ℕ → List Mark
awaited t mask = Mark.PostTaskHook t ∷ Mark.EventAwaited t mask ∷ []

-- what a core prints when the running job of the task ends
abbrev pub ended : TaskRef → List Mark
ended t = Mark.PostTaskHook t ∷ Mark.Terminated t ∷ []

-- what a core prints when a job of the task begins to run, and ends
abbrev pub run_to_end : TaskRef → List Mark
run_to_end t = Mark.PreTaskHook t ∷ ended t

-- ---- an example of one core

-- The core, the stimuli that it takes one after another, and the marks that it prints.
pub record OneCore : Type 0 where
  pub core : Core
  pub stimuli : List Word
  pub marks : List Mark

-- The example of one core alone, which passes the gates, takes its stimuli, drains and ends.
abbrev pub of_one_core : OneCore → Example
of_one_core a = record {
  plan = plan_of (a.core ∷ []);
  stimuli = given_to 0 a.stimuli ∷ [];
  blocks = record { items = gates alone ++ taken a.stimuli ++ Item.Drained ∷ end; marks = a.marks } ∷ [];
}
