-- A core's history and what is read off it: jobs, who runs, the outbox, the gates.
--
-- A history is the list of what a core took and did, the newest first, so that every reading is a
-- fold with a named step. The kernel stores no history: it keeps the readings.
use Rattle.std.specs.Prelude.{ℕ, suc, ◌+◌, ◌==◌, ◌&&◌, nat_lt, ℤ, Bool, true, false, not, if◌then◌else◌, Option, Some, None, is_some, List, [], ◌∷◌, ◌++◌, length, drop, replicate}
use Rattle.std.specs.{Int.bit_not, Int.w32, Int.Bits.bit_and, Int.Bits.bit_or, List.list_any, Option.option_map_or}
use Rattle.osbase.specs.{declared.statuses.Status.Status, declared.statuses.Status.TheVariants.EOk, declared.statuses.ServiceId.ServiceId, declared.statuses.ServiceId.TheVariants.Schedule, declared.references.CoreId.CoreId, declared.references.TaskRef.TaskRef, declared.references.IsrRef.IsrRef, declared.references.CounterRef.CounterRef, declared.references.AlarmRef.AlarmRef, declared.references.TableRef.TableRef, declared.references.Runner.Runner, declared.messages.Letter.Letter, declared.messages.Message.Message, declared.items.CoreSet.CoreSet, declared.items.Agreement.Agreement, declared.items.Item.Item, declared.marks.Mark.Mark, declared.limits.TheConstants.CORES, declared.histories.Job.Job, declared.histories.HeldResource.HeldResource, declared.histories.OpenCall.OpenCall, declared.histories.TaskEvents.TaskEvents, declared.histories.Sent.Sent, declared.histories.Phase.Phase, declared.histories.Course.Course, Phases.halted_from}

-- What happens without a printed line. [own]
pub data Note : Type 0 where
  -- a call of a job stays open until what it awaits comes
  Opened : OpenCall → Note
  -- a letter for the core that is named joins the outbox
  Queued : CoreId → Letter → Note
  -- the runner's oldest live job takes a resource, and gives one back
  ResourceOccupied : Runner → HeldResource → Note
  ResourceReleased : Runner → ℕ → Note
  -- a counter is incremented
  CounterIncremented : CounterRef → Note
  -- an alarm is set: it is due after the first number of counts of its counter, and then each time after the second
  -- number of counts, or never again if that is 0; and an alarm is cancelled
  AlarmSet : AlarmRef → ℕ → ℕ → Note
  AlarmCancelled : AlarmRef → Note
  -- a schedule table starts, and its first period begins after this many counts; a table stops, or no longer waits; and
  -- the second of two tables waits for the end of a period of the first
  TableStarted : TableRef → ℕ → Note
  TableStopped : TableRef → Note
  TableNext : TableRef → TableRef → Note
  -- the runner's oldest live job suspends interrupts once more, and resumes them once
  InterruptsSuspended : Runner → Note
  InterruptsResumed : Runner → Note
  -- the core goes down: it schedules and serves no longer
  WentDown : Note
  -- an operation of the runner's oldest live job is done, with this status and value
  Done : Runner → Status → Option ℤ → Note

-- A history's entry: an item that the core took, a mark, which is exactly one line of its trace, or a note. [own]
pub data Entry : Type 0 where
  Took : Item → Entry
  Printed : Mark → Entry
  Noted : Note → Entry

-- A core's history: its entries, the newest first. [own]
abbrev pub History : Type 0
History = List Entry

-- Equality of references.
abbrev pub same_core : CoreId → CoreId → Bool
same_core a b = a.number == b.number

abbrev pub same_task : TaskRef → TaskRef → Bool
same_task a b = same_core a.core b.core && (a.index == b.index)

abbrev pub same_isr : IsrRef → IsrRef → Bool
same_isr a b = same_core a.core b.core && (a.index == b.index)

abbrev pub same_runner : Runner → Runner → Bool
same_runner (Runner.Task a) (Runner.Task b) = same_task a b
same_runner (Runner.Isr a) (Runner.Isr b) = same_isr a b
same_runner (Runner.Task a) (Runner.Isr b) = false
same_runner (Runner.Isr a) (Runner.Task b) = false

-- The printed lines, in the order of the trace. [own]
abbrev pub marks_of : History → List Mark
marks_of [] = []
marks_of (Printed m ∷ h) = marks_of h ++ m ∷ []
marks_of (Took i ∷ h) = marks_of h
marks_of (Noted n ∷ h) = marks_of h

-- The items, in the order in which they were taken. [own]
abbrev pub items_of : History → List Item
items_of [] = []
items_of (Took i ∷ h) = items_of h ++ i ∷ []
items_of (Printed m ∷ h) = items_of h
items_of (Noted n ∷ h) = items_of h

-- How many items were taken, with this entry counted too; `count` is the number before the entry.
abbrev pub items_after : Entry → ℕ → ℕ
items_after (Took i) count = count + 1
items_after (Printed m) count = count
items_after (Noted n) count = count

-- How many items were taken in this history.
abbrev pub item_count : History → ℕ
item_count [] = 0
item_count (e ∷ h) = items_after e (item_count h)

-- The list, which has the smallest stamp first, without the oldest job of this task or ISR.
abbrev pub without_oldest : Runner → List Job → List Job
without_oldest r [] = []
without_oldest r (j ∷ js) = if same_runner j.runner r then js else j ∷ without_oldest r js

-- The oldest job of this task or ISR in the list, which has the smallest stamp first; none if it has no job there.
abbrev pub oldest : Runner → List Job → Option Job
oldest r [] = None
oldest r (j ∷ js) = if same_runner j.runner r then Some j else oldest r js

-- The list with the oldest job of this runner at the end, with a new stamp. If the runner has no job, nothing changes.
abbrev pub stamped_anew : Runner → ℕ → List Job → List Job
stamped_anew r stamp jobs = option_map_or (λ (j : Job). without_oldest r jobs ++ record j { stamp = stamp } ∷ []) (oldest r jobs) jobs

-- The live jobs of tasks after an entry, the smallest stamp first; `isr_jobs_after` has those of ISRs. `stamp` is the
-- place of the entry in the history. An activation begins a job with this stamp. A release from waiting gives the stamp
-- to the task's oldest live job, which so comes behind the others of its priority. A termination ends the task's oldest
-- live job. [OSEK/VDX OS 2.2.3, section 4.3 and 4.5; the code has the same list, and counts entries for the stamps.]
abbrev pub jobs_after : Entry → ℕ → List Job → List Job
jobs_after (Printed (Mark.Activated t)) stamp jobs = jobs ++ record { runner = Runner.Task t; stamp = stamp } ∷ []
jobs_after (Printed (Mark.Released t)) stamp jobs = stamped_anew (Runner.Task t) stamp jobs
jobs_after (Printed (Mark.Terminated t)) stamp jobs = without_oldest (Runner.Task t) jobs
jobs_after e stamp jobs = jobs

-- The live jobs of tasks, the smallest stamp first; `isr_jobs` has those of ISRs.
abbrev pub live_jobs : History → List Job
live_jobs [] = []
live_jobs (e ∷ h) = jobs_after e (length h) (live_jobs h)

-- How many of these jobs a task or an ISR has.
abbrev pub job_count : Runner → List Job → ℕ
job_count r [] = 0
job_count r (j ∷ js) = if same_runner j.runner r then suc (job_count r js) else job_count r js

-- The current task, once the task `t` has left the running state: none if the current task was `t`.
abbrev pub left_by : TaskRef → Option TaskRef → Option TaskRef
left_by t None = None
left_by t (Some u) = if same_task t u then None else Some u

-- What an entry does to the current task: a task that enters the running state becomes the current one, and is no
-- longer current once it leaves that state or ends. [OSEK/VDX OS 2.2.3, section 4.2; the code keeps the same task.]
abbrev pub current_after : Entry → Option TaskRef → Option TaskRef
current_after (Printed (Mark.PreTaskHook t)) current = Some t
current_after (Printed (Mark.PostTaskHook t)) current = left_by t current
current_after (Printed (Mark.Terminated t)) current = left_by t current
current_after e current = current

-- The current task: it entered the running state and has not left it since. None if there is no such task.
abbrev pub current_task : History → Option TaskRef
current_task [] = None
current_task (e ∷ h) = current_after e (current_task h)

-- The oldest of these jobs that the task has, if there is a task: of the current task and the live jobs, the current
-- job. [OSEK/VDX OS 2.2.3, section 4.3]
abbrev pub oldest_of : Option TaskRef → List Job → Option Job
oldest_of None jobs = None
oldest_of (Some t) jobs = oldest (Runner.Task t) jobs

-- The current job: the oldest live job of the current task.
abbrev pub current_job : History → Option Job
current_job h = oldest_of (current_task h) (live_jobs h)

-- The jobs have the same stamp, so they are the same: no two jobs of a core have one stamp.
abbrev pub same_job : Job → Job → Bool
same_job a b = a.stamp == b.stamp

-- A call of Schedule was granted: the service is Schedule, and the status is E_OK.
abbrev pub gives_way : ServiceId → Status → Bool
gives_way Schedule EOk = true
gives_way service status = false

-- The runner that gives way after an entry: one whose call of Schedule is granted, and none once the core takes a new
-- item. [OSEK/VDX OS 2.2.3, section 13.2.3.4]
abbrev pub giving_way_after : Entry → Option Runner → Option Runner
giving_way_after (Took item) r = None
giving_way_after (Printed (Mark.ServiceReturned q service status)) r = if gives_way service status then Some q else r
giving_way_after e r = r

-- The task or ISR whose call of Schedule was granted during the newest item, if there is one: it gives way during this
-- item only.
abbrev pub giving_way : History → Option Runner
giving_way [] = None
giving_way (e ∷ h) = giving_way_after e (giving_way h)

-- Resources, the newest first, without the newest one of this index. [OSEK/VDX OS 2.2.3, section 8.2]
abbrev pub without_resource : ℕ → List HeldResource → List HeldResource
without_resource index [] = []
without_resource index (x ∷ held) = if x.index == index then held else x ∷ without_resource index held

-- The greater of two priorities.
abbrev pub greater : ℕ → ℕ → ℕ
greater a b = if nat_lt a b then b else a

-- The greatest ceiling of these held resources; 0 if none is held. [OSEK/VDX OS 2.2.3, section 8.5]
abbrev pub greatest_ceiling : List HeldResource → ℕ
greatest_ceiling [] = 0
greatest_ceiling (x ∷ held) = greater x.ceiling (greatest_ceiling held)

-- The resource of this index is among these held resources.
abbrev pub is_held : ℕ → List HeldResource → Bool
is_held index held = list_any (λ (x : HeldResource). x.index == index) held

-- The events of a task, each a bit of its mask, before anything happened to them: none is set, and the task waits for
-- none. [OSEK/VDX OS 2.2.3, section 7 and 13.5.3]
abbrev pub no_events : TaskEvents
no_events = record { set = 0; awaited = None }

-- The events of a task, with those of the mask set too.
abbrev pub with_set : ℕ → TaskEvents → TaskEvents
with_set mask events = record events { set = bit_or events.set mask }

-- The events of a task, with those of the mask cleared.
abbrev pub with_cleared : ℕ → TaskEvents → TaskEvents
with_cleared mask events = record events { set = bit_and events.set (bit_not w32 mask) }

-- The events of a task, with no event set. What the task waits for stays the same.
abbrev pub with_none_set : TaskEvents → TaskEvents
with_none_set events = record events { set = 0 }

-- The events of a task that now waits for one of `awaited`, or does not wait if that is none.
abbrev pub with_awaited : Option ℕ → TaskEvents → TaskEvents
with_awaited awaited events = record events { awaited = awaited }

-- Two masks have an event in common.
abbrev pub have_common : ℕ → ℕ → Bool
have_common a b = not (bit_and a b == 0)

-- The task waits. [OSEK/VDX OS 2.2.3, section 4.2.1]
abbrev pub is_waiting : TaskEvents → Bool
is_waiting events = is_some events.awaited

-- The task waits for at least one of these events.
abbrev pub awaits_one_of : ℕ → TaskEvents → Bool
awaits_one_of mask events = option_map_or (have_common mask) events.awaited false

-- The first job, or the second if there is one with a greater priority.
abbrev pub better_of : (Job → ℕ) → Job → Option Job → Job
better_of priority j None = j
better_of priority j (Some k) = if nat_lt (priority j) (priority k) then k else j

-- The first of the jobs with the greatest priority. In a list ordered by stamps, it is the oldest of them.
abbrev pub first_greatest : (Job → ℕ) → List Job → Option Job
first_greatest priority [] = None
first_greatest priority (j ∷ js) = Some (better_of priority j (first_greatest priority js))

-- The open call, once a call of this runner is closed: none if the open call was this runner's.
abbrev pub closed_by : Runner → Option OpenCall → Option OpenCall
closed_by r None = None
closed_by r (Some call) = if same_runner call.runner r then None else Some call

-- The open call after an entry. A call stays open until its operation is done, its caller has ended, or the core is
-- halted. [own: a service on another core's object is a request and its reply]
abbrev pub open_after : Entry → Option OpenCall → Option OpenCall
open_after (Noted (Opened call)) open_call = Some call
open_after (Noted (Done r status value)) open_call = closed_by r open_call
open_after (Printed (Mark.Terminated t)) open_call = closed_by (Runner.Task t) open_call
open_after (Printed (Mark.IsrLeft i)) open_call = closed_by (Runner.Isr i) open_call
open_after (Took (Item.Halt core status)) open_call = None
open_after e open_call = open_call

-- The open call of a job, if there is one: it was opened, and nothing has closed it since.
abbrev pub open_call : History → Option OpenCall
open_call [] = None
open_call (e ∷ h) = open_after e (open_call h)

-- The outbox after an entry, its front first: a queued letter joins at the end, and a post takes the front. [own]
abbrev pub outbox_after : Entry → List Sent → List Sent
outbox_after (Noted (Queued d x)) outbox = outbox ++ record { to = d; letter = x } ∷ []
outbox_after (Took (Item.Posted d)) outbox = drop 1 outbox
outbox_after e outbox = outbox

-- The outbox, its front first: the letters that were queued and not posted, each with the core that it is for.
abbrev pub outbox : History → List Sent
outbox [] = []
outbox (e ∷ h) = outbox_after e (outbox h)

-- How many letters were queued for core `d`. [own]
abbrev pub queued_count : CoreId → History → ℕ
queued_count d [] = 0
queued_count d (Noted (Queued e x) ∷ h) = if same_core e d then suc (queued_count d h) else queued_count d h
queued_count d (e ∷ h) = queued_count d h

-- How many letters were received from core `s`.
abbrev pub received_count : CoreId → History → ℕ
received_count s [] = 0
received_count s (Took (Item.Received from number m) ∷ h) = if same_core from s then suc (received_count s h) else received_count s h
received_count s (e ∷ h) = received_count s h

abbrev pub letter_with : ℕ → Message → Letter
letter_with number message = record { number = number; message = message }

-- The letters that this core queued for core `d`, the oldest first. [own; the code has mailboxes.]
abbrev pub sent : CoreId → History → List Letter
sent d [] = []
sent d (Noted (Queued e x) ∷ h) = if same_core e d then sent d h ++ x ∷ [] else sent d h
sent d (e ∷ h) = sent d h

-- The letter at the front of the outbox, as a list; an empty list if the outbox is empty.
abbrev pub front_letter : List Sent → List Letter
front_letter [] = []
front_letter (s ∷ ss) = s.letter ∷ []

-- The letters that this core posted to core `d`, the oldest first. [own; the code has mailboxes.]
abbrev pub posted : CoreId → History → List Letter
posted d [] = []
posted d (Took (Item.Posted e) ∷ h) = if same_core e d then posted d h ++ front_letter (outbox h) else posted d h
posted d (e ∷ h) = posted d h

-- The letters that this core received from core `s`, the oldest first. [own; the code has mailboxes.]
abbrev pub received : CoreId → History → List Letter
received s [] = []
received s (Took (Item.Received from number m) ∷ h) = if same_core from s then received s h ++ letter_with number m ∷ [] else received s h
received s (e ∷ h) = received s h

-- The phase after the first gate. If the application modes are in conflict, the core is at its end.
abbrev pub phase_past_first_gate : Agreement → Phase
phase_past_first_gate Agreement.Conflict = Phase.Ended
phase_past_first_gate (Agreement.Mode m) = Phase.BetweenGates
phase_past_first_gate Agreement.NoMode = Phase.BetweenGates

-- The phase that an item leads to. Nothing else changes the phase.
-- [AUTOSAR SWS OS 4.x, SWS_Os_00579 and SWS_Os_00580, the two synchronisation points of StartOS]
abbrev pub phase_on : Item → Phase → Phase
phase_on Item.On p = Phase.Boot
phase_on (Item.Began k status) p = p
phase_on Item.Entered p = Phase.FirstGate
phase_on (Item.Pass1 agreement) p = phase_past_first_gate agreement
phase_on Item.Readied p = Phase.SecondGate
phase_on (Item.Pass2 cores) p = Phase.Live
phase_on (Item.Stim stimulus) p = p
phase_on (Item.Posted core) p = p
phase_on (Item.Received from number message) p = p
phase_on (Item.Granted spinlock) p = p
phase_on (Item.Tried spinlock taken) p = p
phase_on (Item.Freed spinlock) p = p
phase_on (Item.Halt core status) p = p
phase_on Item.Drained p = Phase.Drained
phase_on Item.PassEnd p = Phase.Closing
phase_on (Item.Last shutdown) p = Phase.Ended

-- The phase after an entry: only an item changes it.
abbrev pub phase_after : Entry → Phase → Phase
phase_after (Took item) p = phase_on item p
phase_after (Printed m) p = p
phase_after (Noted n) p = p

-- The phase after a history, if the phase was `first` before it.
abbrev pub phase_from : Phase → History → Phase
phase_from first [] = first
phase_from first (e ∷ h) = phase_after e (phase_from first h)

-- The phase in which a core begins: boot for the master core, and off for every other core. [AUTOSAR SWS OS 4.x,
-- SWS_Os_00579 and SWS_Os_00580, the two synchronisation points of StartOS]
abbrev pub first_phase : Bool → Phase
first_phase is_master = if is_master then Phase.Boot else Phase.Off

-- The phase of a core, the master or another, after its history.
abbrev pub phase_of : Bool → History → Phase
phase_of is_master h = phase_from (first_phase is_master) h

-- Whether the core runs after an entry: once it went down, it is down; a halt of all cores halts it, unless it is down.
-- [AUTOSAR SWS OS 4.x, ShutdownOS and ShutdownAllCores; that a core that is down stays so: own]
abbrev pub course_after : Entry → Course → Course
course_after (Noted WentDown) course = Course.Down
course_after (Took (Item.Halt core status)) course = halted_from course
course_after e course = course

-- Whether the core runs, is down or is halted after its history.
abbrev pub course_of : History → Course
course_of [] = Course.Going
course_of (e ∷ h) = course_after e (course_of h)

-- How many entries of the start list are done after this entry of the history; `count` is the number before it. [own]
abbrev pub began_after : Entry → ℕ → ℕ
began_after (Took (Item.Began k s)) count = count + 1
began_after e count = count

-- How many entries of the start list are done.
abbrev pub began_count : History → ℕ
began_count [] = 0
began_count (e ∷ h) = began_after e (began_count h)

-- What comparing the started cores' application modes gave, after an entry: only the first gate, once passed, gives it.
-- [AUTOSAR SWS OS 4.x, SWS_Os_00608 to SWS_Os_00610]
abbrev pub agreement_after : Entry → Option Agreement → Option Agreement
agreement_after (Took (Item.Pass1 a)) agreement = Some a
agreement_after e agreement = agreement

-- What comparing the started cores' application modes gave, once the first gate is passed: a mode, none, or a conflict.
abbrev pub agreement_of : History → Option Agreement
agreement_of [] = None
agreement_of (e ∷ h) = agreement_after e (agreement_of h)

-- The empty set of cores.
abbrev pub no_cores : CoreSet
no_cores = record { members = replicate CORES false }

-- The cores that were started, as known after an entry: only the second gate, once passed, tells them. [own]
abbrev pub started_after : Entry → CoreSet → CoreSet
started_after (Took (Item.Pass2 cores)) started = cores
started_after e started = started

-- The cores that were started, once the second gate is passed; no cores before.
abbrev pub started_cores : History → CoreSet
started_cores [] = no_cores
started_cores (e ∷ h) = started_after e (started_cores h)
