-- What holds of every state holds again after an entry.
use Rattle.std.proofs.Common.{◌≡◌, ◌||◌, ℕ, zero, suc, ◌+◌, ◌≤◌, ◌<◌, slice_index, List, Bool, true, false, cond, Option, Some, None, IsTrue, IfSome, [], ◌∷◌, ◌++◌, length, refl, ap, sym, subst, ◌∙◌, arith, length-append, is_some, nat_le}
use Rattle.std.specs.{List.list_all, List.slice_get, List.slice_set, Option.option_map_or}
use Rattle.std.proofs.{lemmas.Bool.false≢true, lemmas.Bool.leb-true, lemmas.List.Elements.All-map, lemmas.List.Elements.All-set, lemmas.List.Elements.All-weaker}
use Rattle.osbase.specs.{declared.references.CoreId.CoreId, declared.references.TaskRef.TaskRef, declared.items.Item.Item, declared.items.Agreement.Agreement, declared.histories.Course.Course, declared.histories.Phase.Phase, declared.histories.Sent.Sent, declared.references.Runner.Runner, declared.marks.Mark.Mark, declared.references.IsrRef.IsrRef, Interrupts.entered_after, Interrupts.isr_count, Interrupts.isr_jobs_after, Sets.slot_of, Spins.spins_after, declared.histories.Job.Job, declared.histories.GotSpinlock.GotSpinlock, declared.histories.OpenCall.OpenCall, Phases.is_before_live, Phases.is_past_first_gate}
use Rattle.oscript.specs.{declared.Op.Op, Runners.Row, Runners.row_step}
use Rattle.osrunner.specs.Rows.{row_at, rows_by}
use Rattle.osjobs.specs.Jobs.{Each, IsrState, JobState, is_plain, isrs_by, jobs_by}
use Rattle.osjobs.proofs.Stamps.{each-anew, each-less, each-push, each-weaker}
use Rattle.osbase.specs.History.{Entry, Printed, Noted, Took, ResourceOccupied, agreement_after, began_after, closed_by, job_count, jobs_after, open_after, same_core, same_runner, stamped_anew, without_oldest, phase_on}
use Rattle.osplan.specs.{declared.plans.Core.Core, declared.plans.Task.Task, View.own_task}
use Rattle.osbase.proofs.Places.{passes-at}
use Rattle.osclock.specs.Clocks.{AreClocks, ClockState}
use Rattle.ostable.specs.{Tables.AreTables, Tables.TableStates, Waiting.all_wait_by_counter}
use Rattle.osjobs.specs.Priorities.{is_own_runner}
use Rattle.osprogress.specs.{declared.progress.Progress.Progress, Border.BorderState, Border.one_more, Border.received_after, Progress.progress_after}
use Rattle.osstate.specs.{State.KernelState, Steps.runner_by}
use Rattle.osstate.specs.Sound.{HasBorder, HasClocks, HasJobs, IsSound, IsUnderWay, UsesAtMost, activation_limit, entered_limit, interrupt_limit, is_agreed, is_awaited_known, is_first_gate}
use Rattle.osstate.proofs.{JobLists.within_append, JobLists.job_count-stamped_anew, JobLists.job_count-without_oldest, Room.entered_on, Room.isr_count-without, Room.length_within}

-- ---- what an entry leaves: its part is given anew, and the others stay

-- what is older than the next entry is older than the one after it
older-still : (entries : ℕ) (jobs : List Job) → Each (λ (j : Job). j.stamp < entries) jobs → Each (λ (j : Job). j.stamp < entries + 1) jobs
older-still entries jobs older = each-weaker (λ (j : Job). j.stamp < entries) (λ (j : Job). j.stamp < entries + 1) jobs (λ j before. omega (arith, before)) older

pub under-way : {p : Progress} → IsUnderWay p → IsUnderWay (record p { entries = p.entries + 1 })
under-way sound = record { agreed = sound.agreed; began = omega (arith, sound.began); items = omega (arith, sound.items) }

-- what is at most a number is at most that number plus one
uses-later : {most : ℕ} {row : Row} → UsesAtMost most row → UsesAtMost (most + 1) row
uses-later {most = most} {row = row} few = record {
  ticks = omega (arith, few.ticks);
  locks = All-weaker (λ (n : ℕ). n ≤ most) (λ (n : ℕ). n ≤ most + 1) (λ n less. omega (arith, less)) row.lock_used few.locks;
}

pub jobs-later : {core : Core} {phase : Phase} {entries : ℕ} {s : JobState} → HasJobs core phase entries s → HasJobs core phase (entries + 1) s
jobs-later {entries = entries} {s = s} sound = record {
  within = sound.within;
  stamps = older-still entries s.jobs sound.stamps;
  idle = sound.idle;
  interrupts = sound.interrupts;
  entered = sound.entered;
  used = (λ place. uses-later (sound.used place));
  tasks = sound.tasks;
}

-- an entry charges a job with one tick of each budget at most
uses-step : (script : List Op) (e : Entry) (row : Row) (most : ℕ) → UsesAtMost most row → UsesAtMost (most + 1) (row_step script e row)
uses-step script (Printed Mark.Tick) row most few = record {
  ticks = omega (arith, few.ticks);
  locks = All-map (λ (n : ℕ). n ≤ most + 1) suc row.lock_used (All-weaker (λ (n : ℕ). n ≤ most) (λ (n : ℕ). suc n ≤ most + 1) (λ n less. omega (arith, less)) row.lock_used few.locks);
}
uses-step script (Printed (Mark.Terminated t)) row most few = record { ticks = omega arith; locks = (uses-later few).locks }
uses-step script (Printed (Mark.IsrLeft i)) row most few = record { ticks = omega arith; locks = (uses-later few).locks }
uses-step script (Printed (Mark.EventAwaited t mask)) row most few = record { ticks = omega arith; locks = (uses-later few).locks }
uses-step script (Noted (ResourceOccupied r x)) row most few = record {
  ticks = omega (arith, few.ticks);
  locks = All-set (λ (n : ℕ). n ≤ most + 1) row.lock_used x.index 0 (omega arith) (uses-later few).locks;
}
uses-step script e row most few = record { ticks = omega (arith, few.ticks); locks = (uses-later few).locks }

uses-by : (script : List Op) (e : Entry) (who : Option Runner) (rows : List Row) (most : ℕ) → ((place : ℕ) → UsesAtMost most (row_at place rows)) → (place : ℕ) → UsesAtMost (most + 1) (row_at place (rows_by script e who rows))
uses-by script e None rows most few place = uses-later (few place)
uses-by script e (Some r) rows most few place = at (row_step script e (row_at (slot_of r) rows)) (uses-step script e (row_at (slot_of r) rows) most (few (slot_of r))) rows (slot_of r) place few
  where
    at : (row : Row) → UsesAtMost (most + 1) row → (all : List Row) (i k : ℕ) → ((j : ℕ) → UsesAtMost most (row_at j all)) → UsesAtMost (most + 1) (row_at k (slice_set all i row))
    at row h [] i k each = uses-later (each k)
    at row h (x ∷ all) zero zero each = h
    at row h (x ∷ all) zero (suc k) each = uses-later (each (suc k))
    at row h (x ∷ all) (suc i) zero each = uses-later (each zero)
    at row h (x ∷ all) (suc i) (suc k) each = at row h all i k (λ j. each (suc j))

-- the jobs are sound after an entry if those of tasks and of ISRs are then within their limits
pub jobs-on : {core : Core} {phase : Phase} {entries : ℕ} {s : JobState} (script : List Op) (e : Entry) (stamp : ℕ) → HasJobs core phase entries s
    → ((r : Runner) → job_count r (jobs_after e stamp s.jobs) ≤ activation_limit core r) → Each (λ (j : Job). j.stamp < entries + 1) (jobs_after e stamp s.jobs) → (IsTrue (is_before_live phase) → jobs_after e stamp s.jobs ≡ [])
    → ((r : Runner) → job_count r (isr_jobs_after e stamp s.isrs.live) ≤ interrupt_limit core r) → ((i : IsrRef) → isr_count i (entered_after e s.isrs.entered) ≤ entered_limit core i)
    → HasJobs core phase (entries + 1) (jobs_by script e stamp s)
jobs-on {entries = entries} {s = s} script e stamp sound within stamps idle interrupts entered = record {
  within = within;
  stamps = stamps;
  idle = idle;
  interrupts = interrupts;
  entered = entered;
  used = uses-by script e (runner_by e s) s.rows entries sound.used;
  tasks = sound.tasks;
}

pub border-later : {core : Core} {entries : ℕ} {border : BorderState} {got : List GotSpinlock} → HasBorder core entries border → HasBorder core (entries + 1) (record border { spins = got })
border-later sound = record { caller = sound.caller; awaited = sound.awaited; queued = (λ k. omega (arith, sound.queued k)); received = (λ k. omega (arith, sound.received k)) }

pub goes-on : {priorities room : ℕ} {s : KernelState} (tasks : JobState) (border : BorderState) {clocks : ClockState} {timetables : TableStates} → IsSound priorities room s
    → HasJobs s.view.own s.progress.phase (s.progress.entries + 1) tasks → HasBorder s.view.own (s.progress.entries + 1) border → HasClocks s.view.own clocks timetables
    → IsSound priorities room (record s { progress = record s.progress { entries = s.progress.entries + 1 }; tasks = tasks; border = border; clocks = clocks; tables = timetables })
goes-on tasks border sound jobs crossing times = record { tasks = sound.tasks; objects = sound.objects; jobs = jobs; progress = under-way sound.progress; border = crossing; times = times }

-- the jobs stay sound at an entry that begins and ends no job and enters no ISR
pub jobs-kept : {core : Core} {phase : Phase} {entries : ℕ} {s : JobState} (script : List Op) (e : Entry) (stamp : ℕ) → jobs_after e stamp s.jobs ≡ s.jobs → isrs_by e stamp s.isrs ≡ s.isrs → HasJobs core phase entries s
    → HasJobs core phase (entries + 1) (jobs_by script e stamp s)
jobs-kept {core} {entries = entries} {s = s} script e stamp same none sound = jobs-on script e stamp sound
    (λ r. subst (λ (jobs : List Job). job_count r jobs ≤ activation_limit core r) (sym same) (sound.within r))
    (subst (Each (λ (j : Job). j.stamp < entries + 1)) (sym same) (older-still entries s.jobs sound.stamps))
    (λ before. same ∙ sound.idle before)
    (λ r. subst (λ (isrs : IsrState). job_count r isrs.live ≤ interrupt_limit core r) (sym none) (sound.interrupts r))
    (λ i. subst (λ (isrs : IsrState). isr_count i isrs.entered ≤ entered_limit core i) (sym none) (sound.entered i))

pub same-jobs : {priorities room : ℕ} {s : KernelState} (script : List Op) (e : Entry) → jobs_after e 0 s.tasks.jobs ≡ s.tasks.jobs → isrs_by e 0 s.tasks.isrs ≡ s.tasks.isrs → IsSound priorities room s
    → IsSound priorities room (record s { progress = record s.progress { entries = s.progress.entries + 1 }; tasks = jobs_by script e 0 s.tasks })
same-jobs {s = s} script e same none sound =
    goes-on (jobs_by script e 0 s.tasks) s.border sound (jobs-kept script e 0 same none sound.jobs) (border-later sound.border) sound.times

pub activated : (priorities room : ℕ) (t : TaskRef) (s : KernelState) → IsSound priorities room s → job_count (Runner.Task t) s.tasks.jobs < activation_limit s.view.own (Runner.Task t) → is_before_live s.progress.phase ≡ false → IsSound priorities room (record s { progress = record s.progress { entries = s.progress.entries + 1 }; tasks = jobs_by [] (Printed (Mark.Activated t)) s.progress.entries s.tasks })
activated priorities room t s sound below live = goes-on _ _ sound jobs (border-later sound.border) sound.times
  where
    job : Job
    job = record { runner = Runner.Task t; stamp = s.progress.entries }

    jobs : HasJobs s.view.own s.progress.phase (s.progress.entries + 1) (jobs_by [] (Printed (Mark.Activated t)) s.progress.entries s.tasks)
    jobs = jobs-on [] (Printed (Mark.Activated t)) s.progress.entries sound.jobs
        (within_append (activation_limit s.view.own) s.tasks.jobs job sound.jobs.within below)
        (each-push (λ (j : Job). j.stamp < s.progress.entries + 1) s.tasks.jobs job (older-still s.progress.entries s.tasks.jobs sound.jobs.stamps) (omega arith))
        (λ e. absurd (false≢true (sym live ∙ e)))
        sound.jobs.interrupts sound.jobs.entered

-- a call that is open after an entry of a runner was open before
still-open : (P : OpenCall → Type 0) (r : Runner) (open_call : Option OpenCall) → IfSome open_call P → IfSome (closed_by r open_call) P
still-open P r None holds = tt
still-open P r (Some call) holds = elim (same_runner call.runner r) as (λ b. IfSome (cond b None (Some call)) P) [ true ↦ tt | false ↦ holds ]

pub border-closed : {core : Core} {entries : ℕ} {border : BorderState} {got : List GotSpinlock} (r : Runner) → HasBorder core entries border → HasBorder core (entries + 1) (record border { open_call = closed_by r border.open_call; spins = got })
border-closed {core = core} {border = border} r sound = record {
  caller = still-open (λ (call : OpenCall). IsTrue (is_own_runner core call.runner)) r border.open_call sound.caller;
  awaited = still-open (λ (call : OpenCall). IsTrue (is_awaited_known call.awaits)) r border.open_call sound.awaited;
  queued = (λ k. omega (arith, sound.queued k));
  received = (λ k. omega (arith, sound.received k));
}

pub terminated : (priorities room : ℕ) (t : TaskRef) (s : KernelState) → IsSound priorities room s → IsSound priorities room (record s { progress = record s.progress { entries = s.progress.entries + 1 }; tasks = jobs_by [] (Printed (Mark.Terminated t)) s.progress.entries s.tasks; border = record s.border { open_call = closed_by (Runner.Task t) s.border.open_call; spins = spins_after (Printed (Mark.Terminated t)) s.border.open_call s.border.spins } })
terminated priorities room t s sound = goes-on _ _ sound jobs (border-closed (Runner.Task t) sound.border) sound.times
  where
    jobs : HasJobs s.view.own s.progress.phase (s.progress.entries + 1) (jobs_by [] (Printed (Mark.Terminated t)) s.progress.entries s.tasks)
    jobs = jobs-on [] (Printed (Mark.Terminated t)) s.progress.entries sound.jobs
        (λ r. omega (arith, sound.jobs.within r, job_count-without_oldest r (Runner.Task t) s.tasks.jobs))
        (each-less (λ (j : Job). j.stamp < s.progress.entries + 1) (Runner.Task t) s.tasks.jobs (older-still s.progress.entries s.tasks.jobs sound.jobs.stamps))
        (λ e. ap (without_oldest (Runner.Task t)) (sound.jobs.idle e))
        sound.jobs.interrupts sound.jobs.entered

pub released : (priorities room : ℕ) (t : TaskRef) (s : KernelState) → IsSound priorities room s → IsSound priorities room (record s { progress = record s.progress { entries = s.progress.entries + 1 }; tasks = jobs_by [] (Printed (Mark.Released t)) s.progress.entries s.tasks })
released priorities room t s sound = goes-on _ _ sound jobs (border-later sound.border) sound.times
  where
    jobs : HasJobs s.view.own s.progress.phase (s.progress.entries + 1) (jobs_by [] (Printed (Mark.Released t)) s.progress.entries s.tasks)
    jobs = jobs-on [] (Printed (Mark.Released t)) s.progress.entries sound.jobs
        (λ r. omega (arith, sound.jobs.within r, job_count-stamped_anew r (Runner.Task t) s.progress.entries s.tasks.jobs))
        (each-anew (λ (j : Job). j.stamp < s.progress.entries + 1) (Runner.Task t) s.progress.entries s.tasks.jobs (older-still s.progress.entries s.tasks.jobs sound.jobs.stamps) (λ j. omega arith))
        (λ e. ap (stamped_anew (Runner.Task t) s.progress.entries) (sound.jobs.idle e))
        sound.jobs.interrupts sound.jobs.entered

-- ---- ISRs

pub accepted : (priorities room : ℕ) (i : IsrRef) (s : KernelState) → IsSound priorities room s → job_count (Runner.Isr i) s.tasks.isrs.live < interrupt_limit s.view.own (Runner.Isr i)
    → IsSound priorities room (record s { progress = record s.progress { entries = s.progress.entries + 1 }; tasks = jobs_by [] (Printed (Mark.InterruptAccepted i)) s.progress.entries s.tasks })
accepted priorities room i s sound below = goes-on _ _ sound jobs (border-later sound.border) sound.times
  where
    jobs : HasJobs s.view.own s.progress.phase (s.progress.entries + 1) (jobs_by [] (Printed (Mark.InterruptAccepted i)) s.progress.entries s.tasks)
    jobs = jobs-on [] (Printed (Mark.InterruptAccepted i)) s.progress.entries sound.jobs sound.jobs.within (older-still s.progress.entries s.tasks.jobs sound.jobs.stamps) sound.jobs.idle
        (within_append (interrupt_limit s.view.own) s.tasks.isrs.live (record { runner = Runner.Isr i; stamp = s.progress.entries }) sound.jobs.interrupts below)
        sound.jobs.entered

pub isr_entered : (priorities room : ℕ) (i : IsrRef) (s : KernelState) → IsSound priorities room s → is_own_runner s.view.own (Runner.Isr i) ≡ true → IsSound priorities room (record s { progress = record s.progress { entries = s.progress.entries + 1 }; tasks = jobs_by [] (Printed (Mark.IsrEntered i)) s.progress.entries s.tasks })
isr_entered priorities room i s sound own = goes-on _ _ sound jobs (border-later sound.border) sound.times
  where
    jobs : HasJobs s.view.own s.progress.phase (s.progress.entries + 1) (jobs_by [] (Printed (Mark.IsrEntered i)) s.progress.entries s.tasks)
    jobs = jobs-on [] (Printed (Mark.IsrEntered i)) s.progress.entries sound.jobs sound.jobs.within (older-still s.progress.entries s.tasks.jobs sound.jobs.stamps) sound.jobs.idle
        sound.jobs.interrupts (entered_on s.view.own i s.tasks.isrs.entered own sound.jobs.entered)

pub isr_left : (priorities room : ℕ) (i : IsrRef) (s : KernelState) → IsSound priorities room s → IsSound priorities room (record s { progress = record s.progress { entries = s.progress.entries + 1 }; tasks = jobs_by [] (Printed (Mark.IsrLeft i)) s.progress.entries s.tasks; border = record s.border { open_call = closed_by (Runner.Isr i) s.border.open_call; spins = spins_after (Printed (Mark.IsrLeft i)) s.border.open_call s.border.spins } })
isr_left priorities room i s sound = goes-on _ _ sound jobs (border-closed (Runner.Isr i) sound.border) sound.times
  where
    jobs : HasJobs s.view.own s.progress.phase (s.progress.entries + 1) (jobs_by [] (Printed (Mark.IsrLeft i)) s.progress.entries s.tasks)
    jobs = jobs-on [] (Printed (Mark.IsrLeft i)) s.progress.entries sound.jobs sound.jobs.within (older-still s.progress.entries s.tasks.jobs sound.jobs.stamps) sound.jobs.idle
        (λ r. omega (arith, sound.jobs.interrupts r, job_count-without_oldest r (Runner.Isr i) s.tasks.isrs.live))
        (λ k. omega (arith, sound.jobs.entered k, isr_count-without k i s.tasks.isrs.entered))

-- without its oldest job a runner has fewer jobs than it may have
fewer : (r : Runner) (js : List Job) (most : ℕ) → 1 ≤ most → job_count r js ≤ most → job_count r (without_oldest r js) < most
fewer r [] most some within = omega (arith, some)
fewer r (j ∷ js) most some within = by (same_runner j.runner r) refl (λ rest. fewer r js most some rest)
  where
    by : (b : Bool) → same_runner j.runner r ≡ b → (job_count r js ≤ most → job_count r (without_oldest r js) < most) → job_count r (cond b js (j ∷ without_oldest r js)) < most
    by true e rest = let here : job_count r (j ∷ js) ≡ suc (job_count r js) = rw e refl in omega (arith, here, within)
    by false e rest =
        let here : job_count r (j ∷ js) ≡ job_count r js = rw e refl in
        let there : job_count r (j ∷ without_oldest r js) ≡ job_count r (without_oldest r js) = rw e refl in
        omega (arith, there, rest (omega (arith, here, within)))

some_allowed : (core : Core) (t : TaskRef) → list_all (λ (u : Task). nat_le 1 u.activations) core.tasks ≡ true → is_own_runner core (Runner.Task t) ≡ true → 1 ≤ activation_limit core (Runner.Task t)
some_allowed core t some own = by (own_task core t) refl own
  where
    listed : (u : Task) (b : Bool) → cond b (slice_get core.tasks t.index) None ≡ Some u → nat_le 1 u.activations ≡ true
    listed u true e = passes-at (λ (w : Task). nat_le 1 w.activations) core.tasks t.index u some e
    listed u false e = cc

    by : (o : Option Task) → own_task core t ≡ o → is_some o ≡ true → 1 ≤ option_map_or (λ (u : Task). u.activations) o 0
    by None e is = absurd (false≢true is)
    by (Some u) e is = leb-true 1 u.activations (listed u (same_core t.core core.id) e)

pub below : (priorities room : ℕ) (t : TaskRef) (s : KernelState) → IsSound priorities room s → is_own_runner s.view.own (Runner.Task t) ≡ true → job_count (Runner.Task t) (without_oldest (Runner.Task t) s.tasks.jobs) < activation_limit s.view.own (Runner.Task t)
below priorities room t s sound own =
    fewer (Runner.Task t) s.tasks.jobs (activation_limit s.view.own (Runner.Task t)) (some_allowed s.view.own t sound.tasks.some own) (sound.jobs.within (Runner.Task t))

-- there is a place for one job more
pub place : (priorities room : ℕ) (t : TaskRef) (s : KernelState) → IsSound priorities room s → job_count (Runner.Task t) s.tasks.jobs < activation_limit s.view.own (Runner.Task t) → length s.tasks.jobs < room
place priorities room t s sound below =
    let job : Job = record { runner = Runner.Task t; stamp = 0 } in
    let more = length_within s.view.own (s.tasks.jobs ++ job ∷ []) (within_append (activation_limit s.view.own) s.tasks.jobs job sound.jobs.within below) in
    omega (arith, sound.tasks.limits, more, length-append s.tasks.jobs (job ∷ []))

-- one more at a place exceeds a bound by at most one
pub one_more-within : (counts : List ℕ) (c : CoreId) (most : ℕ) → ((k : ℕ) → slice_index counts k ≤ most) → (k : ℕ) → slice_index (one_more c counts) k ≤ most + 1
one_more-within counts c most within k = at counts c.number k (omega (arith, within c.number)) within
  where
    at : (xs : List ℕ) (i k : ℕ) {v : ℕ} → v ≤ most + 1 → ((j : ℕ) → slice_index xs j ≤ most) → slice_index (slice_set xs i v) k ≤ most + 1
    at [] i k h all = omega (arith, all k)
    at (x ∷ xs) zero zero h all = h
    at (x ∷ xs) zero (suc k) h all = omega (arith, all (suc k))
    at (x ∷ xs) (suc i) zero h all = omega (arith, all zero)
    at (x ∷ xs) (suc i) (suc k) h all = at xs i k h (λ j. all (suc j))

pub received-within : (item : Item) (counts : List ℕ) (most : ℕ) → ((k : ℕ) → slice_index counts k ≤ most) → (k : ℕ) → slice_index (received_after (Took item) counts) k ≤ most + 1
received-within (Item.Received from number m) counts most within k = one_more-within counts from most within k
received-within item counts most within k = omega (arith, within k)

began-within : (item : Item) (began most : ℕ) → began ≤ most → began_after (Took item) began ≤ most + 1
began-within (Item.Began core status) began most h = omega (arith, h)
began-within item began most h = omega (arith, h)

agreed-on : (item : Item) (p : Phase) (agreement : Option Agreement) → (is_past_first_gate (phase_on item p) ≡ true → (is_first_gate item || is_past_first_gate p) ≡ true) → (is_past_first_gate p ≡ true → is_agreed agreement ≡ true)
    → is_past_first_gate (phase_on item p) ≡ true → is_agreed (agreement_after (Took item) agreement) ≡ true
agreed-on (Item.Pass1 Agreement.Conflict) p agreement onward agreed past = absurd (false≢true past)
agreed-on (Item.Pass1 (Agreement.Mode m)) p agreement onward agreed past = refl
agreed-on (Item.Pass1 Agreement.NoMode) p agreement onward agreed past = refl
agreed-on item p agreement onward agreed past = agreed (onward past)

-- a call that is open after an item was open before
own-after : (item : Item) (open_call : Option OpenCall) (P : OpenCall → Type 0) → IfSome open_call P → IfSome (open_after (Took item) open_call) P
own-after (Item.Halt core status) open_call P own = tt
own-after item open_call P own = own

-- the state stays sound if an item leads neither back before gate two nor, unless it is gate one's, past gate one
pub taken : (priorities room : ℕ) (item : Item) (outbox : List Sent) (got : List GotSpinlock) (s : KernelState) → IsSound priorities room s
    → (is_before_live (phase_on item s.progress.phase) ≡ true → is_before_live s.progress.phase ≡ true)
    → (is_past_first_gate (phase_on item s.progress.phase) ≡ true → (is_first_gate item || is_past_first_gate s.progress.phase) ≡ true)
    → IsSound priorities room (record s { progress = progress_after (Took item) s.progress; tasks = record s.tasks { giving_way = None }; border = record s.border { open_call = open_after (Took item) s.border.open_call; outbox = outbox; received = received_after (Took item) s.border.received; spins = got } })
taken priorities room item outbox got s sound forward onward = record {
  tasks = sound.tasks;
  objects = sound.objects;
  jobs = record {
    within = sound.jobs.within;
    stamps = older-still s.progress.entries s.tasks.jobs sound.jobs.stamps;
    idle = (λ e. sound.jobs.idle (forward e));
    interrupts = sound.jobs.interrupts;
    entered = sound.jobs.entered;
    used = (λ place. uses-later (sound.jobs.used place));
    tasks = sound.jobs.tasks;
  };
  progress = record {
    agreed = agreed-on item s.progress.phase s.progress.agreement onward sound.progress.agreed;
    began = began-within item s.progress.began s.progress.entries sound.progress.began;
    items = omega (arith, sound.progress.items);
  };
  border = record {
    caller = own-after item s.border.open_call (λ (call : OpenCall). IsTrue (is_own_runner s.view.own call.runner)) sound.border.caller;
    awaited = own-after item s.border.open_call (λ (call : OpenCall). IsTrue (is_awaited_known call.awaits)) sound.border.awaited;
    queued = (λ k. omega (arith, sound.border.queued k));
    received = received-within item s.border.received s.progress.entries sound.border.received;
  };
  times = sound.times;
}

-- the state stays sound when the core goes down
pub went-down : {priorities room : ℕ} {s : KernelState} {got : List GotSpinlock} → IsSound priorities room s → IsSound priorities room (record s { progress = record s.progress { course = Course.Down; entries = s.progress.entries + 1 }; border = record s.border { spins = got } })
went-down sound = record {
  tasks = sound.tasks;
  objects = sound.objects;
  jobs = jobs-later sound.jobs;
  progress = record { agreed = sound.progress.agreed; began = omega (arith, sound.progress.began); items = omega (arith, sound.progress.items) };
  border = border-later sound.border;
  times = sound.times;
}

-- the state stays sound at an entry of a counter, an alarm or a table
pub clocked : (priorities room : ℕ) (clocks : ClockState) (timetables : TableStates) (s : KernelState) → IsSound priorities room s → AreClocks s.view.own clocks → AreTables s.view.own timetables → all_wait_by_counter s.view.own timetables ≡ true
    → IsSound priorities room (record s { progress = record s.progress { entries = s.progress.entries + 1 }; clocks = clocks; tables = timetables })
clocked priorities room clocks timetables s sound are tables waiting =
    goes-on s.tasks s.border sound (jobs-later sound.jobs) (border-later sound.border) (record { clocks = are; tables = tables; waiting = waiting })

-- a plain mark begins and ends no job
pub plain-jobs : (m : Mark) (stamp : ℕ) (jobs : List Job) → is_plain m ≡ true → jobs_after (Printed m) stamp jobs ≡ jobs
plain-jobs (Mark.Activated t) stamp jobs e = absurd (false≢true e)
plain-jobs (Mark.Terminated t) stamp jobs e = absurd (false≢true e)
plain-jobs (Mark.Released t) stamp jobs e = absurd (false≢true e)
plain-jobs m stamp jobs e = refl

-- a plain mark does not change the state of the ISRs
pub plain-isrs : (m : Mark) (stamp : ℕ) (s : IsrState) → is_plain m ≡ true → isrs_by (Printed m) stamp s ≡ s
plain-isrs (Mark.InterruptAccepted i) stamp s e = absurd (false≢true e)
plain-isrs (Mark.IsrEntered i) stamp s e = absurd (false≢true e)
plain-isrs (Mark.IsrLeft i) stamp s e = absurd (false≢true e)
plain-isrs m stamp s e = refl

-- a plain mark does not change which spinlocks the core has
pub plain-spins : (m : Mark) (open_call : Option OpenCall) (got : List GotSpinlock) → is_plain m ≡ true → spins_after (Printed m) open_call got ≡ got
plain-spins (Mark.Terminated t) open_call got e = absurd (false≢true e)
plain-spins (Mark.IsrLeft i) open_call got e = absurd (false≢true e)
plain-spins m open_call got e = refl
