-- Interrupts: the live jobs of ISRs, which of them were entered, which job runs, and how often a job has suspended
-- interrupts.
use Rattle.std.specs.Prelude.{ℕ, suc, ◌-◌, nat_lt, Bool, if◌then◌else◌, Option, None, option_map, List, [], ◌∷◌, ◌++◌, length}
use Rattle.std.specs.Option.{option_or}
use Rattle.osbase.specs.{declared.references.IsrRef.IsrRef, declared.references.Runner.Runner, declared.marks.Mark.Mark, declared.histories.Job.Job}
use Rattle.osbase.specs.History.{Entry, Printed, History, current_job, job_count, oldest, same_isr, without_oldest}

-- ---- jobs of ISRs

-- The live jobs of ISRs after an entry, the smallest stamp first, as those of tasks are. An accepted interrupt begins a
-- job, and the end of an ISR ends its oldest job. [AUTOSAR SWS OS 4.x, section 7.6]
abbrev pub isr_jobs_after : Entry → ℕ → List Job → List Job
isr_jobs_after (Printed (Mark.InterruptAccepted i)) stamp jobs = jobs ++ record { runner = Runner.Isr i; stamp = stamp } ∷ []
isr_jobs_after (Printed (Mark.IsrLeft i)) stamp jobs = without_oldest (Runner.Isr i) jobs
isr_jobs_after e stamp jobs = jobs

-- The live jobs of ISRs, the smallest stamp first.
abbrev pub isr_jobs : History → List Job
isr_jobs [] = []
isr_jobs (e ∷ h) = isr_jobs_after e (length h) (isr_jobs h)

-- The list without the first entry of this ISR.
abbrev pub without_isr : IsrRef → List IsrRef → List IsrRef
without_isr i [] = []
without_isr i (x ∷ xs) = if same_isr x i then xs else x ∷ without_isr i xs

-- The ISRs whose oldest live job was entered, after an entry of the history; the one entered last is in front. [own;
-- the code has the same list.]
abbrev pub entered_after : Entry → List IsrRef → List IsrRef
entered_after (Printed (Mark.IsrEntered i)) isrs = i ∷ without_isr i isrs
entered_after (Printed (Mark.IsrLeft i)) isrs = without_isr i isrs
entered_after e isrs = isrs

-- The ISRs whose oldest live job was entered, the one entered last in front.
abbrev pub entered_isrs : History → List IsrRef
entered_isrs [] = []
entered_isrs (e ∷ h) = entered_after e (entered_isrs h)

-- How often an ISR is in this list.
abbrev pub isr_count : IsrRef → List IsrRef → ℕ
isr_count i [] = 0
isr_count i (x ∷ xs) = if same_isr x i then suc (isr_count i xs) else isr_count i xs

-- A job of the ISR is pending: it is live, and was not entered yet. So the ISR has more live jobs than entries in
-- `isrs`, the list of entered ISRs. [AUTOSAR SWS OS 4.x, section 7.6; that one can be pending beside one that was
-- entered: own]
abbrev pub is_pending_among : IsrRef → List IsrRef → List Job → Bool
is_pending_among i isrs jobs = nat_lt (isr_count i isrs) (job_count (Runner.Isr i) jobs)

-- ---- who runs

-- The oldest of these jobs that the first of these ISRs has; none if there is no ISR.
abbrev pub oldest_entered : List IsrRef → List Job → Option Job
oldest_entered [] jobs = None
oldest_entered (i ∷ isrs) jobs = oldest (Runner.Isr i) jobs

-- The running job: the oldest job of the ISR that was entered last. If no ISR was entered, it is the current job, which
-- stays current while an ISR runs.
-- [OSEK/VDX OS 2.2.3, section 4.2 and 6]
abbrev pub running_job : History → Option Job
running_job h = option_or (oldest_entered (entered_isrs h) (isr_jobs h)) (current_job h)

-- The task or ISR of this job, if there is a job.
abbrev pub runner_of_job : Option Job → Option Runner
runner_of_job job = option_map (λ (j : Job). j.runner) job

-- ---- suspended interrupts

-- How often a job has suspended interrupts without resuming them, after one more suspension: `depth` is the number
-- before, and the most is 255. [OSEK/VDX OS 2.2.3, section 13.3.2.4 and 13.3.2.3; the most: own]
abbrev pub deeper : ℕ → ℕ
deeper depth = if nat_lt depth 255 then suc depth else depth

-- How often a job has suspended interrupts without resuming them, after one resumption: 0 stays 0.
abbrev pub shallower : ℕ → ℕ
shallower depth = depth - 1
