-- What the code keeps beside the live jobs.
use Rattle.std.specs.Prelude.{◌≡◌, ℕ, suc, ◌<◌, ◌==◌, if◌then◌else◌, Option, List, [], ◌∷◌, slice_index_or}
use Rattle.osbase.specs.{declared.histories.Job.Job, declared.limits.TheConstants.RUNNERS, declared.references.TaskRef.TaskRef, History.oldest_of, Sets.slot_of}
use Rattle.oscript.specs.Runners.{Row}
use Rattle.osqueue.specs.declared.ready.Ready.{Ready}
use Rattle.osjobs.specs.{Jobs.Ascending, OwnTasks.OwnTasks, Queue.AreHolders, Queue.AreReady}

-- How many of these jobs are of the task or ISR whose row has this place.
abbrev pub place_count : ℕ → List Job → ℕ
place_count place [] = 0
place_count place (j ∷ js) = if slot_of j.runner == place then suc (place_count place js) else place_count place js

-- For each place below RUNNERS, `counts` has the number of jobs of the task or ISR with that place.
pub record AreCounted (jobs : List Job) (counts : List ℕ) : Type 0 where
  pub each : (place : ℕ) → place < RUNNERS → slice_index_or counts place 0 ≡ place_count place jobs

-- Task jobs are in the order of their stamps. `counts` and `isr_counts` have how many jobs each task and ISR has. The
-- queue `ready` has the jobs whose tasks do not wait, within the bounds of `AreReady`. `word` has a bit for each task
-- that holds a resource. `job` is the oldest job of the task `running`, the one in the running state.
pub record IsKept (priorities room : ℕ) (tasks : OwnTasks) (jobs : List Job) (counts : List ℕ) (ready : List Ready) (word : ℕ) (isr_jobs : List Job) (isr_counts : List ℕ) (rows : List Row) (running : Option TaskRef) (job : Option Job) : Type 0 where
  pub ascending : Ascending jobs
  pub counted : AreCounted jobs counts
  pub isrs_counted : AreCounted isr_jobs isr_counts
  pub queue : AreReady priorities room tasks jobs rows ready
  pub holders : AreHolders rows word
  pub current : job ≡ oldest_of running jobs
