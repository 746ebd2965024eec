-- The order in which ready jobs run, and lists of them in that order.
use Rattle.std.specs.Prelude.{◌≡◌, ℕ, ◌<◌, ◌≤◌, ◌==◌, ◌&&◌, nat_lt, Bool, if◌then◌else◌, Option, Some, None, List, [], ◌∷◌, length}
use Rattle.std.specs.List.{All, Contains}
use Rattle.osqueue.specs.{declared.ready.Ready.Ready, declared.ready.TheConstants.PRIORITIES}

-- The first job runs before the second: its priority is greater, or the priorities are equal and its stamp is smaller.
-- [OSEK/VDX OS 2.2.3, section 4.5]
unfoldable pub precedes : Ready → Ready → Bool
precedes x y = if x.priority == y.priority then nat_lt x.job.stamp y.job.stamp else nat_lt y.priority x.priority

-- The two jobs have the same priority and the same stamp.
unfoldable pub is_same : Ready → Ready → Bool
is_same x y = (x.priority == y.priority) && (x.job.stamp == y.job.stamp)

-- The list with one job more, in front of the first job that it precedes, or else at the end.
abbrev pub placed : Ready → List Ready → List Ready
placed x [] = x ∷ []
placed x (y ∷ ys) = if precedes x y then x ∷ y ∷ ys else y ∷ placed x ys

-- The list without this job.
abbrev pub without : Ready → List Ready → List Ready
without x [] = []
without x (y ∷ ys) = if is_same x y then ys else y ∷ without x ys

-- The jobs of some places, the one to run first in front.
abbrev pub ordered : List (Option Ready) → List Ready
ordered [] = []
ordered (None ∷ places) = ordered places
ordered (Some x ∷ places) = placed x (ordered places)

-- If both jobs have the same priority, the second is older than the first.
abbrev pub ComesBefore : Ready → Ready → Type 0
ComesBefore x y = y.priority ≡ x.priority → y.job.stamp < x.job.stamp

-- If both jobs have the same priority, the second is newer than the first.
abbrev pub ComesAfter : Ready → Ready → Type 0
ComesAfter x y = y.priority ≡ x.priority → x.job.stamp < y.job.stamp

-- A job can be put into a queue for `priorities` priorities and `jobs` jobs: there is room for one more, and its
-- priority has a queue and a bit in the word of priorities.
pub record HasPlaceFor (priorities jobs : ℕ) (x : Ready) (queue : List Ready) : Type 0 where
  pub room : length queue < jobs
  pub priority : x.priority < priorities
  pub marked : x.priority < PRIORITIES

-- How often a pop reads: the word of priorities and, if it finds a job, the front of one queue.
abbrev pub pop_reads : Option Ready → ℕ
pop_reads None = 1
pop_reads (Some x) = 2

-- The job is one of these, none has a greater priority, and none of the same priority has a smaller stamp.
pub record IsBest (x : Ready) (all : List Ready) : Type 0 where
  pub there : Contains all x
  pub greatest : All (λ (y : Ready). y.priority ≤ x.priority) all
  pub oldest : All (λ (y : Ready). y.priority ≡ x.priority → x.job.stamp ≤ y.job.stamp) all
