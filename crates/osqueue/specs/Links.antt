-- How the places of a pool are linked: each priority that has jobs has one queue, by ascending stamps. A claim on a
-- place refers to other places by priority and stamp alone, so it follows no queue from its front. [own]
use Rattle.std.specs.Prelude.{◌≡◌, ℕ, ◌+◌, ◌<◌, ◌≤◌, true, Option, Some, None, is_some, List, length, slice_index, slice_index_or, slice_set}
use Rattle.std.specs.Int.{bit_at}
use Rattle.osqueue.specs.{declared.ready.Ready.Ready, declared.ready.TheConstants.PRIORITIES, Ordered.ordered}

-- The priority of the job in a place; 0 if the place has no job.
abbrev pub priority_of : Option Ready → ℕ
priority_of None = 0
priority_of (Some x) = x.priority

-- The stamp of the job in a place; 0 if the place has no job.
abbrev pub stamp_of : Option Ready → ℕ
stamp_of None = 0
stamp_of (Some x) = x.job.stamp

-- Place `i` has the oldest job of priority `p`.
pub record IsFirst (at : ℕ → Option Ready) (p i : ℕ) : Type 0 where
  pub used : is_some (at i) ≡ true
  pub priority : priority_of (at i) ≡ p
  pub oldest : (k : ℕ) → is_some (at k) ≡ true → priority_of (at k) ≡ p → stamp_of (at i) ≤ stamp_of (at k)

-- Place `i` has the newest job of priority `p`.
pub record IsLast (at : ℕ → Option Ready) (p i : ℕ) : Type 0 where
  pub used : is_some (at i) ≡ true
  pub priority : priority_of (at i) ≡ p
  pub newest : (k : ℕ) → is_some (at k) ≡ true → priority_of (at k) ≡ p → stamp_of (at k) ≤ stamp_of (at i)

-- The job in place `j` has the priority of the job in place `i`. Of the jobs of this priority that are newer than the
-- job in `i`, it is the oldest.
pub record IsNext (at : ℕ → Option Ready) (i j : ℕ) : Type 0 where
  pub used : is_some (at j) ≡ true
  pub priority : priority_of (at j) ≡ priority_of (at i)
  pub later : stamp_of (at i) < stamp_of (at j)
  pub oldest : (k : ℕ) → is_some (at k) ≡ true → priority_of (at k) ≡ priority_of (at i) → stamp_of (at i) < stamp_of (at k) → stamp_of (at j) ≤ stamp_of (at k)

-- `next` links the places by their priorities and stamps. `front` and `end` have the first and the last place of each
-- priority's queue, and `marks` has 1 for each priority that has jobs. No two jobs have the same priority and stamp.
pub record IsLinked (at : ℕ → Option Ready) (next front end marks : ℕ → ℕ) : Type 0 where
  pub marked : (i : ℕ) → is_some (at i) ≡ true → marks (priority_of (at i)) ≡ 1
  pub first : (p : ℕ) → marks p ≡ 1 → IsFirst at p (front p)
  pub last : (p : ℕ) → marks p ≡ 1 → IsLast at p (end p)
  pub follows : (i : ℕ) → is_some (at i) ≡ true → (i ≡ end (priority_of (at i)) → ⊥) → IsNext at i (next i)
  pub apart : (i k : ℕ) → is_some (at i) ≡ true → is_some (at k) ≡ true → priority_of (at i) ≡ priority_of (at k) → stamp_of (at i) ≡ stamp_of (at k) → i ≡ k

-- The job in place `i` of the pool, if there is one.
abbrev pub at : List (Option Ready) → ℕ → Option Ready
at pool i = slice_index_or pool i None

-- The fields of a queue (a word, lists of places, and a pool) have their sizes and are linked. Each job's priority has
-- a queue and a bit in the word.
pub record IsQueued (priorities room word : ℕ) (fronts ends : List ℕ) (pool : List (Option Ready)) (next : List ℕ) : Type 0 where
  pub size : length pool ≡ room
  pub reach : length fronts ≡ priorities
  pub low : (i : ℕ) → is_some (at pool i) ≡ true → priority_of (at pool i) < priorities
  pub within : (i : ℕ) → is_some (at pool i) ≡ true → priority_of (at pool i) < PRIORITIES
  pub linked : IsLinked (at pool) (slice_index next) (slice_index fronts) (slice_index ends) (bit_at word)

-- Each of the first `free` blanks is a place that has no job, and no two are the same. All other places have a job.
pub record IsPool (room : ℕ) (places : List (Option Ready)) (blanks : List ℕ) (free : ℕ) : Type 0 where
  pub size : length places ≡ room
  pub inside : (k : ℕ) → k < free → slice_index blanks k < room
  pub blank : (k : ℕ) → k < free → at places (slice_index blanks k) ≡ None
  pub distinct : (k m : ℕ) → k < free → m < free → slice_index blanks k ≡ slice_index blanks m → k ≡ m
  pub total : length (ordered places) + free ≡ room

-- A job was put into this place, which had none.
pub record IsPut (old : List (Option Ready)) (ready : Ready) (place : ℕ) (new : List (Option Ready)) : Type 0 where
  pub within : place < length old
  pub blank : at old place ≡ None
  pub pool : new ≡ slice_set old place (Some ready)

-- Place `i` is on the way to the job `ready`: it has an older job of the same priority.
pub record IsOnTheWay (pool : List (Option Ready)) (ready : Ready) (i : ℕ) : Type 0 where
  pub used : is_some (at pool i) ≡ true
  pub priority : priority_of (at pool i) ≡ ready.priority
  pub older : stamp_of (at pool i) < ready.job.stamp

-- A link on the way to the job `ready` may lead from a job with this `stamp` to place `j`: the job there has the
-- priority of `ready`, is newer than `stamp`, and is not newer than `ready`.
pub record IsStep (pool : List (Option Ready)) (j : ℕ) (ready : Ready) (stamp : ℕ) : Type 0 where
  pub used : is_some (at pool j) ≡ true
  pub priority : priority_of (at pool j) ≡ ready.priority
  pub later : stamp < stamp_of (at pool j)
  pub most : stamp_of (at pool j) ≤ ready.job.stamp

-- From each place on the way to the job `ready`, the link leads closer to that job and not beyond it.
abbrev pub IsWay : List (Option Ready) → List ℕ → Ready → Type 0
IsWay pool next ready = (i : ℕ) → IsOnTheWay pool ready i → IsStep pool (slice_index next i) ready (stamp_of (at pool i))

-- The job `ready` can be found from place `i` of a pool of this size: the place is on the way to the job, and from each
-- place on the way the link leads on.
pub record IsReachable (room : ℕ) (pool : List (Option Ready)) (next : List ℕ) (ready : Ready) (i : ℕ) : Type 0 where
  pub size : length pool ≡ room
  pub first : IsOnTheWay pool ready i
  pub way : IsWay pool next ready

-- Place `i` is on the way to the job `ready`, and its link leads to that job.
pub record IsBefore (pool : List (Option Ready)) (next : List ℕ) (ready : Ready) (i : ℕ) : Type 0 where
  pub way : IsOnTheWay pool ready i
  pub used : is_some (at pool (slice_index next i)) ≡ true
  pub priority : priority_of (at pool (slice_index next i)) ≡ ready.priority
  pub stamp : stamp_of (at pool (slice_index next i)) ≡ ready.job.stamp
