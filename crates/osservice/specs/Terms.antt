-- What functions of the kernel ask for, and what families of services promise: one record for each kind of function, so
-- that a further fact has one place.
use Rattle.std.specs.Prelude.{◌≡◌, ◌<◌, ◌≤◌, ◌+◌, Bool, true, false, IsTrue, Option, is_some, unwrap_or, length, Vec, ℕ}
use Rattle.std.specs.declared.alloc.Global.{Global}
use Rattle.osbase.specs.{declared.limits.TheConstants.CORES, declared.marks.Mark.Mark, declared.references.CoreId.CoreId, declared.references.Runner.Runner, Phases.is_before_live}
use Rattle.oscript.specs.declared.Op.{Op}
use Rattle.osjobs.specs.Priorities.{is_own_runner}
use Rattle.osstate.specs.{Does.HasRoom, Does.service_entries, Does.service_marks, Sound.has_objects_of, State.KernelState}
use Rattle.osacts.specs.{Acts.Acts, Acts.nothing, Runs.seen_in, Seen.Seen, Steps.QuietSteps, Steps.Steps}
use Rattle.osservice.specs.{declared.returning.ServiceResult.ServiceResult, Checks.is_ok_status, Service.Service, Service.answer_of, Service.carries_out}

-- The preconditions of a function that acts for a task or an ISR: it is one of the core's own, and there is room for so
-- many entries of the history and so many marks. [own]
pub record MayAct (entries marks : ℕ) (s : KernelState) (r : Runner) (vec : Vec Mark Global) : Type 0 where
  pub own : IsTrue (is_own_runner s.view.own r)
  pub room : HasRoom entries marks s vec

-- The preconditions of a function that may begin jobs: the core is live, and there is room for so many entries and
-- marks. [own]
pub record MayBegin (entries marks : ℕ) (s : KernelState) (vec : Vec Mark Global) : Type 0 where
  pub live : is_before_live s.progress.phase ≡ false
  pub room : HasRoom entries marks s vec

-- The preconditions of a function that may begin jobs and post: the core is live, its outbox has `places` of its `size`
-- places left, and there is room for so many entries and marks. [own]
pub record MayPost (places size entries marks : ℕ) (s : KernelState) (vec : Vec Mark Global) : Type 0 where
  pub live : is_before_live s.progress.phase ≡ false
  pub outbox : length s.border.outbox + places ≤ size
  pub room : HasRoom entries marks s vec

-- The preconditions of a function that may begin jobs and post for a task or an ISR: it is one of the core's own, and
-- those of MayPost hold, with room for a service. [own]
pub record MayServe (places size : ℕ) (s : KernelState) (r : Runner) (vec : Vec Mark Global) : Type 0 where
  pub own : IsTrue (is_own_runner s.view.own r)
  pub posts : MayPost places size service_entries service_marks s vec

-- The preconditions of an operation of a running job: those of MayServe, and that the core may name whatever the
-- operation names. [own]
pub record MayOperate (places size : ℕ) (s : KernelState) (r : Runner) (op : Op) (vec : Vec Mark Global) : Type 0 where
  pub known : IsTrue (has_objects_of s.view.own op)
  pub serves : MayServe places size s r vec

-- The preconditions of a function that queues a letter for a core: the core's number is below CORES, the outbox has one
-- of its `size` places left, and there is room for so many entries and marks. [own]
pub record MayQueue (size entries marks : ℕ) (to : CoreId) (s : KernelState) (vec : Vec Mark Global) : Type 0 where
  pub receiver : to.number < CORES
  pub outbox : length s.border.outbox < size
  pub room : HasRoom entries marks s vec

-- A service on an object of the core was done, with at most `most` entries and `marks` marks. It answered the status of
-- its checks and its value, and had its effect; if it was refused, it did nothing. What crosses the core's border
-- stays. [own]
pub record Serves (most marks : ℕ) (service : Seen → Service) (result : ServiceResult) (old new : KernelState) (old_vec new_vec : Vec Mark Global) : Type 0 where
  pub answer : result ≡ answer_of (service (seen_in old))
  pub steps : Steps most marks (carries_out service) old new old_vec new_vec
  pub refused : is_ok_status result.status ≡ false → Steps 0 0 (carries_out service) old new old_vec new_vec
  pub border : new.border ≡ old.border

-- What Serves says, for a service that prints no line. [own]
pub record ServesQuietly (most : ℕ) (service : Seen → Service) (result : ServiceResult) (old new : KernelState) : Type 0 where
  pub answer : result ≡ answer_of (service (seen_in old))
  pub steps : QuietSteps most (carries_out service) old new
  pub refused : is_ok_status result.status ≡ false → QuietSteps 0 (carries_out service) old new
  pub border : new.border ≡ old.border

-- A family of services was offered an operation, for which it has these acts or none. It answers whether it has any. If
-- it has, these acts were done; else nothing changed. [own]
pub record Offered (acts : Option Acts) (is_known : Bool) (old new : KernelState) (old_vec new_vec : Vec Mark Global) : Type 0 where
  pub known : is_known ≡ is_some acts
  pub steps : is_known ≡ true → Steps service_entries service_marks (unwrap_or acts nothing) old new old_vec new_vec
  pub others : is_known ≡ false → (new ≡ old) × (new_vec ≡ old_vec)
