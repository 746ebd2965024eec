-- ChainTask: the caller's job ends, and a job of a task begins. The task may be another core's.
use Rattle.std.specs.Prelude.{◌&&◌, Bool, true, false, not, ℤ, Option, Some, None, [], ◌∷◌}
use Rattle.osbase.specs.{declared.statuses.Status.Status, declared.statuses.ServiceId.ServiceId, declared.references.TaskRef.TaskRef, declared.references.Runner.Runner, History.same_runner}
use Rattle.osbase.specs.declared.statuses.Status.TheVariants.{EOk, EOsCore, EOsId, EOsLimit}
use Rattle.osbase.specs.declared.statuses.ServiceId.TheVariants as Service
use Rattle.osbase.specs.declared.messages.RemoteCall.TheVariants as Remote
use Rattle.oscript.specs.declared.Op.{Op}
use Rattle.osacts.specs.Acts.{Acts, both, if_started, look, when}
use Rattle.osservice.specs.{Callers.by_task, Callers.holding_checks, Returning.answers, Returning.asks, Returning.returns}
use Rattle.osacts.specs.Seen.{Seen, is_at_limit, is_this_core}
use Rattle.osservice_tasks.specs.Tasks.{activates, ends}

-- The task is not the caller's own, and is at its limit of live jobs. The caller's own task never exceeds the limit,
-- since the caller ends first. [OSEK/VDX OS 2.2.3, section 13.2.3.3]
abbrev pub exceeds_limit : Seen → Runner → TaskRef → Bool
exceeds_limit s r t = not (same_runner r (Runner.Task t)) && is_at_limit s t

-- Refuses a task of the core's own that is at its limit of live jobs, unless it is the caller's; else the caller ends,
-- and then the task is activated.
abbrev pub chains_here : Runner → TaskRef → Acts
chains_here r t = look (λ s. answers r Service.ChainTask ((exceeds_limit s r t, EOsLimit) ∷ []) (both (ends r) (activates t)))

-- Chains to the task: here, if it is one of the core's own. Else its core is asked to activate it, and the caller ends
-- once the reply is E_OK. [OSEK/VDX OS 2.2.3, section 13.2.3.3; that it is a request and a reply is this project's own]
abbrev pub chains_to : Runner → TaskRef → Acts
chains_to r t = look (λ s. when (is_this_core s t.core) (chains_here r t) (asks r Service.ChainTask t.core (Remote.ActivateTask t)))

-- Refuses a task of a core that was never started, and a caller that holds a resource or a spinlock; else chains to the
-- task, whichever core has it.
abbrev pub chains_across : Runner → TaskRef → Acts
chains_across r t =
    if_started t.core (look (λ s. answers r Service.ChainTask (holding_checks s r) (chains_to r t))) (returns r Service.ChainTask EOsCore None)

-- Refuses the invalid identifier with E_OS_ID. Any other target is checked further, and then chained to.
abbrev pub chains_if : Runner → Option TaskRef → Acts
chains_if r None = returns r Service.ChainTask EOsId None
chains_if r (Some t) = chains_across r t

-- ChainTask: the caller ends, and the target is activated. First are checked, in this order: the caller is a task, the
-- identifier is valid, the target's core was started, the caller holds no resource, and it holds no spinlock.
-- [OSEK/VDX OS 2.2.3, section 13.2.3.3; E_OS_CORE: own]
abbrev pub chains : Runner → Option TaskRef → Acts
chains r target = answers r Service.ChainTask (by_task r ∷ []) (chains_if r target)

-- What an operation does for a runner, if it is ChainTask.
abbrev pub chain_acts : Runner → Op → Option Acts
chain_acts r (Op.ChainTask target) = Some (chains r target)
chain_acts r op = None

-- The service is ChainTask, and its status is E_OK. Then it does not return: its caller ends.
abbrev pub ends_caller : ServiceId → Status → Bool
ends_caller Service.ChainTask EOk = true
ends_caller service status = false

-- A service gets the reply of another core and returns. If ChainTask was granted, its caller ends instead.
abbrev pub resumes : Runner → ServiceId → Status → Option ℤ → Acts
resumes r service status value = when (ends_caller service status) (ends r) (returns r service status value)
