-- When a core may drain, take its next stimulus, dispatch, or look for a shutdown of all cores.
use Rattle.std.specs.Prelude.{◌&&◌, Bool, true, false, not, is_none, List, [], ◌∷◌}
use Rattle.std.specs.Option.{option_map_or}
use Rattle.osbase.specs.{declared.histories.Awaited.Awaited, declared.histories.OpenCall.OpenCall, declared.histories.Sent.Sent, Phases.is_going, Phases.is_scheduling, Spins.is_owing}
use Rattle.osstate.specs.State.{KernelState}

-- No call is open, and no spinlock release is owed. [own]
abbrev pub is_free : KernelState → Bool
is_free s = is_none s.border.open_call && not (is_owing s.border.spins)

abbrev pub is_empty : List Sent → Bool
is_empty [] = true
is_empty (s ∷ ss) = false

-- A core drains only if no call is open, no spinlock release is owed, and its outbox is empty. [own]
abbrev pub is_settled : KernelState → Bool
is_settled s = is_free s && is_empty s.border.outbox

-- The core is active: it is neither down nor halted, no call is open, and no spinlock release is owed. [own]
abbrev pub is_active : KernelState → Bool
is_active s = is_free s && is_going s.progress.course

-- The core may take its next stimulus: it is active (`is_active`), and its outbox is empty. [own]
abbrev pub may_go_on : KernelState → Bool
may_go_on s = is_active s && is_empty s.border.outbox

-- The core may dispatch: it is active (`is_active`), and in a phase in which it schedules.
-- [OSEK/VDX OS 2.2.3, section 4.6; that a core waits while a call is open, and until what is owed is freed, is this
-- project's own]
abbrev pub may_dispatch : KernelState → Bool
may_dispatch s = is_scheduling s.progress.phase && is_active s

-- The call is GetSpinlock, which waits until it has taken its spinlock. [AUTOSAR SWS OS 4.x, GetSpinlock]
abbrev pub is_get : Awaited → Bool
is_get (Awaited.Get l) = true
is_get awaited = false

-- The core may look for a shutdown of all cores: it is neither down nor halted, owes no spinlock release, and has no
-- open call but GetSpinlock.
-- [AUTOSAR SWS OS 4.x, ShutdownAllCores; that a core looks for it, and that any other call is closed first: own]
abbrev pub may_look_halt : KernelState → Bool
may_look_halt s =
    is_going s.progress.course
    && (not (is_owing s.border.spins) && option_map_or (λ (call : OpenCall). is_get call.awaits) s.border.open_call true)
