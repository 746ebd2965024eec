-- IncrementCounter, the service that increments a software counter.
use Rattle.std.specs.Prelude.{true, false, not, Bool, Option, Some, None, List, [], ◌∷◌}
use Rattle.std.specs.Option.{option_map_or}
use Rattle.osbase.specs.{declared.statuses.Status.TheVariants.EOk, declared.statuses.Status.TheVariants.EOsCore, declared.statuses.Status.TheVariants.EOsId, declared.references.CounterRef.CounterRef, declared.references.Runner.Runner}
use Rattle.osbase.specs.declared.statuses.ServiceId.TheVariants as ServiceId
use Rattle.oscript.specs.declared.Op.{Op}
use Rattle.osplan.specs.{declared.plans.Core.Core, declared.plans.Counter.Counter, View.own_counter}
use Rattle.osacts.specs.Acts.{Acts, both, look, nothing}
use Rattle.osservice.specs.{Checks.Check, Returning.answers, Returning.returns}
use Rattle.osacts.specs.Seen.{Seen, is_this_core}
use Rattle.osexpiry.specs.Advancing.{counts}

-- The counter is a hardware counter of the core, which only ticks advance. [AUTOSAR SWS OS 4.x, OsCounterType]
abbrev pub is_hardware : Core → CounterRef → Bool
is_hardware core c = option_map_or (λ (x : Counter). not x.software) (own_counter core c) false

-- IncrementCounter refuses the invalid identifier and a hardware counter of the core with E_OS_ID, and a counter of
-- another core with E_OS_CORE. [AUTOSAR SWS OS 4.x, SWS_Os_00285; E_OS_CORE: own]
abbrev pub incrementing_checks : Seen → Option CounterRef → List Check
incrementing_checks s target =
    (option_map_or (is_hardware s.core) target true, EOsId) ∷ (option_map_or (λ (c : CounterRef). not (is_this_core s c.core)) target false, EOsCore) ∷ []

-- The counter is incremented, what expires acts, and then IncrementCounter returns E_OK. Without a counter, nothing is
-- done.
abbrev pub counts_and_returns : Runner → Option CounterRef → Acts
counts_and_returns r None = nothing
counts_and_returns r (Some c) = both (counts c) (returns r ServiceId.IncrementCounter EOk None)

-- IncrementCounter increments a software counter of this core, and what expires acts. Any other target is refused.
-- [AUTOSAR SWS OS 4.x, SWS_Os_00286]
abbrev pub increments : Runner → Option CounterRef → Acts
increments r target = look (λ s. answers r ServiceId.IncrementCounter (incrementing_checks s target) (counts_and_returns r target))

-- What the operation IncrementCounter does; none for every other operation.
abbrev pub increment_acts : Runner → Op → Option Acts
increment_acts r (Op.IncrementCounter target) = Some (increments r target)
increment_acts r op = None
