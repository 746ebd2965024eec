-- The service that reads a counter's value.
use Rattle.std.specs.Prelude.{pos, Option, Some, None, []}
use Rattle.osbase.specs.declared.statuses.ServiceId.TheVariants as ServiceId
use Rattle.osbase.specs.{declared.references.CounterRef.CounterRef, declared.references.Runner.Runner, Objects.counter_object}
use Rattle.oscript.specs.declared.Op.{Op}
use Rattle.osacts.specs.{Acts.Acts, Acts.nothing, Seen.Seen}
use Rattle.osservice.specs.{Named.own_of, Service.Service, Service.serves_own}

-- GetCounterValue, for one of the core's counters: it checks nothing, and answers the counter's value.
-- [AUTOSAR SWS OS 4.x, SWS_Os_00377]
abbrev pub value_inquiry : CounterRef → Seen → Service
value_inquiry c s = record { checks = []; effect = nothing; value = Some (pos (s.value c)) }

-- GetCounterValue, for a counter of the own core; for any other target it returns E_OS_ID.
-- [AUTOSAR SWS OS 4.x, SWS_Os_00376 and SWS_Os_00377]
abbrev pub gets_value : Runner → Option CounterRef → Acts
gets_value r target = serves_own r ServiceId.GetCounterValue value_inquiry (λ core. own_of counter_object core target)

-- What an operation does for a runner, if it is GetCounterValue.
abbrev pub counter_acts : Runner → Op → Option Acts
counter_acts r (Op.GetCounterValue target x) = Some (gets_value r target)
counter_acts r op = None
