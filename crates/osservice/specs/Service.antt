-- A service on an object, as the object's core does it.
use Rattle.std.specs.Prelude.{if◌then◌else◌, ℤ, Option, Some, None, option_map, List}
use Rattle.osbase.specs.{declared.statuses.Status.Status, declared.statuses.Status.TheVariants.EOsId, declared.statuses.ServiceId.ServiceId, declared.references.Runner.Runner}
use Rattle.osplan.specs.declared.plans.Core.{Core}
use Rattle.osservice.specs.{declared.returning.ServiceResult.ServiceResult, Checks.Check, Checks.first_failing, Checks.is_ok_status, Returning.returns}
use Rattle.osacts.specs.Acts.{Acts, nothing, both, when, look}
use Rattle.osacts.specs.Seen.{Seen}

-- A service: the checks that only the object's core can make, the effect, and the value that comes with E_OK. [own]
pub record Service : Type 0 where
  pub checks : List Check
  pub effect : Acts
  pub value : Option ℤ

-- A service that has an effect and no value.
abbrev pub without_value : List Check → Acts → Service
without_value checks effect = record { checks = checks; effect = effect; value = None }

-- The status that a service answers: that of its first check that fails, else E_OK.
abbrev pub status_of : Service → Status
status_of x = first_failing x.checks

-- What a service answers: its status and, with E_OK, its value.
abbrev pub answer_of : Service → ServiceResult
answer_of x = record { status = status_of x; value = (if is_ok_status (status_of x) then x.value else None) }

-- What a service does: its effect, or nothing if it is refused.
abbrev pub effect_of : Service → Acts
effect_of x = when (is_ok_status (status_of x)) x.effect nothing

-- The effect of a service that depends on what the core reads now; a service that is refused has none.
abbrev pub carries_out : (Seen → Service) → Acts
carries_out x = look (λ s. effect_of (x s))

-- The service returns with this answer.
abbrev pub returns_with : Runner → ServiceId → ServiceResult → Acts
returns_with r id answer = returns r id answer.status answer.value

-- The job's own core does the service, and the service returns its answer.
abbrev pub serves : Runner → ServiceId → Service → Acts
serves r id x = both (effect_of x) (returns_with r id (answer_of x))

-- The service for the object that the script names is done. If there is none, since the core has no such object,
-- E_OS_ID is returned.
-- [OSEK/VDX OS 2.2.3, section 11.2]
abbrev pub serves_if : Runner → ServiceId → Option Service → Acts
serves_if r id None = returns r id EOsId None
serves_if r id (Some x) = serves r id x

-- The service that `make` gives for the object that `named` finds among the core's own is done. If `named` finds none,
-- E_OS_ID is returned.
abbrev pub serves_own : {A : Type 0} → Runner → ServiceId → (A → Seen → Service) → (Core → Option A) → Acts
serves_own r id make named = look (λ s. serves_if r id (option_map (λ x. make x s) (named s.core)))
