-- The services of resources.
use Rattle.std.specs.Prelude.{◌||◌, nat_lt, Bool, false, not, Option, Some, None, is_none, List, [], ◌∷◌}
use Rattle.std.specs.Option.{option_map_or}
use Rattle.osbase.specs.declared.statuses.Status.TheVariants.{EOk, EOsAccess, EOsId, EOsNofunc}
use Rattle.osbase.specs.declared.statuses.ServiceId.TheVariants as ServiceId
use Rattle.osbase.specs.{declared.references.ResourceRef.ResourceRef, declared.references.Runner.Runner, declared.histories.HeldResource.HeldResource, History.ResourceOccupied, History.ResourceReleased}
use Rattle.osjobs.specs.Priorities.{is_newest, static_priority}
use Rattle.osstate.specs.Readings.{resource_of}
use Rattle.osacts.specs.Acts.{Acts, nothing, both, look, notes}
use Rattle.osservice.specs.{Checks.Check, Returning.answers, Returning.returns}
use Rattle.osacts.specs.Seen.{Seen}

-- The ceiling of the resource is below the static priority of the caller. An ISR has no static priority, so no ceiling
-- is below it.
-- [OSEK/VDX OS 2.2.3, section 13.4.3.1 and 13.4.3.2]
abbrev pub is_below : Seen → Runner → HeldResource → Bool
is_below s r x = nat_lt x.ceiling (static_priority s.core r)

-- GetResource is denied: a job holds the resource, or the resource's ceiling is below the caller's static priority.
-- [OSEK/VDX OS 2.2.3, section 13.4.3.1]
abbrev pub is_denied : Seen → Runner → HeldResource → Bool
is_denied s r x = s.is_occupied x.index || is_below s r x

-- What GetResource checks: that there is such a resource, and that GetResource is not denied.
abbrev pub taking_checks : Seen → Runner → Option HeldResource → List Check
taking_checks s r x = (is_none x, EOsId) ∷ (option_map_or (is_denied s r) x false, EOsAccess) ∷ []

-- The job takes the resource, if there is one. The resource is then the newest that the job holds.
abbrev pub takes : Runner → Option HeldResource → Acts
takes r None = nothing
takes r (Some x) = notes (ResourceOccupied r x)

-- GetResource: the job takes a resource of the core. If a job holds the resource, or its ceiling is below the caller's
-- static priority, or there is no such resource, an error is returned. [OSEK/VDX OS 2.2.3, section 13.4.3.1]
abbrev pub gets_resource : Runner → Option ResourceRef → Acts
gets_resource r target = look (λ s.
    answers r ServiceId.GetResource (taking_checks s r (resource_of s.core target))
    (both (takes r (resource_of s.core target)) (returns r ServiceId.GetResource EOk None)))

-- The resource is not the newest that the caller holds, or the caller does not hold it. [OSEK/VDX OS 2.2.3, section
-- 13.4.3.2]
abbrev pub is_not_newest : Seen → Runner → HeldResource → Bool
is_not_newest s r x = not (is_newest x.index (s.row r).held)

-- What ReleaseResource checks: that there is such a resource, that its ceiling is not below the caller's static
-- priority, and that it is the newest that the caller holds.
abbrev pub giving_checks : Seen → Runner → Option HeldResource → List Check
giving_checks s r x =
    (is_none x, EOsId) ∷ (option_map_or (is_below s r) x false, EOsAccess) ∷ (option_map_or (is_not_newest s r) x false, EOsNofunc) ∷ []

-- The job gives back the resource, if there is one: the newest that it holds.
abbrev pub gives : Runner → Option HeldResource → Acts
gives r None = nothing
gives r (Some x) = notes (ResourceReleased r x.index)

-- ReleaseResource: the job gives back a resource of the core. If the resource is not the newest that the job holds, or
-- its ceiling is below the caller's static priority, or there is no such resource, an error is returned.
-- [OSEK/VDX OS 2.2.3, section 13.4.3.2]
abbrev pub releases_resource : Runner → Option ResourceRef → Acts
releases_resource r target = look (λ s.
    answers r ServiceId.ReleaseResource (giving_checks s r (resource_of s.core target))
    (both (gives r (resource_of s.core target)) (returns r ServiceId.ReleaseResource EOk None)))
