-- The services of whole cores: StartCore, which a script calls too late; how many cores are started; the shutdown of
-- one core and of all.
use Rattle.std.specs.Prelude.{ℕ, pos, Bool, true, false, not, Option, Some, None, List, [], ◌∷◌, count_by, find, is_some}
use Rattle.std.specs.Option.{option_map_or}
use Rattle.osbase.specs.{declared.statuses.Status.Status, declared.statuses.Status.TheVariants.EOsAccess, declared.statuses.Status.TheVariants.EOsId, declared.references.CoreId.CoreId, declared.references.Runner.Runner, declared.references.Variable.Variable, declared.items.CoreSet.CoreSet, History.Opened, History.WentDown, History.same_core}
use Rattle.osbase.specs.declared.statuses.ServiceId.TheVariants as Service
use Rattle.osbase.specs.declared.marks.Mark.TheVariants as Mark
use Rattle.osbase.specs.declared.histories.Awaited.TheVariants as Awaited
use Rattle.oscript.specs.declared.Op.{Op}
use Rattle.osacts.specs.Acts.{Acts, Prints, look_around, notes, one_then}
use Rattle.osservice.specs.{Checks.Check, Checks.first_failing, Returning.returns}
use Rattle.osacts.specs.Seen.{AllCores}
use Rattle.oscall.specs.Variables.{sets}

-- The identifier is invalid, or no core of its number is configured.
abbrev pub is_unknown : AllCores → Option CoreId → Bool
is_unknown all target = not (option_map_or (λ (core : CoreId). is_some (find (same_core core) all.configured)) target false)

-- What StartCore checks in a script: that there is such a core, and then one that always fails. It is too late, since a
-- script runs only after StartOS was called. [AUTOSAR SWS OS 4.x, StartCore: E_OS_ID, E_OS_ACCESS]
abbrev pub starting_checks : AllCores → Option CoreId → List Check
starting_checks all target = (is_unknown all target, EOsId) ∷ (true, EOsAccess) ∷ []

-- StartCore is always refused: it returns the status of the first check that fails. [AUTOSAR SWS OS 4.x, SWS_Os_00676]
abbrev pub refuses_start : Runner → Option CoreId → Acts
refuses_start r target = look_around (λ all. returns r Service.StartCore (first_failing (starting_checks all target)) None)

-- How many cores are in this set.
abbrev pub core_count : CoreSet → ℕ
core_count cores = count_by (λ b. b) cores.members

-- GetNumberOfActivatedCores: the variable becomes the number of started cores, which is printed. [AUTOSAR SWS OS 4.x,
-- SWS_Os_00672]
abbrev pub counts_cores : Runner → Variable → Acts
counts_cores r x = look_around (λ all. sets r x (pos (core_count all.started)))

-- For ShutdownOS and for a time fault: ShutdownHook is called at once with this status, and the core goes down.
-- [OSEK/VDX OS 2.2.3, section 11.4; AUTOSAR SWS OS 4.x, section 7.9.6]
abbrev pub goes_down : Status → Acts
goes_down status = one_then (Prints (Mark.ShutdownHook status)) (notes WentDown)

-- ShutdownAllCores asks that all cores shut down, and waits for that: the caller's job does nothing more.
-- [AUTOSAR SWS OS 4.x, SWS_Os_00713; that the core that asks first decides on the status is this project's own]
abbrev pub shuts_down_all : Runner → Status → Acts
shuts_down_all r status = notes (Opened (record { runner = r; awaits = Awaited.Halt status }))

-- What an operation does for a runner, if it is a service of whole cores.
abbrev pub core_acts : Runner → Op → Option Acts
core_acts r (Op.StartCore target) = Some (refuses_start r target)
core_acts r (Op.GetNumberOfActivatedCores x) = Some (counts_cores r x)
core_acts r (Op.ShutdownOs status) = Some (goes_down status)
core_acts r (Op.ShutdownAllCores status) = Some (shuts_down_all r status)
core_acts r op = None

-- The operation is ignored while its caller has suspended interrupts. Only the services of whole cores that return no
-- status are ignored. [AUTOSAR SWS OS 4.x, SWS_Os_00093]
abbrev pub is_ignored : Op → Bool
is_ignored (Op.GetNumberOfActivatedCores x) = true
is_ignored (Op.ShutdownOs status) = true
is_ignored (Op.ShutdownAllCores status) = true
is_ignored op = false
