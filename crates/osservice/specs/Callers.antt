-- What several services check of their caller.
use Rattle.std.specs.Prelude.{Bool, nat_lt, true, false, not, is_some, List, [], ◌∷◌}
use Rattle.osbase.specs.{declared.references.Runner.Runner, Spins.newest_of}
use Rattle.osbase.specs.declared.statuses.Status.TheVariants.{EOsAccess, EOsCallevel, EOsResource, EOsSpinlock}
use Rattle.osjobs.specs.Priorities.{holds_any, is_extended}
use Rattle.osservice.specs.Checks.{Check}
use Rattle.osacts.specs.Seen.{Seen}

-- The runner is an ISR.
abbrev pub is_isr : Runner → Bool
is_isr (Runner.Task t) = false
is_isr (Runner.Isr i) = true

-- The check that the caller is a task; else the status is E_OS_CALLEVEL. [OSEK/VDX OS 2.2.3, section 13.2.3.2 and
-- 13.5.3.4]
abbrev pub by_task : Runner → Check
by_task r = (is_isr r, EOsCallevel)

-- The check that the runner is an extended task of the core, since only such a task has events; else the status is
-- E_OS_ACCESS.
-- [OSEK/VDX OS 2.2.3, section 7]
abbrev pub by_extended : Seen → Runner → Check
by_extended s r = (not (is_extended s.core r), EOsAccess)

-- The oldest live job of the task or ISR has interrupts suspended now. [OSEK/VDX OS 2.2.3, section 13.3.2.4]
abbrev pub has_suspended : Seen → Runner → Bool
has_suspended s r = nat_lt 0 (s.row r).depth

-- The checks of a job that ends itself, waits or gives way: that it holds no resource, and then that it holds no
-- spinlock.
-- [OSEK/VDX OS 2.2.3, section 8.2; AUTOSAR SWS OS 4.x, E_OS_SPINLOCK; that the resource is checked first: own]
abbrev pub holding_checks : Seen → Runner → List Check
holding_checks s r = (holds_any (s.row r).held, EOsResource) ∷ (is_some (newest_of r s.spins), EOsSpinlock) ∷ []
