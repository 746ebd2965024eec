-- The services of spinlocks. Each checks what this core knows. Then its call is open until the spinlock answers: only
-- the spinlock shows which core holds it.
use Rattle.std.specs.Prelude.{nat_lt, Bool, false, not, Option, Some, None, List, [], ◌∷◌, length}
use Rattle.std.specs.Option.{option_map_or}
use Rattle.osbase.specs.declared.statuses.Status.TheVariants.{EOsId, EOsInterferenceDeadlock, EOsNestingDeadlock, EOsNofunc, EOsState}
use Rattle.osbase.specs.{declared.statuses.ServiceId.ServiceId, declared.references.Runner.Runner, declared.references.SpinlockId.SpinlockId, declared.histories.Awaited.Awaited, History.Opened, Spins.has_spinlock, Spins.newest_of, Spins.same_spinlock}
use Rattle.osbase.specs.declared.statuses.ServiceId.TheVariants as Service
use Rattle.osbase.specs.declared.histories.Awaited.TheVariants as Awaits
use Rattle.osgot.specs.Grants.{is_held_by}
use Rattle.oscript.specs.declared.Op.{Op}
use Rattle.osplan.specs.Spinlocks.{comes_after}
use Rattle.osacts.specs.Acts.{Acts, look, look_around, notes}
use Rattle.osservice.specs.{Checks.Check, Returning.answers, Returning.returns}
use Rattle.osacts.specs.Seen.{AllCores, Seen}

-- ---- what is checked

-- No spinlock of this index is configured. No script of an accepted configuration names such a spinlock.
abbrev pub is_missing : AllCores → SpinlockId → Bool
is_missing all l = not (nat_lt l.index (length all.links))

-- The caller holds a spinlock, and spinlock `l` does not come after the newest that it holds. Cores that take spinlocks
-- in another order than the configured one may wait for each other. [AUTOSAR SWS OS 4.x, SWS_Os_00660 and SWS_Os_00661]
abbrev pub breaks_order : AllCores → Seen → Runner → SpinlockId → Bool
breaks_order all s r l = option_map_or (λ (newest : SpinlockId). not (comes_after all.links (length all.links) newest l)) (newest_of r s.spins) false

-- What GetSpinlock and TryToGetSpinlock check: that there is such a spinlock; that no job of this core has it, since a
-- job that waits for a job of its own core would wait for ever; and that it comes after the newest spinlock that the
-- caller holds.
-- [AUTOSAR SWS OS 4.x, SWS_Os_00689 to SWS_Os_00691 and SWS_Os_00707 to SWS_Os_00709]
abbrev pub getting_checks : Runner → AllCores → Seen → SpinlockId → List Check
getting_checks r all s l =
    (is_missing all l, EOsId) ∷ (has_spinlock l s.spins, EOsInterferenceDeadlock) ∷ (breaks_order all s r l, EOsNestingDeadlock) ∷ []

-- The spinlock is not the newest that the caller holds, or the caller holds none.
abbrev pub is_not_newest : Seen → Runner → SpinlockId → Bool
is_not_newest s r l = not (option_map_or (same_spinlock l) (newest_of r s.spins) false)

-- What ReleaseSpinlock checks: that there is such a spinlock, that the caller holds it, and that it holds no newer one.
-- [AUTOSAR SWS OS 4.x, SWS_Os_00698, SWS_Os_00699 and SWS_Os_00701]
abbrev pub releasing_checks : Runner → AllCores → Seen → SpinlockId → List Check
releasing_checks r all s l =
    (is_missing all l, EOsId) ∷ (not (is_held_by r l s.spins), EOsState) ∷ (is_not_newest s r l, EOsNofunc) ∷ []

-- ---- the services

-- The call of the task or ISR stays open until this answer comes.
abbrev pub awaits : Runner → Awaited → Acts
awaits r awaited = notes (Opened (record { runner = r; awaits = awaited }))

-- A service on the spinlock that a script names. If its checks pass, the call is open until the spinlock answers; else
-- the service returns the status of the first check that fails. For the invalid identifier it returns E_OS_ID, without
-- a look at what all cores share.
abbrev pub asks_spinlock : Runner → ServiceId → (AllCores → Seen → SpinlockId → List Check) → (SpinlockId → Awaited) → Option SpinlockId → Acts
asks_spinlock r service checks awaited None = returns r service EOsId None
asks_spinlock r service checks awaited (Some l) = look_around (λ all. look (λ s. answers r service (checks all s l) (awaits r (awaited l))))

-- GetSpinlock: if its checks pass, the call is open until the core has taken the spinlock. [AUTOSAR SWS OS 4.x,
-- SWS_Os_00687]
abbrev pub gets_spinlock : Runner → Option SpinlockId → Acts
gets_spinlock r target = asks_spinlock r Service.GetSpinlock (getting_checks r) Awaits.Get target

-- TryToGetSpinlock: if its checks pass, the call is open until one try is answered. [AUTOSAR SWS OS 4.x, SWS_Os_00704]
abbrev pub tries_spinlock : Runner → Option SpinlockId → Acts
tries_spinlock r target = asks_spinlock r Service.TryToGetSpinlock (getting_checks r) Awaits.Try target

-- ReleaseSpinlock: if its checks pass, the call is open until the spinlock is given back. [AUTOSAR SWS OS 4.x,
-- SWS_Os_00696]
abbrev pub releases_spinlock : Runner → Option SpinlockId → Acts
releases_spinlock r target = asks_spinlock r Service.ReleaseSpinlock (releasing_checks r) Awaits.Release target

-- What an operation does for a runner, if it is a service of spinlocks.
abbrev pub spin_acts : Runner → Op → Option Acts
spin_acts r (Op.GetSpinlock target) = Some (gets_spinlock r target)
spin_acts r (Op.TryToGetSpinlock target x) = Some (tries_spinlock r target)
spin_acts r (Op.ReleaseSpinlock target) = Some (releases_spinlock r target)
spin_acts r op = None
