-- The order in which a job may get spinlocks while it holds others: each spinlock may have a successor.
-- Each is a test, so that a literal configuration passes it by computation.
use Rattle.std.specs.Prelude.{ℕ, zero, suc, ◌||◌, Bool, true, false, not, Option, None, List, length, map, slice_get, unwrap_or}
use Rattle.std.specs.{List.list_all, Option.option_map_or}
use Rattle.osbase.specs.{declared.references.SpinlockId.SpinlockId, Spins.same_spinlock}
use Rattle.osplan.specs.declared.plans.Spinlock.{Spinlock}

-- The successor of each spinlock, if it has one. [AUTOSAR SWS OS 4.x, OsSpinlockSuccessor]
abbrev pub links_of : List Spinlock → List (Option SpinlockId)
links_of spinlocks = map (λ (spinlock : Spinlock). spinlock.next) spinlocks

-- The successor of this spinlock, if it has one.
abbrev pub next_in : List (Option SpinlockId) → SpinlockId → Option SpinlockId
next_in links l = unwrap_or (slice_get links l.index) None

-- `to` comes after `from` if one to n steps lead there, each from a spinlock to its successor. As many steps as there
-- are spinlocks are enough: a way that visits none twice has no more. [AUTOSAR SWS OS 4.x, SWS_Os_00660, SWS_Os_00661]
abbrev pub comes_after : List (Option SpinlockId) → ℕ → SpinlockId → SpinlockId → Bool
comes_after links zero from to = false
comes_after links (suc n) from to = option_map_or (λ (next : SpinlockId). same_spinlock next to || comes_after links n next to) (next_in links from) false

-- The spinlock `next`, a successor, does not come after itself; or there is none. No spinlock but a successor could.
-- [AUTOSAR SWS OS 4.x, SWS_Os_00660]
abbrev pub is_link_ordered : List (Option SpinlockId) → Option SpinlockId → Bool
is_link_ordered links next = option_map_or (λ (l : SpinlockId). not (comes_after links (length links) l l)) next true

-- No spinlock comes after itself.
abbrev pub are_links_ordered : List (Option SpinlockId) → Bool
are_links_ordered links = list_all (is_link_ordered links) links
