-- Whom a core asks beside itself: another core, by a letter; a spinlock; what all cores share, that is, which of them
-- are configured, which are started, and how the spinlocks are nested; and all cores, to shut down.
use Rattle.osbase.specs.{declared.references.CoreId.CoreId, declared.references.SpinlockId.SpinlockId, declared.histories.Awaited.Awaited}

pub data Partner : Type 0 where
  Core : CoreId → Partner
  Spinlock : SpinlockId → Partner
  Shared : Partner
  Halt : Partner

-- The partner from whom a call awaits its answer.
abbrev pub partner_of : Awaited → Partner
partner_of (Awaited.Reply service core) = Partner.Core core
partner_of (Awaited.Halt status) = Partner.Halt
partner_of (Awaited.Get l) = Partner.Spinlock l
partner_of (Awaited.Try l) = Partner.Spinlock l
partner_of (Awaited.Release l) = Partner.Spinlock l
