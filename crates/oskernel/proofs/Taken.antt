-- What holds after an admitted item is taken.
use Rattle.std.proofs.Common.{◌≡◌, ℕ, ◌≤◌, ◌<◌, true, false, IfSome, [], length, arith}
use Rattle.std.proofs.lemmas.Bool.Decides.{nat_tests}
use Rattle.osbase.specs.{declared.histories.OpenCall.OpenCall, declared.histories.Phase.Phase, declared.items.Item.Item, History.Took, History.phase_after, History.outbox_after}
use Rattle.osbase.specs.Phases.{is_before_live, is_past_first_gate}
use Rattle.osprogress.specs.Border.{is_grant_known, is_posted, is_sender_known}
use Rattle.osstate.specs.{State.KernelState, Sound.is_awaited_known}
use Rattle.osadmit.specs.Admission.{admits}
use Rattle.oskernel.specs.Taking.{is_acting, may_fill_outbox, is_stimulus, is_known, is_second_gate}

pub acting : (places : ℕ) (s : KernelState) (item : Item) → admits places s item ≡ true → is_acting item ≡ true → is_before_live (phase_after (Took item) s.progress.phase) ≡ false
acting places s item a b = grind (arith, a, b)

-- a letter's sender is one of the started cores
pub sender : (places : ℕ) (s : KernelState) (item : Item) → admits places s item ≡ true → is_sender_known item ≡ true
sender places s item a = grind (arith, a)

-- A spinlock that is got is the one that the open call awaits, which has a place.
pub lock : (places : ℕ) (s : KernelState) (item : Item) → IfSome s.border.open_call (λ (call : OpenCall). is_awaited_known call.awaits ≡ true) → admits places s item ≡ true → is_grant_known item ≡ true
lock places s item known a = grind (arith, nat_tests, known, a)

pub past : (p : Phase) (item : Item) → is_second_gate item ≡ true → is_past_first_gate (phase_after (Took item) p) ≡ true
past p item b = grind (arith, b)

pub fresh : (places : ℕ) (s : KernelState) (item : Item) → admits places s item ≡ true → is_second_gate item ≡ true → is_before_live s.progress.phase ≡ true
fresh places s item a b = grind (arith, a, b)

pub front : (places : ℕ) (s : KernelState) (item : Item) → admits places s item ≡ true → is_posted item ≡ true → 0 < length s.border.outbox
front places s item a b = grind (arith, a, b)

pub filling : (places : ℕ) (s : KernelState) (item : Item) → 1 ≤ places → admits places s item ≡ true → may_fill_outbox item ≡ true → length (outbox_after (Took item) s.border.outbox) < places
filling places s item some a b = grind (arith, nat_tests, some, a, b)

pub going_on : (places : ℕ) (s : KernelState) (item : Item) → admits places s item ≡ true → is_stimulus item ≡ true → outbox_after (Took item) s.border.outbox ≡ []
going_on places s item a b = grind (arith, a, b)

-- an admitted item is a stimulus that the core knows, or a message for it, or neither kind
pub known : (places : ℕ) (s : KernelState) (item : Item) → admits places s item ≡ true → is_known s item ≡ true
known places s item a = grind (arith, a)
