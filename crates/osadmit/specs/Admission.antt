-- Which items a core may take in each state.
use Rattle.std.specs.Prelude.{ℕ, ◌^◌, ◌==◌, ◌&&◌, ◌||◌, nat_lt, Bool, true, false, not, if◌then◌else◌, is_none, Option, List, [], ◌∷◌, length, slice_index}
use Rattle.std.specs.{List.list_all, Option.option_map_or}
use Rattle.osbase.specs.{declared.statuses.Status.Status, declared.statuses.Status.TheVariants.EOk, declared.statuses.Status.TheVariants.EOsId, declared.statuses.Status.TheVariants.EOsState, declared.references.CoreId.CoreId, declared.references.SpinlockId.SpinlockId, declared.messages.Message.Message, declared.items.CoreSet.CoreSet, declared.items.Agreement.Agreement, declared.items.Item.Item, declared.histories.Awaited.Awaited, declared.histories.OpenCall.OpenCall, declared.histories.Sent.Sent, History.same_core, Phases.is_scheduling, Phases.same_phase, Sets.has_core, Sets.core_ids, Spins.newest_owed, Spins.same_spinlock, declared.items.CoreMode.CoreMode, declared.items.CoreMode.TheVariants.Named, declared.items.CoreMode.TheVariants.DontCare}
use Rattle.osbase.specs.declared.histories.Phase.TheVariants as Phase
use Rattle.osplan.specs.{Stimuli.knows_stimulus, View.View, View.is_configured}
use Rattle.osstate.specs.{Readings.is_this_core, Readings.next_start, State.KernelState}
use Rattle.osawait.specs.{Free.is_settled, Free.may_go_on, Free.may_look_halt, Messages.is_awaited}

-- The status is E_OK, since StartCore starts the core now, or E_OS_STATE, since the core was started before.
-- [AUTOSAR SWS OS 4.x, StartCore; E_OS_STATE before StartOS]
abbrev pub is_started_now_or_before : Status → Bool
is_started_now_or_before EOk = true
is_started_now_or_before EOsState = true
is_started_now_or_before s = false

-- The status is E_OS_ID: there is no such core.
abbrev pub is_unknown_core : Status → Bool
is_unknown_core EOsId = true
is_unknown_core s = false

-- StartCore may return this status for this core: E_OK or E_OS_STATE if the core is configured, else E_OS_ID.
abbrev pub is_start_answer : View → CoreId → Status → Bool
is_start_answer v core status = if is_configured v core then is_started_now_or_before status else is_unknown_core status

-- `other` is a core, not `None`, and it is the same as `core`.
abbrev pub is_for : CoreId → Option CoreId → Bool
is_for core other = option_map_or (same_core core) other false

-- The first gate may have this result for a core of this mode: a conflict, the mode that the core names, or, if the
-- core says DONOTCARE, any configured mode or none.
-- [AUTOSAR SWS OS 4.x, SWS_Os_00608 to SWS_Os_00610; that all may say DONOTCARE is this project's own]
abbrev pub is_agreement : View → CoreMode → Agreement → Bool
is_agreement v mode Agreement.Conflict = true
is_agreement v (Named own) (Agreement.Mode m) = own.index == m.index
is_agreement v DontCare (Agreement.Mode m) = nat_lt m.index (length v.modes)
is_agreement v (Named own) Agreement.NoMode = false
is_agreement v DontCare Agreement.NoMode = true

-- These may be the started cores: this core is among them, and each of them is configured. [own]
abbrev pub are_started_cores : View → CoreSet → Bool
are_started_cores v cores = has_core cores v.core && list_all (λ id. not (has_core cores id) || is_configured v id) core_ids

-- The outbox has a letter, and the one at its front goes to `core`.
abbrev pub is_front_for : CoreId → List Sent → Bool
is_front_for core [] = false
is_front_for core (s ∷ ss) = same_core s.to core

-- A letter may be taken if its sender is another core that was started, its number is the next one from that sender,
-- and its message is expected. [own]
abbrev pub is_next_from : ℕ → KernelState → CoreId → ℕ → Message → Bool
is_next_from places s from number message =
    has_core s.progress.started from && not (is_this_core s.view from) && (number == slice_index s.border.received from.number)
    && is_awaited places s from message

-- The call asks for a shutdown of all cores. [AUTOSAR SWS OS 4.x, ShutdownAllCores]
abbrev pub asks_halt : Awaited → Bool
asks_halt (Awaited.Halt status) = true
asks_halt awaited = false

-- The open call asks for a shutdown of all cores.
abbrev pub has_asked_halt : KernelState → Bool
has_asked_halt s = option_map_or (λ (call : OpenCall). asks_halt call.awaits) s.border.open_call false

-- A core may be halted if it requested the shutdown of all cores itself, or may look for one. [own]
abbrev pub may_halt : KernelState → Bool
may_halt s = has_asked_halt s || may_look_halt s

-- The call is GetSpinlock of this spinlock. [AUTOSAR SWS OS 4.x, GetSpinlock, TryToGetSpinlock and ReleaseSpinlock]
abbrev pub is_get_of : SpinlockId → Awaited → Bool
is_get_of l (Awaited.Get k) = same_spinlock k l
is_get_of l awaited = false

-- The call is TryToGetSpinlock of this spinlock.
abbrev pub is_try_of : SpinlockId → Awaited → Bool
is_try_of l (Awaited.Try k) = same_spinlock k l
is_try_of l awaited = false

-- The call is ReleaseSpinlock of this spinlock.
abbrev pub is_release_of : SpinlockId → Awaited → Bool
is_release_of l (Awaited.Release k) = same_spinlock k l
is_release_of l awaited = false

-- The open call is GetSpinlock of this spinlock.
abbrev pub awaits_get : KernelState → SpinlockId → Bool
awaits_get s l = option_map_or (λ (call : OpenCall). is_get_of l call.awaits) s.border.open_call false

-- The open call is TryToGetSpinlock of this spinlock.
abbrev pub awaits_try : KernelState → SpinlockId → Bool
awaits_try s l = option_map_or (λ (call : OpenCall). is_try_of l call.awaits) s.border.open_call false

-- The core gives this spinlock back next: the open call releases it, or no call is open and this spinlock is the newest
-- of those whose release is owed. [own]
abbrev pub is_next_release : KernelState → SpinlockId → Bool
is_next_release s l =
    option_map_or (λ (call : OpenCall). is_release_of l call.awaits) s.border.open_call
    (option_map_or (same_spinlock l) (newest_owed s.border.spins) false)

-- Whether an item may be taken, apart from the limit on the number of items. `places` is how many letters the outbox
-- may hold. [own]
abbrev pub admits : ℕ → KernelState → Item → Bool
admits places s Item.On = same_phase Phase.Off s.progress.phase
admits places s (Item.Began core status) =
    same_phase Phase.Boot s.progress.phase && is_for core (next_start s.view s.progress.began) && is_start_answer s.view core status
admits places s Item.Entered = same_phase Phase.Boot s.progress.phase && is_none (next_start s.view s.progress.began)
admits places s (Item.Pass1 agreement) = same_phase Phase.FirstGate s.progress.phase && is_agreement s.view s.view.own.mode agreement
admits places s Item.Readied = same_phase Phase.BetweenGates s.progress.phase
admits places s (Item.Pass2 cores) = same_phase Phase.SecondGate s.progress.phase && are_started_cores s.view cores
admits places s (Item.Stim stimulus) = same_phase Phase.Live s.progress.phase && knows_stimulus s.view.own stimulus && may_go_on s
admits places s (Item.Posted core) = is_scheduling s.progress.phase && is_front_for core s.border.outbox
admits places s (Item.Received from number message) = is_scheduling s.progress.phase && is_next_from places s from number message
admits places s (Item.Granted l) = same_phase Phase.Live s.progress.phase && awaits_get s l
admits places s (Item.Tried l taken) = same_phase Phase.Live s.progress.phase && awaits_try s l
admits places s (Item.Freed l) = same_phase Phase.Live s.progress.phase && is_next_release s l
admits places s (Item.Halt core status) = same_phase Phase.Live s.progress.phase && may_halt s
admits places s Item.Drained = same_phase Phase.Live s.progress.phase && is_settled s
admits places s Item.PassEnd = same_phase Phase.Drained s.progress.phase
admits places s (Item.Last shutdown) = same_phase Phase.Closing s.progress.phase

-- The item may be taken: fewer than 2 ^ 48 items were taken before, and the state admits it (`admits`). [own]
abbrev pub takes_in : ℕ → KernelState → Item → Bool
takes_in places s item = nat_lt s.progress.items (2 ^ 48) && admits places s item

-- The core may serve whichever message comes next: fewer than 2 ^ 48 items were taken before, the phase is one in which
-- the core schedules, and the outbox has a place for a reply. [own]
abbrev pub serves_in : ℕ → KernelState → Bool
serves_in places s = nat_lt s.progress.items (2 ^ 48) && (is_scheduling s.progress.phase && nat_lt (length s.border.outbox) places)
