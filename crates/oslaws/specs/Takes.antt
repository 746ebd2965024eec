-- When a core may take an item: one line for each kind, said of its history.
--
-- No state of a kernel occurs here. What a line asks of the configuration, or of one call alone, has one definition,
-- which the kernel's own test uses too.
use Rattle.std.specs.Prelude.{◌≡◌, ℕ, ◌^◌, ◌==◌, ◌&&◌, ◌||◌, nat_lt, Bool, false, not, is_none, length, slice_get}
use Rattle.std.specs.Option.{option_map_or}
use Rattle.osbase.specs.{declared.statuses.Status.Status, declared.statuses.Status.TheVariants.EOk, declared.statuses.Status.TheVariants.EOsId, declared.statuses.Status.TheVariants.EOsState, declared.statuses.ServiceId.ServiceId, declared.references.CoreId.CoreId, declared.messages.Message.Message, declared.items.Item.Item, declared.histories.Awaited.Awaited, declared.histories.OpenCall.OpenCall, declared.histories.Phase.Phase, Objects.object_of_call, Phases.is_going, Phases.same_phase, Sets.has_core}
use Rattle.osbase.specs.History.{History, began_count, course_of, item_count, open_call, outbox, received_count, same_core, started_cores}
use Rattle.osbase.specs.Spins.{got_spinlocks, is_owing, newest_owed, same_spinlock}
use Rattle.oscript.specs.Calls.{is_action}
use Rattle.osplan.specs.{Objects.is_own_object, Stimuli.knows_stimulus, View.View, View.is_configured}
use Rattle.osstate.specs.Readings.{phase_at}
use Rattle.osservice.specs.Checks.{is_ok_status}
use Rattle.osawait.specs.{Free.is_empty, Free.is_get, Messages.answers_value}
use Rattle.osadmit.specs.Admission.{are_started_cores, asks_halt, is_agreement, is_front_for, is_get_of, is_release_of, is_try_of}
use Rattle.oskernel.specs.Step.{takes}

-- ---- where a core stands

-- The core is in this phase. [own]
abbrev pub is_at : Phase → View → History → Bool
is_at phase v h = same_phase phase (phase_at v h)

-- The core has passed the second gate and has not ended: it is live, has drained, or closes.
abbrev pub is_live : View → History → Bool
is_live v h = is_at Phase.Live v h || is_at Phase.Drained v h || is_at Phase.Closing v h

-- No call is open.
abbrev pub has_no_call : History → Bool
has_no_call h = is_none (open_call h)

-- No release of a spinlock is owed.
abbrev pub owes_nothing : History → Bool
owes_nothing h = not (is_owing (got_spinlocks h))

-- Nothing waits to be posted.
abbrev pub has_posted_all : History → Bool
has_posted_all h = is_empty (outbox h)

-- The core is neither down nor halted.
abbrev pub is_up : History → Bool
is_up h = is_going (course_of h)

-- A call is open, and what it awaits passes this test.
abbrev pub awaits : (Awaited → Bool) → History → Bool
awaits test h = option_map_or (λ (call : OpenCall). test call.awaits) (open_call h) false

-- ---- what an item names

-- The core is next in the start list. [AUTOSAR SWS OS 4.x, StartCore; that there is a list: own]
abbrev pub is_next_to_start : View → History → CoreId → Bool
is_next_to_start v h core = option_map_or (same_core core) (slice_get v.own.start (began_count h)) false

-- The start list has no further core to start.
abbrev pub has_none_to_start : View → History → Bool
has_none_to_start v h = is_none (slice_get v.own.start (began_count h))

-- The answer to StartCore is E_OS_ID exactly for a core that is not configured, and else E_OK or E_OS_STATE.
-- [AUTOSAR SWS OS 4.x, StartCore]
abbrev pub is_answer_for : View → CoreId → Status → Bool
is_answer_for v core EOsId = not (is_configured v core)
is_answer_for v core EOk = is_configured v core
is_answer_for v core EOsState = is_configured v core
is_answer_for v core status = false

-- The reply of this core is awaited, for a service that passes a test.
abbrev pub is_reply_of : CoreId → (ServiceId → Bool) → Awaited → Bool
is_reply_of from test (Awaited.Reply service core) = same_core core from && test service
is_reply_of from test awaited = false

-- A message from another core is expected. A request or an action has to be for an object of this core; for a request
-- the outbox needs a place for the reply. A reply has to be the one that the open call awaits, with a value exactly for
-- GetAlarm and E_OK.
-- [OSEK/VDX OS 2.2.3, section 13.6.3.2, GetAlarm; that services cross cores so: own]
abbrev pub is_expected : ℕ → View → History → CoreId → Message → Bool
is_expected places v h from (Message.Request call) = is_own_object v.own (object_of_call call) && nat_lt (length (outbox h)) places
is_expected places v h from (Message.Action call) = is_action call && is_own_object v.own (object_of_call call)
is_expected places v h from (Message.Reply status) = awaits (is_reply_of from (λ service. not (answers_value service && is_ok_status status))) h
is_expected places v h from (Message.Value status n) = awaits (is_reply_of from (λ service. answers_value service && is_ok_status status)) h

-- ---- the lines

-- When a core may take an item, apart from the limit on the number of items. `places` is how many letters the outbox
-- may hold.
-- [AUTOSAR SWS OS 4.x, SWS_Os_00579 and SWS_Os_00580, for the two gates; that a core takes items: own]
abbrev pub admits_by : ℕ → View → History → Item → Bool
admits_by places v h Item.On = is_at Phase.Off v h
admits_by places v h (Item.Began core status) = is_at Phase.Boot v h && is_next_to_start v h core && is_answer_for v core status
admits_by places v h Item.Entered = is_at Phase.Boot v h && has_none_to_start v h
admits_by places v h (Item.Pass1 agreement) = is_at Phase.FirstGate v h && is_agreement v v.own.mode agreement
admits_by places v h Item.Readied = is_at Phase.BetweenGates v h
admits_by places v h (Item.Pass2 cores) = is_at Phase.SecondGate v h && are_started_cores v cores
admits_by places v h (Item.Stim stimulus) =
    is_at Phase.Live v h && knows_stimulus v.own stimulus && has_no_call h && owes_nothing h && has_posted_all h && is_up h
admits_by places v h (Item.Posted core) = is_live v h && is_front_for core (outbox h)
admits_by places v h (Item.Received from number message) =
    is_live v h && has_core (started_cores h) from && not (same_core from v.core) && (number == received_count from h)
    && is_expected places v h from message
admits_by places v h (Item.Granted l) = is_at Phase.Live v h && awaits (is_get_of l) h
admits_by places v h (Item.Tried l taken) = is_at Phase.Live v h && awaits (is_try_of l) h
admits_by places v h (Item.Freed l) =
    is_at Phase.Live v h
    && (awaits (is_release_of l) h || (has_no_call h && option_map_or (same_spinlock l) (newest_owed (got_spinlocks h)) false))
admits_by places v h (Item.Halt core status) =
    is_at Phase.Live v h && (awaits asks_halt h || (is_up h && owes_nothing h && (has_no_call h || awaits is_get h)))
admits_by places v h Item.Drained = is_at Phase.Live v h && has_no_call h && owes_nothing h && has_posted_all h
admits_by places v h Item.PassEnd = is_at Phase.Drained v h
admits_by places v h (Item.Last shutdown) = is_at Phase.Closing v h

-- A core may take an item exactly if the lines of `admits_by` say so and it took fewer than 2 ^ 48 items.
pub record TakesByTheLines (places : ℕ) (v : View) (h : History) (item : Item) : Type 0 where
  pub may : takes places v h item ≡ (nat_lt (item_count h) (2 ^ 48) && admits_by places v h item)
