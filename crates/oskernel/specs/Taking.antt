-- What an admitted item says of the state before it is taken.
use Rattle.std.specs.Prelude.{ℕ, ◌<◌, ◌≤◌, length, Bool, true, false, Option, Some, None}
use Rattle.osbase.specs.{declared.items.Agreement.Agreement, declared.items.Item.Item, declared.references.ModeId.ModeId, declared.messages.Message.Message, History.job_count}
use Rattle.osbase.specs.declared.references.Runner.TheVariants as Runner
use Rattle.osplan.specs.Stimuli.{knows_stimulus}
use Rattle.osstate.specs.{Readings.is_served, Readings.task_ref, Sound.activation_limit, State.KernelState}

-- The core passes the second gate by the item.
abbrev pub is_second_gate : Item → Bool
is_second_gate (Item.Pass2 cores) = true
is_second_gate item = false

-- The result of the first gate for this mode. There is no mode if all cores say DONOTCARE.
-- [AUTOSAR SWS OS 4.x, SWS_Os_00608 to SWS_Os_00610; that all may say DONOTCARE is this project's own]
abbrev pub agreement_on : Option ModeId → Agreement
agreement_on (Some m) = Agreement.Mode m
agreement_on None = Agreement.NoMode

-- Each task from this index on may have one job more.
abbrev pub have_places : ℕ → KernelState → Type 0
have_places index s = (k : ℕ) → index ≤ k → k < length s.view.own.tasks → job_count (Runner.Task (task_ref s.view.own k)) s.tasks.jobs < activation_limit s.view.own (Runner.Task (task_ref s.view.own k))

-- The message is a request, which needs a place in the outbox.
abbrev pub is_request : Message → Bool
is_request (Message.Request call) = true
is_request message = false

-- If the message is a request or an action, its call is on an object of this core.
abbrev pub is_for_core : KernelState → Message → Bool
is_for_core s (Message.Request call) = is_served s.view call
is_for_core s (Message.Action call) = is_served s.view call
is_for_core s message = true

-- If the item is an interrupt, its ISR is one of the core's own. If the item is a received request or action, its call
-- is on an object of this core.
abbrev pub is_known : KernelState → Item → Bool
is_known s (Item.Stim stimulus) = knows_stimulus s.view.own stimulus
is_known s (Item.Received from number message) = is_for_core s message
is_known s item = true

-- The item is one by which jobs may begin: the second gate, a stimulus, or a message.
abbrev pub is_acting : Item → Bool
is_acting (Item.Pass2 cores) = true
is_acting (Item.Stim stimulus) = true
is_acting (Item.Received from number message) = true
is_acting item = false

-- The item is one by which letters may join the outbox: a stimulus or a received request.
abbrev pub may_fill_outbox : Item → Bool
may_fill_outbox (Item.Stim stimulus) = true
may_fill_outbox (Item.Received from number message) = is_request message
may_fill_outbox item = false

-- The item is a stimulus, which a core takes only if its outbox is empty.
abbrev pub is_stimulus : Item → Bool
is_stimulus (Item.Stim stimulus) = true
is_stimulus item = false
