-- What a core would do in its own turn, by the first rule that applies, and what its look at the board waits for. [own]
use Rattle.std.specs.Prelude.{if◌then◌else◌, Bool, true, Option, Some, None, List, [], ◌∷◌}
use Rattle.std.specs.Option.{option_map_or}
use Rattle.osbase.specs.{declared.references.CoreId.CoreId, declared.references.SpinlockId.SpinlockId, declared.messages.Envelope.Envelope, declared.messages.Letter.Letter, declared.histories.Awaited.Awaited, declared.histories.GotSpinlock.GotSpinlock, declared.histories.OpenCall.OpenCall, declared.histories.Sent.Sent, declared.histories.Course.Course, declared.histories.Phase.Phase, History.History, Spins.newest_owed}
use Rattle.osplan.specs.View.{View}
use Rattle.osprogress.specs.Border.{is_lock_known}
use Rattle.osstate.specs.{Readings.next_start, State.KernelState, State.state_of}
use Rattle.osawait.specs.Free.{may_look_halt}
use Rattle.oskernel.specs.{declared.wants.SpinWish.SpinWish, declared.wants.Want.Want, declared.wants.Watch.Watch}
use Rattle.oskernel.specs.declared.wants.SpinWish.TheVariants as Wish
use Rattle.oskernel.specs.declared.wants.Want.TheVariants.{Start, Enter, Ready, Post, Spin, AskHalt, GoOn, Drain, Nothing}

-- The next core of the start list is started. If none is left, the core enters StartOS.
abbrev pub start_or_enter : Option CoreId → Want
start_or_enter (Some core) = Start core
start_or_enter None = Enter

-- If the outbox has a letter, the core posts the one at its front. Else it does what it would do otherwise, `want`.
abbrev pub post_or : Want → List Sent → Want
post_or want [] = want
post_or want (s ∷ ss) = Post s.to

-- GetSpinlock tries to take the spinlock in each turn, TryToGetSpinlock in one. ReleaseSpinlock gives it back.
-- ShutdownAllCores asks for the shutdown. A call that awaits a reply only waits. [AUTOSAR SWS OS 4.x, GetSpinlock,
-- TryToGetSpinlock, ReleaseSpinlock and ShutdownAllCores; that a turn of its own asks is this project's own]
abbrev pub want_for : Awaited → Want
want_for (Awaited.Reply service core) = Nothing
want_for (Awaited.Get l) = Spin (Wish.Get l)
want_for (Awaited.Try l) = Spin (Wish.Try l)
want_for (Awaited.Release l) = Spin (Wish.Free l)
want_for (Awaited.Halt status) = AskHalt status

-- If a call is open, the core does what the call needs; else what it would do without one.
abbrev pub want_call : Option OpenCall → Want → Want
want_call None want = want
want_call (Some call) want = want_for call.awaits

-- If spinlock releases are owed, the core frees the newest of these spinlocks. Else it does what it would do otherwise,
-- `want`.
abbrev pub want_owed : List GotSpinlock → Want → Want
want_owed got want = option_map_or (λ l. Spin (Wish.Free l)) (newest_owed got) want

-- A core goes on with its next stimulus. One that is down or halted drains, whatever stimuli are left.
abbrev pub go_on_by : Course → Want
go_on_by Course.Going = GoOn
go_on_by Course.Down = Drain
go_on_by Course.Halted = Drain

-- What the core's own turn would do in this phase. A live core first posts its letters, then sees to its open call and
-- its owed spinlocks, and then goes on.
abbrev pub want_from : Phase → KernelState → Want
want_from Phase.Boot s = start_or_enter (next_start s.view s.progress.began)
want_from Phase.BetweenGates s = Ready
want_from Phase.Live s = post_or (want_call s.border.open_call (want_owed s.border.spins (go_on_by s.progress.course))) s.border.outbox
want_from Phase.Drained s = post_or Nothing s.border.outbox
want_from Phase.Closing s = post_or Nothing s.border.outbox
want_from Phase.Off s = Nothing
want_from Phase.FirstGate s = Nothing
want_from Phase.SecondGate s = Nothing
want_from Phase.Ended s = Nothing

-- What the core's own turn would do. [own]
abbrev pub want_in : KernelState → Want
want_in s = want_from s.progress.phase s

-- What the core's own turn would do after this history.
abbrev pub want_of : View → History → Want
want_of v h = want_in (state_of v h)

-- The spinlock that a wish names. [own]
abbrev pub lock_of : SpinWish → SpinlockId
lock_of (Wish.Get l) = l
lock_of (Wish.Try l) = l
lock_of (Wish.Free l) = l

-- If the want names a spinlock, the spinlock's index is below SPINLOCKS.
abbrev pub is_want_known : Want → Bool
is_want_known (Spin wish) = is_lock_known (lock_of wish)
is_want_known want = true

-- A live core watches for a shutdown of all cores, if it may look for one. Else it watches for nothing. [own]
abbrev pub watch_halt : KernelState → Watch
watch_halt s = if may_look_halt s then Watch.Halt else Watch.Nothing

-- What the core's look at the board waits for: its start, a gate, a shutdown of all cores, the end, nothing, or that
-- the cores which were started at the second gate have drained.
abbrev pub watch_from : Phase → KernelState → Watch
watch_from Phase.Off s = Watch.On
watch_from Phase.FirstGate s = Watch.FirstGate
watch_from Phase.SecondGate s = Watch.SecondGate
watch_from Phase.Live s = watch_halt s
watch_from Phase.Drained s = Watch.PassEnd s.progress.started
watch_from Phase.Closing s = Watch.Last
watch_from Phase.Boot s = Watch.Nothing
watch_from Phase.BetweenGates s = Watch.Nothing
watch_from Phase.Ended s = Watch.Nothing

-- What the core's look at the board waits for.
abbrev pub watch_in : KernelState → Watch
watch_in s = watch_from s.progress.phase s

-- What the core's look at the board waits for after this history.
abbrev pub watch_of : View → History → Watch
watch_of v h = watch_in (state_of v h)

-- The envelope in which a letter leaves the outbox, with 0 on its clock.
abbrev pub envelope_of : Letter → Envelope
envelope_of letter = record { letter = letter; clock = 0 }

-- The letter at the front of the outbox, in its envelope, and the core to which it goes. [own]
abbrev pub front_of : List Sent → Option (CoreId × Envelope)
front_of [] = None
front_of (s ∷ ss) = Some (s.to, envelope_of s.letter)
