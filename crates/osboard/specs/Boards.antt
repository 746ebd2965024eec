-- One board: the sets of started, entered, ready and drained cores and of named modes, and who asked first for a
-- shutdown of all cores. Each call of a core is answered at once. [own; the code has three words]
use Rattle.std.specs.Prelude.{◌≡◌, ◌⊎◌, ℕ, zero, suc, ◌<◌, ◌||◌, Bool, true, false, not, if◌then◌else◌, Option, Some, None, count_by, position, replicate, slice_set}
use Rattle.std.specs.List.{list_all, zip}
use Rattle.osbase.specs.{declared.statuses.Status.Status, declared.statuses.Status.TheVariants.EOk, declared.statuses.Status.TheVariants.EOsState, declared.references.CoreId.CoreId, declared.items.Agreement.Agreement, declared.items.CoreSet.CoreSet, History.no_cores, Sets.has_core, declared.items.CoreMode.CoreMode, declared.items.CoreMode.TheVariants.Named, declared.items.CoreMode.TheVariants.DontCare, declared.limits.TheConstants.CORES, declared.limits.TheConstants.MODES}
use Rattle.osshared.specs.{declared.histories.Entry.Entry, Histories.Object, Histories.entry}
use Rattle.osboard.specs.{declared.calls.ModeSet.ModeSet, declared.calls.BoardView.BoardView, declared.calls.BoardState.BoardState, declared.calls.BoardCall.BoardCall, declared.calls.BoardReply.BoardReply}
use Rattle.osboard.specs.declared.calls.BoardCall.TheVariants.{Start, Enter, MakeReady, Drain, Look, LookDrained, AskHalt, LookHalt}
use Rattle.osboard.specs.declared.calls.BoardReply.TheVariants.{Started, Acknowledged, Shown, Drained, Decided, Halting}

-- The set with this core added. It stays as it is if it has no place for the core's number.
abbrev pub with_core : CoreId → CoreSet → CoreSet
with_core id cores = record { members = slice_set cores.members id.number true }

abbrev pub no_modes : ModeSet
no_modes = record { members = replicate MODES false }

-- The set with the named mode added. DONOTCARE names no mode.
-- [AUTOSAR SWS OS 4.x, SWS_Os_00608 to SWS_Os_00610]
abbrev pub with_mode : CoreMode → ModeSet → ModeSet
with_mode (Named m) modes = record { members = slice_set modes.members m.index true }
with_mode DontCare modes = modes

-- The mode is DONOTCARE, or its index is below MODES.
abbrev pub IsMode : CoreMode → Type 0
IsMode (Named m) = m.index < MODES
IsMode DontCare = Unit {0}

-- The board has a place for the core or the mode that the call names.
abbrev pub HasPlace : BoardCall → Type 0
HasPlace (Start k) = k.number < CORES
HasPlace (Enter mode) = IsMode mode
HasPlace call = Unit {0}

-- The board's sets at first: the master alone is started.
-- [AUTOSAR SWS OS 4.x, StartCore: a core starts others before StartOS]
abbrev pub first_view : CoreId → BoardView
first_view master = record {
  started = with_core master no_cores;
  entered = no_cores;
  ready = no_cores;
  modes = no_modes;
}

-- The board at first: the master alone is started. No core has drained or asked for a shutdown of all cores.
abbrev pub first_board : CoreId → BoardState
first_board master = record { view = first_view master; drained = no_cores; halt = None }

-- The board's sets after a call of this core. A start adds core `k` to the started cores. A core that enters is added
-- to the entered cores, and its named mode to the modes. A core that is ready is added to the ready cores. Other calls
-- leave these sets.
abbrev pub view_after : CoreId → BoardCall → BoardView → BoardView
view_after core (Start k) view = record view { started = with_core k view.started }
view_after core (Enter mode) view = record view { entered = with_core core view.entered; modes = with_mode mode view.modes }
view_after core MakeReady view = record view { ready = with_core core view.ready }
view_after core Drain view = view
view_after core Look view = view
view_after core LookDrained view = view
view_after core (AskHalt status) view = view
view_after core LookHalt view = view

-- The drained cores after a call of this core. A core that has drained is added; other calls leave the set.
abbrev pub drained_after : CoreId → BoardCall → CoreSet → CoreSet
drained_after core (Start k) drained = drained
drained_after core (Enter mode) drained = drained
drained_after core MakeReady drained = drained
drained_after core Drain drained = with_core core drained
drained_after core Look drained = drained
drained_after core LookDrained drained = drained
drained_after core (AskHalt status) drained = drained
drained_after core LookHalt drained = drained

-- Who asked first for a shutdown of all cores, and with which status: `before` if a core had asked before, else
-- `asked`.
-- [AUTOSAR SWS OS 4.x, ShutdownAllCores; that the first decides is this project's own]
abbrev pub first_asked : Option (CoreId × Status) → CoreId × Status → CoreId × Status
first_asked None asked = asked
first_asked (Some before) asked = before

-- Who asked first for a shutdown of all cores, and with which status, after a call of this core; none if no core has
-- asked.
abbrev pub halt_after : CoreId → BoardCall → Option (CoreId × Status) → Option (CoreId × Status)
halt_after core (Start k) halt = halt
halt_after core (Enter mode) halt = halt
halt_after core MakeReady halt = halt
halt_after core Drain halt = halt
halt_after core Look halt = halt
halt_after core LookDrained halt = halt
halt_after core (AskHalt status) halt = Some (first_asked halt (core, status))
halt_after core LookHalt halt = halt

-- The board after a call of this core: what the call does to the sets, and to who asked first for a shutdown of all
-- cores.
abbrev pub board_after : CoreId → BoardCall → BoardState → BoardState
board_after core call board = record { view = view_after core call board.view; drained = drained_after core call board.drained; halt = halt_after core call board.halt }

-- The answer to a start of core `k`: E_OS_STATE if `k` is started already, else E_OK. [AUTOSAR SWS OS 4.x, StartCore]
abbrev pub start_answer : BoardView → CoreId → Status
start_answer view k = if has_core view.started k then EOsState else EOk

-- What the board answers a call of this core. A start gets a status, and a look gets the sets or the drained cores. A
-- call about a shutdown of all cores gets who asked for it first. Other calls are acknowledged.
abbrev pub board_reply : CoreId → BoardCall → BoardState → BoardReply
board_reply core (Start k) board = Started (start_answer board.view k)
board_reply core (Enter mode) board = Acknowledged
board_reply core MakeReady board = Acknowledged
board_reply core Drain board = Acknowledged
board_reply core Look board = Shown board.view
board_reply core LookDrained board = Drained board.drained
board_reply core (AskHalt status) board = Decided (first_asked board.halt (core, status))
board_reply core LookHalt board = Halting board.halt

-- One board for all cores, on which a shutdown of all cores can be asked for: how it is at first, what a call does to
-- it, and what the call is answered. [own]
abbrev pub one_board : Object CoreId BoardState BoardCall BoardReply
one_board = record { first = first_board; after = board_after; reply = board_reply }

-- A call of a core, with its answer.
abbrev pub BoardEntry : Type 0
BoardEntry = Entry BoardCall BoardReply

-- A core's start of core `k`, with its answer.
abbrev pub start_call : CoreId → CoreId → Status → BoardEntry
start_call core k status = entry core (Start k) (Started status)

-- A core's call that it has entered StartOS with this mode. The answer is that the call is acknowledged.
abbrev pub enter_call : CoreId → CoreMode → BoardEntry
enter_call core mode = entry core (Enter mode) Acknowledged

-- A core's call that it is ready to pass the second gate. The answer is that the call is acknowledged.
abbrev pub ready_call : CoreId → BoardEntry
ready_call core = entry core MakeReady Acknowledged

-- A core's call that it has drained. The answer is that the call is acknowledged.
abbrev pub drain_call : CoreId → BoardEntry
drain_call core = entry core Drain Acknowledged

-- A core's look at the started, entered and ready cores and the named modes, with its answer.
abbrev pub look_call : CoreId → BoardView → BoardEntry
look_call core view = entry core Look (Shown view)

-- A core's look at the drained cores, with its answer.
abbrev pub look_drained_call : CoreId → CoreSet → BoardEntry
look_drained_call core drained = entry core LookDrained (Drained drained)

-- A core's call for a shutdown of all cores with this status. The answer is who asked first, and with which status.
abbrev pub ask_halt_call : CoreId → Status → CoreId × Status → BoardEntry
ask_halt_call core status decided = entry core (AskHalt status) (Decided decided)

-- A core's look at who asked first for a shutdown of all cores, with its answer: none if no core has asked.
abbrev pub look_halt_call : CoreId → Option (CoreId × Status) → BoardEntry
look_halt_call core halt = entry core LookHalt (Halting halt)

-- The call is one of the three looks, which change nothing.
abbrev pub IsLook : BoardEntry → Type 0
IsLook e = (e.call ≡ Look) ⊎ ((e.call ≡ LookDrained) ⊎ (e.call ≡ LookHalt))

-- Every started core is in the set: what a synchronisation point waits for.
-- [AUTOSAR SWS OS 4.x, SWS_Os_00579 and SWS_Os_00580]
abbrev pub have_all : CoreSet → CoreSet → Bool
have_all started cores = list_all (λ (p : Bool × Bool). not p.0 || p.1) (zip started.members cores.members)

-- The result of comparing the named modes, by how many they are and the index of the first: none, the one, or a
-- conflict of several.
-- [AUTOSAR SWS OS 4.x, SWS_Os_00608 to SWS_Os_00610; that all may say DONOTCARE is this project's own]
abbrev pub agreement_by : ℕ → Option ℕ → Agreement
agreement_by zero first = Agreement.NoMode
agreement_by (suc zero) None = Agreement.NoMode
agreement_by (suc zero) (Some index) = Agreement.Mode (record { index = index })
agreement_by (suc (suc n)) first = Agreement.Conflict

-- The result of comparing the named modes: none, the one, or a conflict of several.
abbrev pub agreement_in : ModeSet → Agreement
agreement_in modes = agreement_by (count_by (λ b. b) modes.members) (position (λ b. b) modes.members)
