-- The three words of the board. [own]
use Rattle.std.specs.Prelude.{◌≡◌, ◌==◌, ℕ, ◌+◌, ◌-◌, ◌*◌, ◌/◌, ◌%◌, ◌^◌, nat_lt, Bool, true, false, if◌then◌else◌, Option, Some, None, List, length, map, slice_index}
use Rattle.std.specs.{List.range_with_len, Int.bit_at, Option.is_some}
use Rattle.osbase.specs.{declared.statuses.Status.Status, declared.references.CoreId.CoreId, declared.items.CoreSet.CoreSet, declared.limits.TheConstants.CORES, declared.limits.TheConstants.MODES, Words.status_number, Words.status_numbered, declared.items.CoreMode.CoreMode, declared.items.CoreMode.TheVariants.Named, declared.items.CoreMode.TheVariants.DontCare}
use Rattle.osboard.specs.{declared.calls.BoardView.BoardView, declared.calls.BoardState.BoardState, declared.calls.BoardCall.BoardCall, declared.calls.BoardReply.BoardReply, Boards.first_asked, Boards.start_answer}
use Rattle.osboard.specs.declared.calls.BoardCall.TheVariants.{Start, Enter, MakeReady, Drain, Look, LookDrained, AskHalt, LookHalt}
use Rattle.osboard.specs.declared.calls.BoardReply.TheVariants.{Started, Acknowledged, Shown, Drained, Decided, Halting}

abbrev pub has_bit : ℕ → ℕ → Bool
has_bit word place = bit_at word place == 1

-- The first `count` flags of a set: flag k is bit first + k of its word.
abbrev pub flags_in : ℕ → ℕ → ℕ → List Bool
flags_in count first word = map (λ (k : ℕ). has_bit word (first + k)) (range_with_len 0 count)

-- A set of cores, whose flags are in the word from bit `first` on.
abbrev pub cores_in : ℕ → ℕ → CoreSet
cores_in first word = record { members = flags_in CORES first word }

-- The sets in the phase word: sixteen bits each for the started, entered and ready cores, and a byte for the named
-- modes.
abbrev pub view_in : ℕ → BoardView
view_in word = record {
  started = cores_in 0 word;
  entered = cores_in 16 word;
  ready = cores_in 32 word;
  modes = record { members = flags_in MODES 48 word };
}

-- The bit of the named mode in the phase word, or 0 if no mode is named.
abbrev pub mode_bits : CoreMode → ℕ
mode_bits (Named mode) = 2 ^ (48 + mode.index)
mode_bits DontCare = 0

-- The halt word if this core was the first to ask: 256 times the core's number, plus the number of the status, plus 1.
-- Before any core has asked, the word is 0.
abbrev pub halt_word : CoreId → Status → ℕ
halt_word core status = core.number * 256 + status_number status + 1

-- The core of this number and this status, if there is a status and the number is below 256.
abbrev pub asked_by : ℕ → Option Status → Option (CoreId × Status)
asked_by number None = None
asked_by number (Some status) = if nat_lt number 256 then Some (record { number = number }, status) else None

-- Who asked for a shutdown of all cores, and with which status, as the halt word tells; none if it tells no core or no
-- status.
abbrev pub halt_in : ℕ → Option (CoreId × Status)
halt_in word = if word == 0 then None else asked_by ((word - 1) / 256) (status_numbered ((word - 1) % 256))

-- Three words stand for this board: the phase word for the sets of a look, the halt word, and the word of the drained
-- cores. A halt word other than 0 names a core and a status.
pub record Stands (board : BoardState) (words : List ℕ) : Type 0 where
  pub count : length words ≡ 3
  pub view : board.view ≡ view_in (slice_index words 0)
  pub halt : board.halt ≡ halt_in (slice_index words 1)
  pub drained : board.drained ≡ cores_in 0 (slice_index words 2)
  pub asked : (slice_index words 1 == 0) ≡ false → is_some (halt_in (slice_index words 1)) ≡ true

-- What a call of this core is answered, by the word that the call finds.
abbrev pub answer : CoreId → BoardCall → ℕ → BoardReply
answer core (Start k) word = Started (start_answer (view_in word) k)
answer core (Enter mode) word = Acknowledged
answer core MakeReady word = Acknowledged
answer core Drain word = Acknowledged
answer core Look word = Shown (view_in word)
answer core LookDrained word = Drained (cores_in 0 word)
answer core (AskHalt status) word = Decided (first_asked (halt_in word) (core, status))
answer core LookHalt word = Halting (halt_in word)
