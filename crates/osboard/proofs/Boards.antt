-- Each of the eight kinds of step is one call of the board.
use Rattle.std.proofs.Common.{◌≡◌, ◌==◌, ℕ, ◌+◌, ◌-◌, ◌*◌, ◌/◌, ◌%◌, ◌^◌, ◌<◌, Bool, true, false, if◌then◌else◌, List, [], ◌∷◌, Option, Some, None, set, get_or, length, bit_or, sym, refl, ap, ◌∙◌, ⊎_elim, arith, length-set}
use Rattle.std.proofs.lemmas.List.{get_or-set_same, get_or-set_other}
use Rattle.std.proofs.lemmas.Bool.{cases_eq, eq-eqb, ne_eqb, lt-ltb, both_ways}
use Rattle.std.proofs.lemmas.Nat.Bits.{bit_at_or, same_from_bits}
use Rattle.std.specs.{Int.Bits.or_zero_l, Int.Bits.or_zero_r, Option.is_some}
use prog.Atomic.{either}
use Rattle.osbase.specs.{declared.references.CoreId.CoreId, declared.statuses.Status.Status, Words.status_number, Words.status_numbered, declared.items.CoreMode.CoreMode, declared.items.CoreMode.TheVariants.Named, declared.items.CoreMode.TheVariants.DontCare}
use Rattle.osbase.proofs.StatusNumbers.{status_back, status_low}
use Rattle.osshared.specs.{declared.histories.Entry.Entry, Histories.Continues, Runs.AreIdle, Views.IsStep}
use Rattle.osshared.proofs.Steps.{continues}
use Rattle.osboard.specs.{declared.calls.BoardView.BoardView, declared.calls.BoardState.BoardState, declared.calls.BoardCall.BoardCall, declared.calls.BoardReply.BoardReply}
use Rattle.osboard.specs.declared.calls.BoardCall.TheVariants.{Start, Enter, MakeReady, Drain, AskHalt}
use Rattle.osboard.specs.declared.calls.BoardReply.TheVariants.{Decided}
use Rattle.osboard.specs.Boards.{IsLook, IsMode, ask_halt_call, first_board, with_mode, view_after, drained_after, halt_after, first_asked, board_after, board_reply, one_board}
use Rattle.osboard.specs.Words.{cores_in, flags_in, view_in, mode_bits, halt_word, asked_by, halt_in, Stands, answer}
use Rattle.osboard.proofs.Flags.{away, here}

-- what a step that makes f of the word at one place leaves at another
abbrev changed : ℕ → (ℕ → ℕ) → ℕ → ℕ → ℕ
changed place f k n = if k == place then f n else n

read : (place k : ℕ) (f : ℕ → ℕ) (words : List ℕ) → k < length words → get_or (set words place (f (get_or words place 0))) k 0 ≡ changed place f k (get_or words k 0)
read place k f words lt = ⊎_elim
    (λ e. rw (eq-eqb k place e, e) (get_or-set_same words place _ 0 (rw (e) at lt)))
    (λ ne. rw (ne_eqb k place ne) (get_or-set_other words place k _ 0 ne))
    (cases_eq k place)

-- a halt word other than 0 names who asked
abbrev NamesAsker : ℕ → Type 0
NamesAsker word = (word == 0) ≡ false → is_some (halt_in word) ≡ true

abbrev board_in : List ℕ → BoardState
board_in words = record { view = view_in (get_or words 0 0); drained = cores_in 0 (get_or words 2 0); halt = halt_in (get_or words 1 0) }

-- a step on a word that does what the call does to the board
steps : (place : ℕ) (core : CoreId) (call : BoardCall) (f : ℕ → ℕ)
    → ((n : ℕ) → view_in (changed place f 0 n) ≡ view_after core call (view_in n))
    → ((n : ℕ) → NamesAsker n → (halt_in (changed place f 1 n) ≡ halt_after core call (halt_in n)) × NamesAsker (changed place f 1 n))
    → ((n : ℕ) → cores_in 0 (changed place f 2 n) ≡ drained_after core call (cores_in 0 n))
    → ((words : List ℕ) → answer core call (get_or words place 0) ≡ board_reply core call (board_in words))
    → IsStep one_board Stands answer core call place f
steps place core call f views halts drains replies s words st small =
    let is : s ≡ board_in words = λ i. record { view = st.view i; drained = st.drained i; halt = st.halt i } in
    let at : (k : ℕ) → k < 3 → get_or (set words place (f (get_or words place 0))) k 0 ≡ changed place f k (get_or words k 0) = λ k lt. read place k f words (rw (st.count) lt) in
    let halt = halts (get_or words 1 0) st.asked in
    rw is (
      record {
        count = length-set words place _ ∙ st.count;
        view = rw (at 0 (omega arith)) (sym (views _));
        halt = rw (at 1 (omega arith)) (sym halt.0);
        drained = rw (at 2 (omega arith)) (sym (drains _));
        asked = rw (at 1 (omega arith)) halt.1;
      },
      replies words,
    )

-- one bit more in the phase word: a started, an entered or a ready core, or a mode
module _ (n c : ℕ) where
  started_comes : c < 16 → view_in (bit_or n (2 ^ (0 + c))) ≡ record (view_in n) { started = record { members = set (flags_in 16 0 n) c true } }
  started_comes low i = record {
    started = record { members = here 16 0 n (0 + c) c refl low i };
    entered = record { members = away 16 16 n (0 + c) (λ j l e. omega arith) i };
    ready = record { members = away 16 32 n (0 + c) (λ j l e. omega arith) i };
    modes = record { members = away 8 48 n (0 + c) (λ j l e. omega arith) i };
  }

  entered_comes : c < 16 → view_in (bit_or n (2 ^ (16 + c))) ≡ record (view_in n) { entered = record { members = set (flags_in 16 16 n) c true } }
  entered_comes low i = record {
    started = record { members = away 16 0 n (16 + c) (λ j l e. omega arith) i };
    entered = record { members = here 16 16 n (16 + c) c refl low i };
    ready = record { members = away 16 32 n (16 + c) (λ j l e. omega arith) i };
    modes = record { members = away 8 48 n (16 + c) (λ j l e. omega arith) i };
  }

  ready_comes : c < 16 → view_in (bit_or n (2 ^ (32 + c))) ≡ record (view_in n) { ready = record { members = set (flags_in 16 32 n) c true } }
  ready_comes low i = record {
    started = record { members = away 16 0 n (32 + c) (λ j l e. omega arith) i };
    entered = record { members = away 16 16 n (32 + c) (λ j l e. omega arith) i };
    ready = record { members = here 16 32 n (32 + c) c refl low i };
    modes = record { members = away 8 48 n (32 + c) (λ j l e. omega arith) i };
  }

  mode_comes : c < 8 → view_in (bit_or n (2 ^ (48 + c))) ≡ record (view_in n) { modes = record { members = set (flags_in 8 48 n) c true } }
  mode_comes low i = record {
    started = record { members = away 16 0 n (48 + c) (λ j l e. omega arith) i };
    entered = record { members = away 16 16 n (48 + c) (λ j l e. omega arith) i };
    ready = record { members = away 16 32 n (48 + c) (λ j l e. omega arith) i };
    modes = record { members = here 8 48 n (48 + c) c refl low i };
  }

pub start_steps : (core k : CoreId) → k.number < 16 → IsStep one_board Stands answer core (Start k) 0 (λ n. bit_or n (2 ^ (0 + k.number)))
start_steps core k low = steps 0 core (Start k) _ (λ n. started_comes n k.number low) (λ n told. (refl, told)) (λ n. refl) (λ words. refl)

-- the words at first
pub begins : (master : CoreId) → master.number < 16 → Stands (first_board master) (2 ^ (0 + master.number) ∷ 0 ∷ 0 ∷ [])
begins master low = record {
  count = refl;
  view = sym (started_comes 0 master.number low) ∙ ap view_in (or_zero_l (2 ^ (0 + master.number)));
  halt = refl;
  drained = refl;
  asked = λ e. absurd (both_ways true e refl);
}

pub ready_steps : (core : CoreId) → core.number < 16 → IsStep one_board Stands answer core MakeReady 0 (λ n. bit_or n (2 ^ (32 + core.number)))
ready_steps core low = steps 0 core MakeReady _ (λ n. ready_comes n core.number low) (λ n told. (refl, told)) (λ n. refl) (λ words. refl)

pub drain_steps : (core : CoreId) → core.number < 16 → IsStep one_board Stands answer core Drain 2 (λ n. bit_or n (2 ^ (0 + core.number)))
drain_steps core low = steps 2 core Drain _ (λ n. refl) (λ n told. (refl, told)) (λ n i. record { members = here 16 0 n (0 + core.number) core.number refl low i }) (λ words. refl)

-- the mode of a core that enters, if it names a mode
names_mode : (n : ℕ) (mode : CoreMode) → IsMode mode → view_in (bit_or n (mode_bits mode)) ≡ record (view_in n) { modes = with_mode mode (view_in n).modes }
names_mode n (Named m) fits = mode_comes n m.index fits
names_mode n DontCare fits = ap view_in (or_zero_r n)

or-or : (n a b : ℕ) → bit_or n (bit_or a b) ≡ bit_or (bit_or n a) b
or-or n a b = same_from_bits _ _ (λ i. simp bit_at_or (omega arith))

pub enter_steps : (core : CoreId) (mode : CoreMode) → core.number < 16 → IsMode mode → IsStep one_board Stands answer core (Enter mode) 0 (λ n. bit_or n (bit_or (2 ^ (16 + core.number)) (mode_bits mode)))
enter_steps core mode low fits = let entered : ℕ = 2 ^ (16 + core.number) in steps 0 core (Enter mode) _
    (λ n. ap view_in (or-or n entered (mode_bits mode)) ∙ names_mode (bit_or n entered) mode fits ∙ ap (λ (v : BoardView). let w : BoardView = record v { modes = with_mode mode v.modes } in w) (entered_comes n core.number low))
    (λ n told. (refl, told))
    (λ n. refl)
    (λ words. refl)

-- who asks is read back from the halt word
halt_back : (core : CoreId) (status : Status) → core.number < 256 → halt_in (halt_word core status) ≡ Some (core, status)
halt_back core status low =
    let k : ℕ = core.number in let s : ℕ = status_number status in let small : s < 256 = status_low status in
    let first : (k * 256 + s + 1 - 1) / 256 ≡ k = omega arith in
    let second : (k * 256 + s + 1 - 1) % 256 ≡ s = omega arith in
    rw (ne_eqb (k * 256 + s + 1) 0 (λ h. omega arith), first, second, status_back status, lt-ltb k 256 low) refl

first_some : (halt : Option (CoreId × Status)) (asked : CoreId × Status) → is_some halt ≡ true → halt ≡ Some (first_asked halt asked)
first_some None asked e = absurd (both_ways false refl e)
first_some (Some before) asked e = refl

-- asking: 0 becomes the word of who asks
module _ (core : CoreId) (status : Status) (low : core.number < 256) where
  asks : (n : ℕ) (b : Bool) → (n == 0) ≡ b → NamesAsker n → let w : ℕ = either b (halt_word core status) n in (halt_in w ≡ Some (first_asked (halt_in n) (core, status))) × NamesAsker w
  asks n true e told = (halt_back core status low ∙ rw e refl, λ _. ap is_some (halt_back core status low))
  asks n false e told = (first_some (halt_in n) (core, status) (told e), told)

  pub ask_steps : IsStep one_board Stands answer core (AskHalt status) 1 (λ n. either (n == 0) (halt_word core status) n)
  ask_steps = steps 1 core (AskHalt status) _ (λ n. refl) (λ n told. asks n (n == 0) refl told) (λ n. refl) (λ words. refl)

-- a call of one caller that is answered as the board answers it
pub goes_on : (old new : BoardState) (e : Entry BoardCall BoardReply) → e.reply ≡ board_reply e.core e.call old → new ≡ board_after e.core e.call old → Continues one_board old e new
goes_on old new e reply after = continues one_board old new e reply (sym after)

pub asks_on : (old new : BoardState) (core : CoreId) (status : Status) (decided : CoreId × Status) → decided ≡ first_asked old.halt (core, status)
    → new ≡ board_after core (AskHalt status) old → Continues one_board old (ask_halt_call core status decided) new
asks_on old new core status decided answer after = goes_on old new (ask_halt_call core status decided) (ap Decided answer) after

-- a look does not change the board
pub looks_idle : AreIdle one_board IsLook
looks_idle board e is reply = ⊎_elim left_by (⊎_elim left_by left_by) is
  where
    left_by : {call : BoardCall} → e.call ≡ call → board_after e.core e.call board ≡ board_after e.core call board
    left_by h = ap (λ (call : BoardCall). board_after e.core call board) h
