-- What the workers of all cores gave back, gathered: their reports are sound.
use Rattle.std.proofs.lemmas.Bool.{and_parts, or_parts}
use Rattle.std.proofs.Common.{◌≡◌, ℕ, true, false, None, IsTrue, List, [], ◌∷◌, ◌++◌, map, refl, sym, ap, subst, ◌∙◌, append_assoc, append-nil}
use Rattle.std.specs.List.{AllByRecursion, list_all, list_any}
use Rattle.osbase.specs.{declared.references.CoreId.CoreId, declared.turns.Report.Report, History.posted, History.received, declared.turns.CoreStimuli.CoreStimuli}
use Rattle.osplan.specs.{Limits.is_within_limits, Stimuli.AreKnown, declared.plans.Plan.Plan}
use Rattle.osshared.specs.{Runs.AreLogged}
use Rattle.osshared.specs.Seats.{AllAt, AllStand, Held, IsOneHistory, cores_of, fresh}
use Rattle.osshared.proofs.Runs.{one_run}
use Rattle.osboard.specs.{declared.calls.BoardCall.BoardCall, declared.calls.BoardReply.BoardReply, Boards.IsLook, Boards.one_board}
use Rattle.osboard.proofs.Boards.{looks_idle}
use Rattle.osspin.specs.{declared.calls.SpinCall.SpinCall, declared.calls.SpinReply.SpinReply, Spins.IsRefusedCall, Spins.spinlocks}
use Rattle.osspin.proofs.Locks.{refused_idle}
use Rattle.osrun.specs.{Requests.Calls, Requests.calls_of, Requests.no_calls, Fits.history_by, Fits.ids_of, Sound.AreSound}
use Rattle.osworker.specs.{declared.seats.Seats.Seats, declared.turns.Stop.Stop}
use Rattle.osthreads.specs.declared.ending.Ending.{Ending}
use Rattle.osthreads.specs.Runs.{AreFinished, AreRuns, IsDelivered, new_board, new_spins}
use Rattle.osworker.specs.Seats.{Shared, first_seats, made_from, paired}
use Rattle.osthreads.specs.Threads.{AreAllFinished, AreAllKept, AreEnded, AreSettled, IsEnded, IsSettled, sent_of, taken_of}
use Rattle.osworker.specs.Working.{IsFinished, is_finished_by, is_kept_by, refusal_at, was_stopped_by}
use Rattle.osthreads.proofs.Threaded.{both, runs-sound}
use Rattle.osworker.proofs.Listed.{ids-apart, nobody-listed}

abbrev BoardSeat : Type 0
BoardSeat = Held CoreId BoardCall BoardReply

abbrev SpinSeat : Type 0
SpinSeat = Held Unit SpinCall SpinReply

abbrev pub reports_of : List Ending → List Report
reports_of es = map (λ (e : Ending). e.report) es

abbrev boards_of : List Ending → List BoardSeat
boards_of es = map (λ (e : Ending). e.seats.board) es

abbrev spins_of : List Ending → List SpinSeat
spins_of es = map (λ (e : Ending). e.seats.spins) es

-- ---- endings

no-refusal : (stop : Stop) → is_kept_by stop ≡ true → refusal_at stop ≡ None
no-refusal (Stop.Refused from e) kept = cc
no-refusal stop kept = refl

-- Each letter that was taken became an item.
pub all_kept : (es : List Ending) → list_all (λ (e : Ending). is_kept_by e.stop) es ≡ true → AreAllKept es
all_kept [] kept = tt
all_kept (e ∷ es) kept = let rest = and_parts (is_kept_by e.stop) _ kept in (rest.0, all_kept es rest.1)

-- If neither a failed allocation, a request nor a letter stopped a worker, its core has ended or the worker stalled.
pub all_finished : (es : List Ending) → list_any (λ (e : Ending). was_stopped_by e.stop) es ≡ false → AreAllKept es → AreAllFinished es
all_finished [] none kept = tt
all_finished (e ∷ es) none kept = let others = or_parts (was_stopped_by e.stop) _ none in (by e.stop others.0 kept.0, all_finished es others.1 kept.1)
  where
    by : (stop : Stop) → was_stopped_by stop ≡ false → is_kept_by stop ≡ true → is_finished_by stop ≡ true
    by Stop.Ended none kept = refl
    by Stop.Stalled none kept = refl
    by stop none kept = cc

-- What a worker sent and took is what its report's items posted and received.
pub record Flows (plan : Plan) (e : Ending) : Type 0 where
  sent : (to : CoreId) → sent_of e.kept to ≡ posted to (history_by plan e.report.core e.report.items)
  taken : (from : CoreId) → taken_of e.kept from ≡ received from (history_by plan e.report.core e.report.items)

-- What the workers of these cores gave back, list by list: the cores, the places and the logs of their seats, what they
-- sent and took, and how each worker finished, by one history of the board and one of the spinlocks.
pub record AreGathered (plan : Plan) (stimuli : List CoreStimuli) (turns : ℕ) (shared : Shared) (ids : List CoreId) (es : List Ending) : Type 0 where
  pub cores : map (λ (r : Report). r.core) (reports_of es) ≡ ids
  pub board_cores : cores_of (boards_of es) ≡ ids
  pub spins_cores : cores_of (spins_of es) ≡ ids
  pub board_places : AllAt shared.board (boards_of es)
  pub spins_places : AllAt shared.spins (spins_of es)
  pub logs : List Calls
  pub runs : AreRuns plan stimuli (reports_of es) logs
  pub board_logs : AreLogged IsLook (boards_of es) (map (λ (log : Calls). log.board) logs)
  pub spins_logs : AreLogged IsRefusedCall (spins_of es) (map (λ (log : Calls). log.spins) logs)
  pub flows : AreAllKept es → AllByRecursion (Flows plan) es
  pub finished : (history : Calls) → AllStand history.board (boards_of es) → AllStand history.spins (spins_of es) → AreAllFinished es
      → AllByRecursion (λ (r : Report). IsFinished plan stimuli turns r (calls_of r.core history)) (reports_of es)

module _ (plan : Plan) (stimuli : List CoreStimuli) (turns : ℕ) (shared : Shared) where
  -- one more core, and its ending
  pub ended-push : (ids : List CoreId) (es : List Ending) (id : CoreId) (e : Ending) → AreEnded plan stimuli turns shared ids es → IsEnded plan stimuli turns shared id e → AreEnded plan stimuli turns shared (ids ++ id ∷ []) (es ++ e ∷ [])
  ended-push [] [] id e ended one = (one, tt)
  ended-push (i ∷ is) (x ∷ es) id e ended one = (ended.0, ended-push is es id e ended.1 one)
  ended-push ids es id e ended one = absurd ended

  pub gathered : (ids : List CoreId) (es : List Ending) → AreEnded plan stimuli turns shared ids es → AreGathered plan stimuli turns shared ids es
  gathered [] [] ended = record {
    cores = refl;
    board_cores = refl;
    spins_cores = refl;
    board_places = tt;
    spins_places = tt;
    logs = [];
    runs = tt;
    board_logs = tt;
    spins_logs = tt;
    flows = λ kept. tt;
    finished = λ history board spins finished. tt;
  }
  gathered (i ∷ is) (e ∷ es) ended =
      let one = ended.0 in
      let rest = gathered is es ended.1 in
      record {
        cores = λ k. one.core k ∷ rest.cores k;
        board_cores = λ k. one.placed.board_core k ∷ rest.board_cores k;
        spins_cores = λ k. one.placed.spins_core k ∷ rest.spins_cores k;
        board_places = (one.placed.board, rest.board_places);
        spins_places = (one.placed.spins, rest.spins_places);
        logs = one.log ∷ rest.logs;
        runs = (one.is_run, rest.runs);
        board_logs = (one.board, rest.board_logs);
        spins_logs = (one.spins, rest.spins_logs);
        flows = λ kept. (
          record { sent = one.mail.sent_is; taken = λ from. one.mail.taken_is from ∙ rw (no-refusal e.stop kept.0) (append-nil _) },
          rest.flows kept.1,
        );
        finished = λ history board spins finished. (
          subst (IsFinished plan stimuli turns e.report)
              (sym (both (calls_of e.report.core history) (made_from e.seats) (rw (one.core, ← one.placed.board_core) board.0.1) (rw (one.core, ← one.placed.spins_core) spins.0.1)))
              (one.finished finished.0),
          rest.finished history board.1 spins.1 finished.1,
        );
      }
  gathered ids es ended = absurd ended

  delivered : (a b : Ending) → Flows plan a → Flows plan b → IsSettled a b → IsDelivered plan a.report b.report
  delivered a b from to settled = rw (from.sent b.report.core, to.taken a.report.core) at settled

  delivered-each : (a : Ending) → Flows plan a → (bs : List Ending) → AllByRecursion (Flows plan) bs → AllByRecursion (IsSettled a) bs → AllByRecursion (IsDelivered plan a.report) (reports_of bs)
  delivered-each a from [] flow settled = tt
  delivered-each a from (b ∷ bs) flow settled = (delivered a b from flow.0 settled.0, delivered-each a from bs flow.1 settled.1)

  delivered-all : (es : List Ending) → AllByRecursion (Flows plan) es → (rs : List Ending) → AllByRecursion (Flows plan) rs → AllByRecursion (λ (a : Ending). AllByRecursion (IsSettled a) es) rs
      → AllByRecursion (λ a. AllByRecursion (IsDelivered plan a) (reports_of es)) (reports_of rs)
  delivered-all es flow [] from settled = tt
  delivered-all es flow (a ∷ rs) from settled = (delivered-each a from.0 es flow settled.0, delivered-all es flow rs from.1 settled.1)

  -- All seats show one history of the board of the configuration, and one of its spinlocks.
  pub record AreOneEach (es : List Ending) : Type 0 where
    pub board : IsOneHistory one_board (new_board plan) (boards_of es)
    pub spins : IsOneHistory spinlocks (new_spins plan) (spins_of es)

  module _ (es : List Ending) (all : AreGathered plan stimuli turns shared (ids_of plan) es) (one : AreOneEach es) where
    -- If what was sent is what was taken and then what is left, and each letter became an item, the reports are sound.
    pub seats-sound : IsTrue (is_within_limits plan) → AreKnown plan stimuli → AreAllKept es → AreSettled es → AreSound plan stimuli (reports_of es)
    seats-sound limits known kept settled =
        runs-sound plan stimuli limits known (reports_of es) all.logs all.cores all.runs (delivered-all es (all.flows kept) es (all.flows kept) settled)
        (one_run IsLook one_board (new_board plan) (boards_of es) (map (λ (log : Calls). log.board) all.logs) (ids-apart plan) all.board_cores looks_idle all.board_logs one.board)
        (one_run IsRefusedCall spinlocks (new_spins plan) (spins_of es) (map (λ (log : Calls). log.spins) all.logs) (ids-apart plan) all.spins_cores refused_idle all.spins_logs one.spins)

    -- If all workers have ended or stalled, one history of the board and one of the spinlocks show this.
    pub seats-finished : AreAllFinished es → AreFinished plan stimuli turns (reports_of es)
    seats-finished finished =
        let history : Calls = record { board = one.board.log; spins = one.spins.log } in
        record {
          history = history;
          board = one.board.legal;
          spins = one.spins.legal;
          finished = all.finished history one.board.stand one.spins.stand finished;
          others = λ id out. both (calls_of id history) no_calls (one.board.others id (nobody-listed plan id out)) (one.spins.others id (nobody-listed plan id out));
        }

-- ---- seats

-- One more pair of seats.
pub paired-more : (done more : List BoardSeat) (b : BoardSeat) (spins left : List SpinSeat) (s : SpinSeat) (seats : List Seats) → paired (done ++ b ∷ more) spins ≡ seats ++ paired (b ∷ more) (s ∷ left) → paired ((done ++ b ∷ []) ++ more) spins ≡ (seats ++ record { board = b; spins = s } ∷ []) ++ paired more left
paired-more done more b spins left s seats before = ap (λ (bs : List BoardSeat). paired bs spins) (append_assoc done (b ∷ []) more) ∙ before ∙ sym (append_assoc seats (record { board = b; spins = s } ∷ []) (paired more left))

-- One seat more at the board, if no seat at the spinlocks is left.
pub paired-none : (done : List BoardSeat) (b : BoardSeat) (spins left : List SpinSeat) (seats : List Seats) → left ≡ [] → ((more : List BoardSeat) → paired (done ++ more) spins ≡ seats ++ paired more left) → (more : List BoardSeat) → paired ((done ++ b ∷ []) ++ more) spins ≡ seats ++ paired more left
paired-none done b spins left seats is so more = rw (append_assoc done (b ∷ []) more, so (b ∷ more), is) (by more)
  where
    by : (bs : List BoardSeat) → seats ++ [] ≡ seats ++ paired bs []
    by [] = refl
    by (b ∷ bs) = refl

-- The seats of a new board and of new spinlocks, one of each for each core.
pub new-paired : (shared : Shared) (cs : List CoreId) → paired (map (λ c. fresh shared.board c) cs) (map (λ c. fresh shared.spins c) cs) ≡ map (first_seats shared) cs
new-paired shared [] = refl
new-paired shared (c ∷ cs) = ap (λ (ss : List Seats). first_seats shared c ∷ ss) (new-paired shared cs)
