-- For each kind of mail, a thread gives back an ending of its core's worker.
use Rattle.std.proofs.Common.{◌≡◌}
use Rattle.osbase.specs.declared.references.CoreId.{CoreId}
use Rattle.osmail.specs.Ends.{Streams}
use Rattle.osworker.specs.{declared.run.Run.Run, declared.worker.Worked.Worked, Seats.AreAt, Seats.shared, Working.IsWorked}
use Rattle.osthreads.specs.{declared.ending.Ending.Ending, declared.ending.Kept.Kept, Threads.IsEnded, Threads.sent_of, Threads.taken_of}
use Rattle.osworker.proofs.{Shifting.worked-finished, Working.spins-thin, Working.thin}

-- What a core's worker gave back. `kept` is what its end of the mail left behind, which says what was sent and taken.
abbrev pub ending : {M : Type 0} → Worked M → Kept → Ending
ending w kept = record { report = w.report; seats = w.seats; kept = kept; stop = w.stop }

pub ended-by : {M : Type 0} (sent taken : M → Streams) (run : Run) (id : CoreId) (w : Worked M) (kept : Kept) → IsWorked sent taken run w → w.report.core ≡ id → AreAt (shared run.board.now run.bank.now) id w.seats → sent w.mail ≡ sent_of kept → taken w.mail ≡ taken_of kept → IsEnded run.config.now run.stimuli.now run.turns (shared run.board.now run.bank.now) id (ending w kept)
ended-by sent taken run id w kept worked core at same_sent same_taken = record {
  core = core;
  placed = at;
  log = worked.calls.log;
  is_run = record {
    alone = record { own = worked.own; fits = worked.fits };
    answers = worked.calls.answers;
  };
  board = thin _ _ _ _ worked.calls;
  spins = spins-thin _ _ _ _ worked.calls;
  mail = rw (← same_sent, ← same_taken) worked.mail;
  finished = worked-finished sent taken run w worked;
}
