use Rattle.std.proofs.Common.{map, refl, ap, ◌∙◌, arith}
use Rattle.osmail.specs.Rings.{end_id}
use Rattle.osworker.specs.Seats.{shared}
use Rattle.osthreads.proofs.{Gathering.seats-finished, Threaded.each-alone}
use Rattle.osthreads.proofs.Outfits.{all-back, all-gathered, all-ready, fault-sound, whole-sound}
use Rattle.osthreads.proofs.runs.run_threads.Goals as goal

pub run_all-joined-requires-clause-outfits : goal.run_all-joined-requires-clause-outfits
run_all-joined-requires-clause-outfits g c κs within = record {
  ready = all-ready c.args.config.now _ (shared c.in-Ok.prepared.board c.in-Ok.prepared.bank) (c.as_slice-2.ensures.value ∙ c.in-Ok.ensures.cores) c.args.kind c.in-Ok.prepared.mail.rings c.in-Ok.prepared.outfits.items c.in-Ok.ensures.outfits;
  empty = c.in-Ok.ensures.room.endings.0;
  room = c.in-Ok.ensures.room.endings.1;
}

pub gather-requires-clause-places : goal.gather-requires-clause-places
gather-requires-clause-places g c =
    rw c.part-at_board.ensures.board (all-gathered c.args.config.now _ _ _ _ _ _ _ c.in-Ok.ensures.outfits c.run_all-joined.ensures.ended).board_places

pub gather-requires-clause-cores : goal.gather-requires-clause-cores
gather-requires-clause-cores g c =
    rw (c.part-at_board.ensures.board, c.in-Ok.ensures.board) (all-gathered c.args.config.now _ _ _ _ _ _ _ c.in-Ok.ensures.outfits c.run_all-joined.ensures.ended).board_cores

pub gather-requires-2-clause-places : goal.gather-requires-2-clause-places
gather-requires-2-clause-places g c =
    rw c.part-at_board.ensures.spins (all-gathered c.args.config.now _ _ _ _ _ _ _ c.in-Ok.ensures.outfits c.run_all-joined.ensures.ended).spins_places

pub gather-requires-2-clause-cores : goal.gather-requires-2-clause-cores
gather-requires-2-clause-cores g c =
    rw (c.part-at_board.ensures.spins, c.in-Ok.ensures.bank) (all-gathered c.args.config.now _ _ _ _ _ _ _ c.in-Ok.ensures.outfits c.run_all-joined.ensures.ended).spins_cores

pub gather-requires-3 : goal.gather-requires-3
gather-requires-3 g c = (
  omega arith,
  ap (map end_id) c.part-at_board.ensures.ends ∙ all-back c.args.config.now _ _ _ _ _ _ _ c.in-Ok.ensures.outfits c.run_all-joined.ensures.ended c.run_all-joined.ensures.ends,
)

pub returns-in-None-clause-sound : goal.returns-in-None-clause-sound
returns-in-None-clause-sound g c =
    rw c.part-at_board.ensures.reports
    (whole-sound c.args.config.now _ _ _ _ _ _ _ c.in-Ok.ensures.outfits (rw c.as_slice.ensures at c.run_all-joined.ensures.ended) c.run_all-joined.ensures.ends
    (record { board = rw (c.in-Ok.ensures.board, c.part-at_board.ensures.board) at c.gather.ensures; spins = rw (c.in-Ok.ensures.bank, c.part-at_board.ensures.spins) at c.gather-2.ensures })
    c.in-Ok.ensures.limits c.requires (c.if-not-is_whole.ensures.kept refl) (rw c.part-at_board.ensures.ends at c.gather-3.ensures) (c.if-not-is_whole.ensures.settled refl))

pub returns-in-None-clause-finished : goal.returns-in-None-clause-finished
returns-in-None-clause-finished g c =
    rw c.part-at_board.ensures.reports
    (seats-finished c.args.config.now _ _ _ _ (all-gathered c.args.config.now _ _ _ _ _ _ _ c.in-Ok.ensures.outfits (rw c.as_slice.ensures at c.run_all-joined.ensures.ended))
    (record { board = rw (c.in-Ok.ensures.board, c.part-at_board.ensures.board) at c.gather.ensures; spins = rw (c.in-Ok.ensures.bank, c.part-at_board.ensures.spins) at c.gather-2.ensures })
    (c.in-None.ensures.none (c.if-not-is_whole.ensures.kept refl)))

pub returns-then-not-is_whole-clause-fault : goal.returns-then-not-is_whole-clause-fault
returns-then-not-is_whole-clause-fault g c =
    let all = all-gathered c.args.config.now _ _ _ _ _ _ _ c.in-Ok.ensures.outfits (rw c.as_slice.ensures at c.run_all-joined.ensures.ended) in
    rw c.part-at_board.ensures.reports (all.cores, each-alone c.args.config.now _ _ _ all.runs)

pub returns-clause-fault : goal.returns-clause-fault
returns-clause-fault g c =
    fault-sound c.args.config.now c.args.stimuli.now c.in-Some.reason c.part-at_board.result.reports.items c.in-Some.ensures.some
    (rw c.part-at_board.ensures.reports
    (whole-sound c.args.config.now _ _ _ _ _ _ _ c.in-Ok.ensures.outfits (rw c.as_slice.ensures at c.run_all-joined.ensures.ended) c.run_all-joined.ensures.ends
    (record { board = rw (c.in-Ok.ensures.board, c.part-at_board.ensures.board) at c.gather.ensures; spins = rw (c.in-Ok.ensures.bank, c.part-at_board.ensures.spins) at c.gather-2.ensures })
    c.in-Ok.ensures.limits c.requires (c.if-not-is_whole.ensures.kept refl) (rw c.part-at_board.ensures.ends at c.gather-3.ensures) (c.if-not-is_whole.ensures.settled refl)))
