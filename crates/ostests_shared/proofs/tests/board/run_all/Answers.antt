use Rattle.std.proofs.Common.{◌≡◌, List, map, sym, ap, subst, ◌∙◌, arith}
use Rattle.osshared.specs.Seats.{AllApart, AllAt, Held, cores_of, fresh}
use Rattle.osshared.specs.Runs.{AreLogged, IsOneRun}
use Rattle.osshared.proofs.Runs.{all_logged, all_new, kept, one_run}
use Rattle.osboard.specs.Boards.{IsLook, one_board}
use Rattle.osboard.proofs.Boards.{looks_idle}
use Rattle.ostests_shared.proofs.tests.board.run_all.Goals as goal

pub share-requires-after_bounds : goal.share-requires-after_bounds
share-requires-after_bounds g c κs within = all_new c.in_ok-board.board c.in_ok-board.seats.items c.args.cores c.in_ok-board.ensures.seats

pub gather-requires-clause-places : goal.gather-requires-clause-places
gather-requires-clause-places g c =
    let seats = c.in_ok-board.seats in
    let runs = c.in_ok-runs.runs in
    subst (λ (l : List (Held _ _ _)). AllAt c.in_ok-board.board l) (sym c.in_ok-seats.ensures.seats)
    (kept (λ run. run.seat) c.in_ok-board.board c.args.cores seats.items runs.items c.in_ok-board.ensures.seats (sym runs.ok.0 ∙ (c.in_ok-runs.ensures.len ∙ seats.ok.0))
    (λ i d e lt. let h = c.in_ok-runs.ensures.each i d e (omega (arith, seats.ok.0)) in (h.place, h.core))).0

pub gather-requires-clause-cores : goal.gather-requires-clause-cores
gather-requires-clause-cores g c =
    let seats = c.in_ok-board.seats in
    let runs = c.in_ok-runs.runs in
    ap cores_of c.in_ok-seats.ensures.seats
    ∙ ((kept (λ run. run.seat) c.in_ok-board.board c.args.cores seats.items runs.items c.in_ok-board.ensures.seats (sym runs.ok.0 ∙ (c.in_ok-runs.ensures.len ∙ seats.ok.0))
    (λ i d e lt. let h = c.in_ok-runs.ensures.each i d e (omega (arith, seats.ok.0)) in (h.place, h.core))).1
    ∙ sym c.in_ok-board.ensures.cores)

pub returns : goal.returns
returns g c =
    let seats = c.in_ok-board.seats in
    let runs = c.in_ok-runs.runs in
    let parted = c.in_ok-seats in
    let cores : cores_of parted.seats.items ≡ c.args.cores = ap cores_of parted.ensures.seats
    ∙ (kept (λ run. run.seat) c.in_ok-board.board c.args.cores seats.items runs.items c.in_ok-board.ensures.seats (sym runs.ok.0 ∙ (c.in_ok-runs.ensures.len ∙ seats.ok.0))
    (λ i d e lt. let h = c.in_ok-runs.ensures.each i d e (omega (arith, seats.ok.0)) in (h.place, h.core))).1 in
    let each = all_logged IsLook (λ run. run.seat) (λ run. run.work) (λ work. work.log.items) runs.items
    (λ i d lt. (c.in_ok-runs.ensures.each i d (fresh c.in_ok-board.board d.seat.core) (omega (arith, seats.ok.0, runs.ok.0, c.in_ok-runs.ensures.len))).logged) in
    let logged : AreLogged IsLook parted.seats.items (map (λ work. work.log.items) parted.works.items) =
    subst (λ (l : List (Held _ _ _)). AreLogged IsLook l (map (λ work. work.log.items) parted.works.items)) (sym parted.ensures.seats)
    (subst (λ l. AreLogged IsLook (map (λ run. run.seat) runs.items) (map (λ work. work.log.items) l)) (sym parted.ensures.works) each) in
    subst (λ about. IsOneRun one_board (record { cores = c.args.cores; about = about }) (map (λ work. work.log.items) parted.works.items)) c.in_ok-board.ensures.master
    (subst (λ cs. IsOneRun one_board (record { cores = cs; about = c.in_ok-board.board.plan.about }) (map (λ work. work.log.items) parted.works.items)) c.in_ok-board.ensures.cores
    (one_run IsLook one_board _ parted.seats.items _ (subst AllApart (sym c.in_ok-board.ensures.cores) c.requires.cores) (cores ∙ sym c.in_ok-board.ensures.cores) looks_idle logged c.gather.ensures))
