use Rattle.std.proofs.Common.{◌≡◌, List, map, sym, ap, subst, ◌∙◌, arith}
use Rattle.osshared.specs.Seats.{AllApart, AllAt, Held, cores_of, fresh}
use Rattle.osshared.specs.Runs.{AreLogged, IsOneRun}
use Rattle.osshared.proofs.Runs.{all_logged, all_new, kept, one_run}
use Rattle.osspin.specs.Spins.{IsRefusedCall, spinlocks}
use Rattle.osspin.proofs.Locks.{refused_idle}
use Rattle.ostests_shared.proofs.tests.spinlocks.run_all.Goals as goal

pub share-requires-after_bounds : goal.share-requires-after_bounds
share-requires-after_bounds g c κs within = all_new c.in_ok-bank.bank c.in_ok-bank.seats.items c.args.cores c.in_ok-bank.ensures.seats

pub gather-requires-clause-places : goal.gather-requires-clause-places
gather-requires-clause-places g c =
    let seats = c.in_ok-bank.seats in
    let runs = c.in_ok-runs.runs in
    subst (λ (l : List (Held _ _ _)). AllAt c.in_ok-bank.bank l) (sym c.in_ok-seats.ensures.seats)
    (kept (λ run. run.seat) c.in_ok-bank.bank c.args.cores seats.items runs.items c.in_ok-bank.ensures.seats (sym runs.ok.0 ∙ (c.in_ok-runs.ensures.len ∙ seats.ok.0))
    (λ i d e lt. let h = c.in_ok-runs.ensures.each i d e (omega (arith, seats.ok.0)) in (h.place, h.core))).0

pub gather-requires-clause-cores : goal.gather-requires-clause-cores
gather-requires-clause-cores g c =
    let seats = c.in_ok-bank.seats in
    let runs = c.in_ok-runs.runs in
    ap cores_of c.in_ok-seats.ensures.seats
    ∙ ((kept (λ run. run.seat) c.in_ok-bank.bank c.args.cores seats.items runs.items c.in_ok-bank.ensures.seats (sym runs.ok.0 ∙ (c.in_ok-runs.ensures.len ∙ seats.ok.0))
    (λ i d e lt. let h = c.in_ok-runs.ensures.each i d e (omega (arith, seats.ok.0)) in (h.place, h.core))).1
    ∙ sym c.in_ok-bank.ensures.cores)

pub returns : goal.returns
returns g c =
    let seats = c.in_ok-bank.seats in
    let runs = c.in_ok-runs.runs in
    let parted = c.in_ok-seats in
    let cores : cores_of parted.seats.items ≡ c.args.cores = ap cores_of parted.ensures.seats
    ∙ (kept (λ run. run.seat) c.in_ok-bank.bank c.args.cores seats.items runs.items c.in_ok-bank.ensures.seats (sym runs.ok.0 ∙ (c.in_ok-runs.ensures.len ∙ seats.ok.0))
    (λ i d e lt. let h = c.in_ok-runs.ensures.each i d e (omega (arith, seats.ok.0)) in (h.place, h.core))).1 in
    let each = all_logged IsRefusedCall (λ run. run.seat) (λ run. run.log) (λ log. log.items) runs.items
    (λ i d lt. (c.in_ok-runs.ensures.each i d (fresh c.in_ok-bank.bank d.seat.core) (omega (arith, seats.ok.0, runs.ok.0, c.in_ok-runs.ensures.len))).logged) in
    let logged : AreLogged IsRefusedCall parted.seats.items (map (λ log. log.items) parted.logs.items) =
    subst (λ (l : List (Held _ _ _)). AreLogged IsRefusedCall l (map (λ log. log.items) parted.logs.items)) (sym parted.ensures.seats)
    (subst (λ l. AreLogged IsRefusedCall (map (λ run. run.seat) runs.items) (map (λ log. log.items) l)) (sym parted.ensures.logs) each) in
    subst (λ cs. IsOneRun spinlocks (record { cores = cs; about = tt }) (map (λ log. log.items) parted.logs.items)) c.in_ok-bank.ensures.cores
    (one_run IsRefusedCall spinlocks _ parted.seats.items _ (subst AllApart (sym c.in_ok-bank.ensures.cores) c.requires) (cores ∙ sym c.in_ok-bank.ensures.cores) refused_idle logged c.gather.ensures)
