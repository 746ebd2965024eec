use Rattle.std.proofs.Common.{ap, ◌∙◌}
use Rattle.osplan.specs.declared.plans.Plan.{Plan}
use Rattle.osplan.proofs.Numbered.{master-low}
use Rattle.osrun.specs.Fits.{ids_of}
use Rattle.osworker.specs.Seats.{shared}
use Rattle.osthreads.proofs.Gathering.{new-paired}
use Rattle.osworker.proofs.Listed.{ids-apart}
use Rattle.osthreads.proofs.runs.seat.Goals as goal

pub new-requires-clause-cores : goal.new-requires-clause-cores
new-requires-clause-cores c = rw (c.from_vec.ensures, c.in_ok-ids_of.ensures) (ids-apart c.plan-plan.result.now)

pub new-requires-clause-master : goal.new-requires-clause-master
new-requires-clause-master c =
    master-low c.plan-plan.result.now (rw c.plan-plan.ensures.value c.plan-plan.ensures.limits)

pub new-requires-2 : goal.new-requires-2
new-requires-2 c = rw (c.from_vec-2.ensures, c.in_ok-ids_of-2.ensures) (ids-apart c.plan-plan.result.now)

pub returns : goal.returns
returns c =
    let ids = c.from_vec.ensures ∙ c.in_ok-ids_of.ensures ∙ ap ids_of c.plan-plan.ensures.value in
    let ids_again = c.from_vec-2.ensures ∙ c.in_ok-ids_of-2.ensures ∙ ap ids_of c.plan-plan.ensures.value in
    let master = c.in_ok-board.ensures.master ∙ ap (λ (p : Plan). p.master) c.plan-plan.ensures.value in
    record {
      board = (λ i. record { cores = (c.in_ok-board.ensures.cores ∙ ids) i; about = master i });
      bank = (λ i. record { cores = (c.in_ok-bank.ensures.cores ∙ ids_again) i; about = tt });
      seats = rw (c.in_ok-seats.ensures, c.in_ok-board.ensures.seats, c.in_ok-bank.ensures.seats, ids, ids_again, new-paired (shared c.in_ok-board.board c.in_ok-bank.bank) (ids_of c.args.config.now));
    }
