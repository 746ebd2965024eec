use Rattle.std.proofs.Common.{◌≡◌, arith, ap, ◌∙◌}
use Rattle.osrun.specs.Fits.{ids_of}
use Rattle.osworker.specs.declared.seats.Seats.{Seats}
use Rattle.ostests_threads.proofs.tests.refused.work.Goals as goal

pub core_worker-requires-clause-cores : goal.core_worker-requires-clause-cores
core_worker-requires-clause-cores g c = c.as_slice.ensures.value ∙ c.in-Ok-ids_of.ensures ∙ ap ids_of c.plan-2.ensures.value

pub core_worker-requires-clause-configured : goal.core_worker-requires-clause-configured
core_worker-requires-clause-configured g c =
    let core : c.seats_of-seats.result.board.core ≡ record { number = 0 } = ap (λ (s : Seats). s.board.core) c.seats_of-seats.ensures in
    grind (arith, core, c.core.ensures, c.plan.ensures.value, c.is_none.ensures, c.if-is_none.false)
