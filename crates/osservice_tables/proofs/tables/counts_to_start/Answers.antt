use Rattle.std.proofs.Common.{sym, arith}
use Rattle.osplan.proofs.Timing.{own-table-attached}
use Rattle.osservice_tables.proofs.Schedules.{max-most}
use Rattle.osservice_tables.proofs.tables.counts_to_start.Goals as goal

pub returns-clause-value : goal.returns-clause-value
returns-clause-value g c =
    let is = sym c.in-Some.ensures.value in
    let own = own-table-attached c.args.state.now.view.own c.args.table c.in-Some.own.now c.table.ensures.within is in
    rw (is, own) c.counts_to_value.ensures.value

pub returns-clause-turn : goal.returns-clause-turn
returns-clause-turn g c =
    let most = max-most c.args.state.now.view.own c.args.table c.in-Some.own.now c.table.ensures.within c.in-Some.ensures.value in
    omega (arith, most, c.counts_to_value.ensures.within)
