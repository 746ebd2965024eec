use Rattle.std.proofs.{Common.arith, lemmas.Bool.leb-true}
use Rattle.osservice_tables.proofs.Schedules.{counter-most}
use Rattle.osservice_tables.proofs.tables.admits_offset.Goals as goal

pub returns-then-offset-ge1-clause-within : goal.returns-then-offset-ge1-clause-within
returns-then-offset-ge1-clause-within g c admitted =
    let most = counter-most c.args.state.now.view.own c.args.table c.in-Some.own.now c.in-Some-counter.counter.now c.table.ensures.within c.in-Some.ensures.value c.in-Some-counter.ensures.value in
    omega (arith, most, c.saturating_sub.ensures, leb-true c.args.offset c.saturating_sub.result admitted)
