use Rattle.std.proofs.{Common.None, Common.false, Common.rules, lemmas.List.take_all}
use Rattle.ostable.specs.{declared.tables.DueTable.DueTable, Waiting.are_own}
use Rattle.osservice.proofs.InTurn.{next-at, none-acted, one-acted, places-left, room-left, still-passes}
use Rattle.osexpiry.proofs.advancing.process_tables.Goals as goal

-- the due table that is read past the last one
abbrev blank : DueTable
blank = record { table = record { core = record { number = 0 }; index = 0 }; due = record { point = None; ends = false }; next = None }

pub loop-table-init : goal.loop-table-init
loop-table-init g c = none-acted

pub process_table-requires : goal.process_table-requires
process_table-requires g c =
    let next = next-at c.args.due.now c.loop-table.table-index blank c.loop-table-test.true in
    let own = still-passes next c.loop-table.invariant are_own c.requires.own in
    search (rules, own, places-left next c.loop-table.invariant c.requires.posts.outbox, room-left next c.loop-table.invariant c.requires.posts.room)

pub loop-table-preserved : goal.loop-table-preserved
loop-table-preserved g c = one-acted (next-at c.args.due.now c.loop-table.table-index blank c.loop-table-test.true) c.loop-table.invariant c.process_table.ensures.steps c.process_table.ensures.outbox

pub returns : goal.returns
returns g c =
    let done = rw (take_all c.loop-table.table-index c.args.due.now c.loop-table-test.false) at c.loop-table.invariant in
    record { steps = done.steps; outbox = done.outbox }
