use Rattle.std.proofs.Common.{◌<◌, length, ap, ◌∙◌, arith}
use Rattle.osbase.specs.declared.references.CoreId.{CoreId}
use Rattle.osshared.specs.Seats.{Place}
use Rattle.osshared.proofs.Moves.{opens, deals, dealt_next, one_more}
use Rattle.osshared.proofs.words.SharedWords.new.Goals as goal

pub of_words-requires : goal.of_words-requires
of_words-requires g c = opens g.O.SharedObject.object g.O.SharedObject.stands c.args.plan.now c.args.words.now c.requires.stands

pub split_seat-seat-requires : goal.split_seat-seat-requires
split_seat-seat-requires g c =
    let e = c.in_ok-table.ensures in
    let plan = c.in_ok-table.table.shared.key in
    let i = c.loop-core.core-index in
    let lt : i < length c.args.plan.now.cores = rw (c.as_slice-cores.ensures) at c.loop-core-test.true in (
      c.loop-core.invariant.0,
      omega (arith, e.0, c.requires.words),
      deals g.O.SharedObject.object g.O.SharedObject.stands plan c.loop-core.dealer.id c.loop-core.dealer.me.0 i (record { number = 0 }) (rw (e.5) lt) (rw (e.5) c.requires.cores) (rw (e.5) c.loop-core.invariant.1),
    )

pub loop-core-preserved : goal.loop-core-preserved
loop-core-preserved g c =
    let e = c.split_seat-seat.ensures in
    let plan = c.args.plan.now in
    let i = c.loop-core.core-index in
    let none : CoreId = record { number = 0 } in
    let me = c.loop-core.dealer.me.0 in
    let inv = c.loop-core.invariant in
    let lt : i < length plan.cores = rw (c.as_slice-cores.ensures) at c.loop-core-test.true in
    let place : Place _ = record { table = c.in_ok-table.table.shared.table_id; plan = plan } in (
      e.0 ∙ inv.0,
      ap (λ m. m.0) e.2 ∙ dealt_next place plan.cores me i none inv.1 lt,
      rw (c.in_ok-push.ensures.items, c.as_slice-cores.ensures, e.3 ∙ inv.0) (one_more place plan.cores me i none inv.1 lt c.split_seat-seat.result.me c.loop-core.seats.items e.4 inv.2),
    )
