use Rattle.std.proofs.Common.{◌≡◌, ◌∙◌, Ok, refl}
use Rattle.osrun.specs.Ends.{have_all_ended}
use Rattle.osjob.specs.{Performs.fails, Performs.outcome_of, Performs.prints, Runs.order_line}
use Rattle.osjob.proofs.{Ordering.is_ordered}
use Rattle.osjob.proofs.orders.print_order.Goals as goal

pub returns-in_default : goal.returns-in_default
returns-in_default g c = fails _ refl refl refl

pub returns : goal.returns
returns g c =
    let text = order_line c.order.result in
    let said : c.as_bytes.result.now ≡ text = c.as_bytes.ensures.value ∙ c.in-Ok.ensures in
    let ended = rw (c.of_run.ensures, c.have_all_ended.ensures, c.plan.ensures.value) at c.written.ensures in
    prints text (Ok (outcome_of (have_all_ended c.args.config.now c.args.reports.now))) (record { ordered = is_ordered _ _ _ c.order.result c.order.ensures.reports; ending_is = refl })
    (record { written = c.write_all.result; writes = rw said at c.write_all.ensures; result_is = ended })
