use Rattle.std.proofs.Common.{sym, ◌∙◌, lit≤}
use Rattle.osbase.specs.declared.statuses.ServiceId.TheVariants as Service
use Rattle.osservice_tables.specs.Tables.{own_pair, switch}
use Rattle.osservice_tables.proofs.Served.{served-found, served-missing}
use Rattle.osservice_tables.proofs.tables.next_schedule_table.Goals.{in-None, in-Some}
use Rattle.osservice_tables.proofs.tables.next_schedule_table.Goals as goal

pub returns : goal.returns
returns g c =
    elim c.match-own_pair.branch [
      | in-Some w ↦ served-found c.args.runner Service.NextScheduleTable switch (λ core. own_pair core c.args.from c.args.to) (w.in-Some.from, w.in-Some.to) (sym c.own_pair.ensures.value ∙ w.in-Some.is) (lit≤ tt) w.state-is (w.answer-is ∙ w.switch-answer.ensures.answer) w.switch-answer.ensures.steps c.finish.ensures
      | in-None w ↦ served-missing c.args.runner Service.NextScheduleTable switch (λ core. own_pair core c.args.from c.args.to) (sym c.own_pair.ensures.value ∙ w.in-None.is) w.state-is (w.answer-is ∙ w.without_value-answer.ensures) c.finish.ensures
    ]
