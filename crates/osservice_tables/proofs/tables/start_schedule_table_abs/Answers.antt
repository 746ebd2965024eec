use Rattle.std.proofs.Common.{sym, ◌∙◌, lit≤}
use Rattle.osbase.specs.Objects.{table_object}
use Rattle.osbase.specs.declared.statuses.ServiceId.TheVariants as Service
use Rattle.osservice.specs.Named.{own_of}
use Rattle.osservice_tables.specs.Tables.{absolute_start}
use Rattle.osservice_tables.proofs.Served.{served-found, served-missing}
use Rattle.osservice_tables.proofs.tables.start_schedule_table_abs.Goals.{in-None, in-Some}
use Rattle.osservice_tables.proofs.tables.start_schedule_table_abs.Goals as goal

pub returns : goal.returns
returns g c =
    elim c.match-own_of.branch [
      | in-Some w ↦ served-found c.args.runner Service.StartScheduleTableAbs (absolute_start c.args.start) (λ core. own_of table_object core c.args.target) w.in-Some.table (sym c.own_of.ensures.value ∙ w.in-Some.is) (lit≤ tt) w.state-is (w.answer-is ∙ w.start_absolute-answer.ensures.answer) w.start_absolute-answer.ensures.steps c.finish.ensures
      | in-None w ↦ served-missing c.args.runner Service.StartScheduleTableAbs (absolute_start c.args.start) (λ core. own_of table_object core c.args.target) (sym c.own_of.ensures.value ∙ w.in-None.is) w.state-is (w.answer-is ∙ w.without_value-answer.ensures) c.finish.ensures
    ]
