use Rattle.std.proofs.Common.{◌≡◌, ℕ, Some, rules, subst, arith}
use Rattle.std.specs.List.{slice_get}
use Rattle.osplan.specs.{declared.plans.Core.Core}
use Rattle.osacts.specs.Steps.{QuietSteps}
use Rattle.oskernel.specs.{Step.autostarts_table, Taking.agreement_on}
use Rattle.osservice.proofs.Numbered.{all-noted, object-at, one-noted}
use Rattle.oskernel.proofs.starting.start_tables.Goals as goal

pub autostart_table-requires : goal.autostart_table-requires
autostart_table-requires g c =
    let before = c.loop-table.invariant in
    let own : slice_get c.loop-table.state.view.own.tables c.loop-table.index ≡ Some c.table-item.result =
    object-at (autostarts_table (Some (agreement_on c.args.mode))) (λ (core : Core). core.tables) c.args.state.now c.loop-table.state c.tables-tables.result.now c.loop-table.index c.loop-table.table-index c.table-item.result c.tables-tables.ensures.value before.steps.view before.place c.loop-table-test.true c.table-item.is in
    search (rules, arith, own)

pub loop-table-preserved : goal.loop-table-preserved
loop-table-preserved g c = record {
  place = omega arith;
  steps = one-noted (autostarts_table (Some (agreement_on c.args.mode))) (λ (core : Core). core.tables) c.tables-tables.result.now c.loop-table.table-index c.tables-tables.ensures.value c.table-item.result c.loop-table-test.true c.table-item.is
      (omega arith) c.loop-table.invariant.steps
      (subst (λ (n : ℕ). QuietSteps 1 (autostarts_table (Some (agreement_on c.args.mode)) c.loop-table.state.view.own n c.table-item.result) c.loop-table.state c.autostart_table.new.state) c.loop-table.invariant.place c.autostart_table.ensures);
}

pub returns : goal.returns
returns g c =
    all-noted (autostarts_table (Some (agreement_on c.args.mode))) (λ (core : Core). core.tables) c.tables-tables.result.now c.loop-table.table-index c.tables-tables.ensures.value c.loop-table-test.false
    (omega (arith, c.tables-tables.ensures.few)) c.loop-table.invariant.steps
