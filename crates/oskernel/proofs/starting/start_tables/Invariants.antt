use Rattle.std.proofs.Common.{◌≡◌, Some}
use Rattle.osplan.specs.declared.plans.Core.{Core}
use Rattle.osacts.specs.Steps.{QuietSteps}
use Rattle.oskernel.specs.{Step.autostarts_table, Taking.agreement_on}
use Rattle.osservice.proofs.Numbered.{acted}
use Rattle.oskernel.proofs.starting.start_tables.Given as goal

abbrev pub invariant-loop-table : goal.invariant-loop-table
invariant-loop-table g l = record {
  place : l.index ≡ l.table-index;
  steps : QuietSteps l.table-index (acted (autostarts_table (Some (agreement_on l.mode))) (λ (core : Core). core.tables) l.initial.state.view.own l.table-index) l.initial.state l.state;
}
