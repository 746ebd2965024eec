use Rattle.std.proofs.Common.{◌≡◌, ◌+◌, ◌*◌, ◌≤◌, length}
use Rattle.osplan.specs.declared.plans.Core.{Core}
use Rattle.osacts.specs.Steps.{Steps}
use Rattle.ostick.specs.Ticks.{counts_if_hardware}
use Rattle.osservice.proofs.Numbered.{acted}
use Rattle.ostick.proofs.Ticking.{alarms_at, posted_at, tables_at, total}
use Rattle.ostick.proofs.ticks.count_each.Given as goal

abbrev pub invariant-loop-counter : goal.invariant-loop-counter
invariant-loop-counter g l = record {
  place : l.index ≡ l.counter-index;
  outbox : length l.state.border.outbox ≤ length l.initial.state.border.outbox + total (posted_at l.initial.state.view.own) l.counter-index;
  steps :
      Steps (l.counter-index + (3 * total (alarms_at l.initial.state.view.own) l.counter-index + 38 * total (tables_at l.initial.state.view.own) l.counter-index))
      (3 * total (alarms_at l.initial.state.view.own) l.counter-index + 36 * total (tables_at l.initial.state.view.own) l.counter-index)
      (acted counts_if_hardware (λ (core : Core). core.counters) l.initial.state.view.own l.counter-index) l.initial.state l.state l.initial.marks l.marks;
}
