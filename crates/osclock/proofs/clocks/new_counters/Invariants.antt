use Rattle.std.proofs.Common.{◌≡◌, map, take}
use Rattle.osplan.specs.declared.plans.Counter.{Counter as CounterValue}
use Rattle.oscount.specs.Clocks.{counter_at}
use Rattle.osclock.proofs.clocks.new_counters.Given as goal

abbrev pub invariant-loop-counter : goal.invariant-loop-counter
invariant-loop-counter l = l.counters.items ≡ map (λ (c : CounterValue). counter_at c.max 0) (take l.counter-index l.core.counters)
