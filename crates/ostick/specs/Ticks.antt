-- A tick: the budget of the running job, and then the core's hardware counters.
use Rattle.std.specs.Prelude.{ℕ}
use Rattle.osbase.specs.declared.marks.Mark.TheVariants as Mark
use Rattle.osbase.specs.Phases.{is_going}
use Rattle.osplan.specs.{declared.plans.Core.Core, declared.plans.Counter.Counter}
use Rattle.osclock.specs.Clocks.{counter_ref}
use Rattle.osacts.specs.Acts.{Acts, both, in_turn, look, nothing, prints, when}
use Rattle.osexpiry.specs.Advancing.{counts}
use Rattle.ostick.specs.Faults.{protects}

-- If a counter of the core is a hardware counter, it is incremented, and what expires acts.
-- [OSEK/VDX OS 2.2.3, section 9.1; AUTOSAR SWS OS 4.x, OsCounterType]
abbrev pub counts_if_hardware : Core → ℕ → Counter → Acts
counts_if_hardware core n counter = when counter.software nothing (counts (counter_ref core n))

-- Each hardware counter of the core is incremented, in index order, and what expires at it acts. [the order: own]
abbrev pub counts_each : Acts
counts_each = look (λ s. in_turn (counts_if_hardware s.core) s.core.counters)

-- Unless the core is down or halted, each of its hardware counters is incremented, and what expires acts.
abbrev pub counts_unless_down : Acts
counts_unless_down = look (λ s. when (is_going s.course) counts_each nothing)

-- The stimulus `tick` prints its line, which charges the running job one tick of its budgets. If a budget is reached,
-- the core answers. Then, unless the core is down or halted, its hardware counters are incremented. [the order: own]
abbrev pub ticks : Acts
ticks = both (prints Mark.Tick) (both (look (λ s. protects s s.running)) counts_unless_down)

-- The most entries that a core's counters add at a tick: 1 for each of 8 counts, 3 for each of 32 alarms, and 38 for
-- each of 8 schedule tables.
abbrev pub counted_entries : ℕ
counted_entries = 408

-- The most marks that a core's counters add at a tick: 3 for each of 32 alarms, and 36 for each of 8 schedule tables.
abbrev pub counted_marks : ℕ
counted_marks = 384
