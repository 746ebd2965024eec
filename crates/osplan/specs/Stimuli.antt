-- Which stimuli the cores of a configuration know.
use Rattle.std.specs.Prelude.{◌≡◌, ◌^◌, ◌≤◌, Bool, true, is_some, List, length}
use Rattle.std.specs.List.{list_all}
use Rattle.osbase.specs.{declared.references.CoreId.CoreId, declared.items.Stimulus.Stimulus, declared.turns.CoreStimuli.CoreStimuli, Runs.stimuli_of}
use Rattle.osplan.specs.{declared.plans.Core.Core, declared.plans.Plan.Plan, View.own_isr, View.view_of}

-- The core knows the stimulus. It always knows the running job's next operation and a tick of its hardware counters. It
-- knows an interrupt if the ISR is one of its own.
abbrev pub knows_stimulus : Core → Stimulus → Bool
knows_stimulus core Stimulus.Op = true
knows_stimulus core Stimulus.Tick = true
knows_stimulus core (Stimulus.Irq isr) = is_some (own_isr core isr)

-- Each core knows its listed stimuli, and has at most 2 ^ 47 of them. A core that is not configured has no objects, so
-- it knows no interrupt. Whoever plays the stimuli must ensure both.
pub record AreKnown (plan : Plan) (stimuli : List CoreStimuli) : Type 0 where
  pub there : (id : CoreId) → list_all (knows_stimulus (view_of plan id).own) (stimuli_of stimuli id) ≡ true
  pub few : (id : CoreId) → length (stimuli_of stimuli id) ≤ 2 ^ 47
