use Rattle.std.proofs.Common.{◌≡◌, List, vec_len}
use Rattle.osbase.specs.declared.turns.CoreStimuli.{CoreStimuli}
use Rattle.osworld.specs.{World.first_world, Playing.Plays}
use Rattle.osworld.proofs.Default.{IsUnderway}
use Rattle.osworld.proofs.runs.play_rounds.Given as goal

abbrev pub invariant-loop-rounds : goal.invariant-loop-rounds
invariant-loop-rounds l =
    (l.world.config ≡ l.fn.world.config) × (l.world.reports ≡ l.fn.world.reports) × (vec_len l.world.core_runs ≡ vec_len l.fn.world.core_runs)
    × ((stimuli : List CoreStimuli) → Plays l.fn.world.config.now stimuli (first_world l.fn.world.config.now) l.fn.world.core_runs.items l.fn.world.shared → IsUnderway l.fn.world.config.now stimuli l.rounds l.world.core_runs.items l.world.shared)
