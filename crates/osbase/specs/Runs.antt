-- The stimuli of a listed run.
use Rattle.std.specs.{Prelude.List, Prelude.[], Prelude.find, Option.option_map_or}
use Rattle.osbase.specs.{declared.references.CoreId.CoreId, declared.items.Stimulus.Stimulus, declared.turns.CoreStimuli.CoreStimuli, History.same_core}

-- The stimuli of the core's first entry in the list, in order; none for a core without an entry. [own]
abbrev pub stimuli_of : List CoreStimuli → CoreId → List Stimulus
stimuli_of stimuli core = option_map_or (λ (entry : CoreStimuli). entry.words) (find (λ entry. same_core entry.core core) stimuli) []
