use Rattle.std.proofs.Common.{◌≡◌}
use Rattle.osjson.specs.Reading.{each}
use Rattle.osjson.proofs.{Each.with_front, Contents.entry_view}
use Rattle.osinput.specs.Given.{core_stimuli_of}
use Rattle.osinput.proofs.given.stimuli_of_members.Given as goal

abbrev pub invariant-loop-key : goal.invariant-loop-key
invariant-loop-key l = with_front l.stimuli (each (λ entry. core_stimuli_of l.plan (entry_view entry)) l.key-iterator) ≡ each (λ entry. core_stimuli_of l.plan (entry_view entry)) l.members.entries
