use Rattle.std.proofs.Common.{◌∙◌}
use Rattle.osinput.specs.Given.{has_words_within}
use Rattle.osjson.proofs.Contents.{list_all-values}
use Rattle.osinput.proofs.given.are_stimuli_within.Goals as goal

pub returns-in-Some : goal.returns-in-Some
returns-in-Some c = rw (← c.in-Some.ensures) (c.are_values_within.ensures ∙ list_all-values (has_words_within 100000) c.in-Some.members.now.entries)
