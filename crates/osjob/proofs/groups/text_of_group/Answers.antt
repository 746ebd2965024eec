use Rattle.std.proofs.Common.{ap, ◌∙◌}
use Rattle.oswrite.specs.Writing.{config_text}
use Rattle.osjob.proofs.groups.text_of_group.Goals as goal

pub returns-clause-ok : goal.returns-clause-ok
returns-clause-ok c = record {
  group = c.least_group.result;
  least = c.least_group.ensures.members;
  text_is = c.in_ok-config_text.ensures.text ∙ ap config_text c.in_ok-group.ensures.ok;
}
