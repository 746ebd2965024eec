use Rattle.std.proofs.Common.{◌∙◌}
use Rattle.osbase.proofs.Sets.{has_core-flag, one-flag}
use Rattle.osseparate.proofs.separate.set_of.Goals as goal

pub returns : goal.returns
returns c = λ id lt. has_core-flag _ id lt ∙ rw c.from.ensures (one-flag 16 c.args.core.number id.number c.requires)
