use Rattle.std.proofs.Common.{◌∙◌}
use Rattle.osjson.proofs.Contents.{any_texts}
use Rattle.osjson.proofs.members.is_one_of.Goals as goal

pub returns : goal.returns
returns c = c.contains.ensures.value ∙ any_texts c.args.key.now c.args.names.now
