use Rattle.std.proofs.Common.{is_some, ap, ◌∙◌}
use Rattle.ossyntax.proofs.Meant.{any_of_text}
use Rattle.osvalidate.proofs.judging.is_operation.Goals as goal

pub returns : goal.returns
returns c = c.is_some.ensures ∙ ap is_some c.op_of_text.ensures ∙ any_of_text c.args.text.now
