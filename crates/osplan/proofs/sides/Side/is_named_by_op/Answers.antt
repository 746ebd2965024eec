use Rattle.std.proofs.Common.{◌∙◌, ap}
use Rattle.std.specs.List.{list_any}
use Rattle.oscript.proofs.Present.{any_present}
use Rattle.osplan.specs.Naming.{is_at}
use Rattle.osplan.proofs.sides.Side.is_named_by_op.Goals as goal

pub returns : goal.returns
returns c = c.has_any.ensures ∙ any_present (is_at c.args.self) c.objects.result ∙ ap (list_any (is_at c.args.self)) c.objects.ensures
