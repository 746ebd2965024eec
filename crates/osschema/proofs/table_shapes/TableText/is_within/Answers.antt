use Rattle.std.proofs.{Common.◌∙◌, Common.arith, lemmas.Bool.Decides.nat_tests}
use Rattle.osschema.proofs.Lists.{counted}
use Rattle.osschema.proofs.table_shapes.TableText.is_within.Goals as goal

pub returns-then-is_each_point_within : goal.returns-then-is_each_point_within
returns-then-is_each_point_within c = c.is_auto_within.ensures ∙ grind (arith, nat_tests, counted)
