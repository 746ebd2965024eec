use Rattle.std.proofs.Common.{◌≡◌, ◌∷◌, drop}
use Rattle.ossyntax.specs.ParsedOp.{rest_words}
use Rattle.oslog.specs.Items.{first_item, item_as}
use Rattle.oslog.proofs.reading.first_item.Given as goal

abbrev pub invariant-loop-form : goal.invariant-loop-form
invariant-loop-form l =
    first_item (item_as l.names.config.now (l.first ∷ rest_words l.rest)) (drop l.form-index l.forms) ≡ first_item (item_as l.names.config.now (l.first ∷ rest_words l.rest)) l.forms
