use Rattle.std.proofs.Common.{sym, ◌∙◌}
use Rattle.osschema.proofs.Alone.{alone_if}
use Rattle.osschema.proofs.places.Objects.is_alone.Goals as goal

pub returns-then-are_named_apart : goal.returns-then-are_named_apart
returns-then-are_named_apart c = c.if-are_named_apart.true ∙ sym (alone_if c.args.self.now.declared c.args.name.now (sym c.are_named_apart.ensures ∙ c.if-are_named_apart.true) c.requires.declared)
