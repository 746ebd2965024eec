use Rattle.std.proofs.Common.{[], ◌∷◌, option_map, sym, ap, ◌∙◌}
use Rattle.ossyntax.proofs.parsing.last_three.Goals as goal

pub returns-in-Some-last_two : goal.returns-in-Some-last_two
returns-in-Some-last_two g c = sym (c.in-Some.ensures (c.args.next ∷ c.args.last ∷ []) ∙ ap (option_map (λ rest. c.in-Some.a ∷ rest)) (sym c.in-Some-last_two.ensures))

pub returns-in-None-last_two : goal.returns-in-None-last_two
returns-in-None-last_two g c = sym (c.in-Some.ensures (c.args.next ∷ c.args.last ∷ []) ∙ ap (option_map (λ rest. c.in-Some.a ∷ rest)) (sym c.in-None-last_two.ensures))

pub returns-in-None : goal.returns-in-None
returns-in-None g c = sym (c.in-None.ensures (c.args.next ∷ c.args.last ∷ []))
