use Rattle.std.proofs.Common.{[], ◌∷◌, option_map, sym, ap, ◌∙◌}
use Rattle.ossyntax.proofs.parsing.last_two.Goals as goal

pub returns-in-Some-last_arg : goal.returns-in-Some-last_arg
returns-in-Some-last_arg g c = sym (c.in-Some.ensures (c.args.last ∷ []) ∙ ap (option_map (λ rest. c.in-Some.a ∷ rest)) (sym c.in-Some-last_arg.ensures))

pub returns-in-None-last_arg : goal.returns-in-None-last_arg
returns-in-None-last_arg g c = sym (c.in-Some.ensures (c.args.last ∷ []) ∙ ap (option_map (λ rest. c.in-Some.a ∷ rest)) (sym c.in-None-last_arg.ensures))

pub returns-in-None : goal.returns-in-None
returns-in-None g c = sym (c.in-None.ensures (c.args.last ∷ []))
