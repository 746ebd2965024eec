-- An operation's word and its arguments, joined by spaces or each after a space.
use Rattle.std.proofs.Common.{◌≡◌, ℕ, List, [], ◌∷◌, ◌++◌, map, sym, ap}
use Rattle.std.specs.List.{join_with_byte}
use Rattle.std.proofs.lemmas.List.{append-nil}
use Rattle.osbase.specs.{declared.objects.ObjectKind.ObjectKind, declared.objects.Place.Place}
use Rattle.oscript.specs.declared.rows.Arg.{Arg}
use Rattle.ossyntax.specs.{ParsedOp.arg_text, Operation.named, Operation.args_text}

pub joined : (name : ObjectKind → Place → List ℕ) (word : List ℕ) (args : List (Arg Place)) → join_with_byte 32 (word ∷ map arg_text (map (named name) args)) ≡ word ++ args_text name args
joined name word [] = sym (append-nil word)
joined name word (a ∷ args) = ap (λ text. word ++ (32 ∷ text)) (joined name (arg_text (named name a)) args)
