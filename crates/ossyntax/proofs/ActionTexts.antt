-- The text of an operation is the text of an action exactly if the operation is an action.
use native.Mathlib.Omega.{arith}
use Rattle.std.proofs.Common.{◌≡◌, ℕ, ◌&&◌, Bool, true, false, Option, Some, None, is_some, List, [], ◌∷◌, map, refl, sym, ap, ◌∙◌}
use Rattle.std.specs.{List.list_all, Option.option_map_or}
use Rattle.osbase.specs.{declared.objects.ObjectKind.ObjectKind, declared.objects.Place.Place, Objects.place_on}
use Rattle.oscript.specs.{declared.Op.Op, declared.rows.Arg.Arg, declared.rows.Kind.Kind, declared.rows.Verb.Verb, Rows.parsed_op_of, Rows.kinds_of, Rows.op_of}
use Rattle.oscript.specs.declared.rows.Arg.TheVariants.{Object, Number}
use Rattle.oscript.proofs.Homes.{at_home}
use Rattle.ossyntax.specs.{Action.is_action, Action.is_action_op, ParsedOp.form_of}
use Rattle.ossyntax.specs.Operation.{op_of_text, place_of_any, resolve_arg, resolve_args}
use Rattle.ossyntax.proofs.{Meant.any_of_text, Operations.meant-form}

-- Whether an operation is an action depends on its verb, and on whether its object has a name, which is seen before the
-- name is looked up. It depends neither on the object itself nor on the other arguments.
abbrev any_arg : Kind → Arg Place
any_arg (Kind.Object kind) = Object kind (Some (place_on (record { number = 0 }) 0))
any_arg kind = Number 0

abbrev is_action_verb : Verb → Bool
is_action_verb verb = is_action_op (op_of (verb, map any_arg (kinds_of verb)))

abbrev is_named : {R : Type 0} → Arg R → Bool
is_named (Object kind None) = false
is_named arg = true

abbrev is_action_form : {R : Type 0} → Verb × List (Arg R) → Bool
is_action_form form = is_action_verb form.0 && list_all is_named form.1

action-form : (op : Op) → is_action_op op ≡ is_action_form (parsed_op_of op)
action-form op = grind arith

module _ (place : ObjectKind → List ℕ → Option Place) where
  -- Whether an object has a name does not depend on its place.
  arg-named : (shown : Arg (List ℕ)) (arg : Arg Place) → resolve_arg place shown ≡ Some arg → is_named (at_home arg) ≡ is_named shown
  arg-named shown arg e = grind arith

  args-named : (shown : List (Arg (List ℕ))) (args : List (Arg Place)) → resolve_args place shown ≡ Some args → list_all is_named (map at_home args) ≡ list_all is_named shown
  args-named [] args e = grind arith
  args-named (a ∷ shown) args e = grind (arith, arg-named, args-named shown)

  formed-action : (text : List ℕ) (op : Op) → op_of_text place text ≡ Some op → is_action_op op ≡ option_map_or is_action_form (form_of text) false
  formed-action text op e =
      let m = meant-form place text op e in
      rw (action-form op, m.verb_is, m.args_are, args-named m.form.1 m.args m.placed, m.formed)

-- So whether a text is an action does not depend on what its name refers to.
action-by : (o : Option (Verb × List (Arg (List ℕ)))) → is_some o ≡ false → option_map_or is_action_form o false ≡ false
action-by o none = grind arith

form-action : (text : List ℕ) → is_action text ≡ option_map_or is_action_form (form_of text) false
form-action text = by (op_of_text place_of_any text) refl
  where
    by : (o : Option Op) → op_of_text place_of_any text ≡ o → option_map_or is_action_op o false ≡ option_map_or is_action_form (form_of text) false
    by None none = sym (action-by (form_of text) (sym (any_of_text text) ∙ ap is_some none))
    by (Some op) e = formed-action place_of_any text op e

-- The operation that a text means is an action exactly if the text is the text of an action.
pub meant_action : (place : ObjectKind → List ℕ → Option Place) (text : List ℕ) (op : Op) → op_of_text place text ≡ Some op → is_action_op op ≡ is_action text
meant_action place text op e = formed-action place text op e ∙ sym (form-action text)

-- The text of an action is in form and in range.
formed-by : (o : Option (Verb × List (Arg (List ℕ)))) → option_map_or is_action_form o false ≡ true → is_some o ≡ true
formed-by o e = grind arith

pub action-formed : (text : List ℕ) → is_action text ≡ true → is_some (form_of text) ≡ true
action-formed text e = formed-by (form_of text) (sym (form-action text) ∙ e)
