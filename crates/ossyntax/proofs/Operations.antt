-- From operations to their texts and back, by what names refer to.
use Rattle.std.proofs.Common.{◌≡◌, ℕ, ◌==◌, ◌≤◌, nat_le, not, Bool, true, false, Option, Some, None, is_some, option_map, option_and_then, List, [], ◌∷◌, length, map, refl, sym, ap, ◌∙◌, arith}
use Rattle.std.specs.{List.list_all, Option.option_map_or}
use Rattle.std.proofs.lemmas.Bool.{and_parts, false≢true, leb-true}
use Rattle.osbase.specs.{declared.objects.ObjectKind.ObjectKind, declared.objects.Place.Place, declared.objects.Object.Object as Named, Names.is_name}
use Rattle.oscript.specs.{declared.Op.Op, declared.rows.Kind.Kind, declared.rows.Arg.Arg, declared.rows.Verb.Verb}
use Rattle.oscript.specs.declared.rows.Arg.TheVariants.{Core, Object, Mask, Number, Int, Variable}
use Rattle.oscript.specs.Rows as rows
use Rattle.oscript.specs.Rows.{are_of, parsed_op_of, has_event, is_in_form, is_of, kinds_of, objects_in, objects_of, op_of}
use Rattle.oscript.proofs.{Arguments.rest-pass, Homes.args-home, Homes.at_home, Homes.home}
use Rattle.ossyntax.specs.ParsedOp.{form_of, form_of_words, words_of}
use Rattle.ossyntax.specs.Operation.{resolve_arg, resolve_args, resolved, named, op_of_text, place_of_any, has_masks, is_formed, is_known, op_text}
use Rattle.ossyntax.proofs.{Alike.named-alike, Joining.has_none, Known.form-known, Meant.any_of_text, Rows.is-row, Rows.is-op, Fitting.args-fit, Fitting.formed-args}
use Rattle.ossyntax.proofs.KindTexts.{mapped, is_kind, ReadsBack, invalid-back, name-back, mask-back, number-back, int-back, variable-back, core-back, IsApart}
use Rattle.osbase.proofs.Same.{same_kind-true}
use Rattle.ossyntax.proofs.RoundTrip.{both, chained, AreArgs, form_text-back, form_text-none, form_text-some}

-- ---- what a text means

-- The operation that words mean has their form, with places for its names: each object is where its references are.
pub record Meant (place : ObjectKind → List ℕ → Option Place) (words : List (List ℕ)) (op : Op) : Type 0 where
  pub form : Verb × List (Arg (List ℕ))
  pub args : List (Arg Place)
  pub formed : form_of_words words ≡ Some form
  pub placed : resolve_args place form.1 ≡ Some args
  pub fit : are_of (kinds_of form.0) args ≡ true
  pub verb_is : (parsed_op_of op).0 ≡ form.0
  pub args_are : (parsed_op_of op).1 ≡ map at_home args

pub meant-words : (place : ObjectKind → List ℕ → Option Place) (words : List (List ℕ)) (op : Op) → option_map op_of (option_and_then (resolved place) (form_of_words words)) ≡ Some op → Meant place words op
meant-words place words op e =
    let m = mapped op_of (option_and_then (resolved place) (form_of_words words)) op e in
    let c = chained (resolved place) (form_of_words words) m.0 m.1 in
    let r = mapped (λ args. (c.0.0, args)) (resolve_args place c.0.1) m.0 c.2 in
    let f = formed-args words c.0 c.1 in
    let fit = args-fit place (kinds_of c.0.0) f.0 c.0.1 r.0 f.1 r.1 in
    let back : op ≡ op_of (c.0.0, r.0) = sym m.2 ∙ ap op_of (sym r.2) in
    record {
      form = c.0;
      args = r.0;
      formed = c.1;
      placed = r.1;
      fit = fit;
      verb_is = ap (λ (o : Op). (parsed_op_of o).0) back ∙ (is-row c.0.0).3 r.0;
      args_are = ap (λ (o : Op). (parsed_op_of o).1) back ∙ (is-row c.0.0).4 r.0 fit;
    }

pub meant-form : (place : ObjectKind → List ℕ → Option Place) (text : List ℕ) (op : Op) → op_of_text place text ≡ Some op → Meant place (words_of text) op
meant-form place text op e = meant-words place (words_of text) op e

-- An argument keeps its kind when its object is put where its references are.
home-of : (k : Kind) (a : Arg Place) → is_of k (at_home a) ≡ is_of k a
home-of k a = grind arith

homes-of : (ks : List Kind) (args : List (Arg Place)) → are_of ks (map at_home args) ≡ are_of ks args
homes-of [] args = grind arith
homes-of (k ∷ ks) [] = refl
homes-of (k ∷ ks) (a ∷ args) = rw (home-of k a, homes-of ks args) refl

module _ (place : ObjectKind → List ℕ → Option Place) (p : Named → Bool) (stays : (object : Named) → p object ≡ true → home object.kind object.place ≡ object.place) (passes : (kind : ObjectKind) (name : List ℕ) (found : Place) → place kind name ≡ Some found → p (record { kind = kind; place = found }) ≡ true) where
  arg-passes : (shown : Arg (List ℕ)) (arg : Arg Place) (args : List (Arg Place)) → resolve_arg place shown ≡ Some arg → list_all p (objects_in args) ≡ true → list_all p (objects_in (arg ∷ args)) ≡ true
  arg-passes shown arg args e all = grind (arith, passes)

  pub args-pass : (shown : List (Arg (List ℕ))) (args : List (Arg Place)) → resolve_args place shown ≡ Some args → list_all p (objects_in args) ≡ true
  args-pass [] args e = grind arith
  args-pass (a ∷ shown) args e =
      let m = both (resolve_arg place a) (resolve_args place shown) args e in
      rw (← m.4) (arg-passes a m.0 m.1 m.2 (args-pass shown m.1 m.3))

  -- If each object of a name passes a test and is where its references are, each object of a text's operation passes.
  pub meant-passes : (text : List ℕ) (op : Op) → op_of_text place text ≡ Some op → list_all p (objects_of op) ≡ true
  meant-passes text op e =
      let m = meant-form place text op e in
      let all = args-pass m.form.1 m.args m.placed in
      rw (m.args_are ∙ args-home p stays m.args all) all

module _ (place : ObjectKind → List ℕ → Option Place) where
  -- Each argument of the operation that a text means is of its kind.
  pub meant-in-form : (text : List ℕ) (op : Op) → op_of_text place text ≡ Some op → is_in_form op ≡ true
  meant-in-form text op e = let m = meant-form place text op e in rw (m.verb_is, m.args_are) (homes-of (kinds_of m.form.0) m.args ∙ m.fit)

  -- A text that means an operation is in form and in range, and its names are known.
  pub meant-known : (text : List ℕ) (op : Op) → op_of_text place text ≡ Some op → (is_formed text ≡ true) × (is_known place text ≡ true)
  meant-known text op e =
      let m = meant-form place text op e in
      (ap is_some m.formed, form-known place text m.form m.formed ∙ ap is_some m.placed)

  -- Masks keep their events.
  arg-event : (shown : Arg (List ℕ)) (arg : Arg Place) → resolve_arg place shown ≡ Some arg → has_event (at_home arg) ≡ has_event shown
  arg-event shown arg e = grind arith

  args-events : (shown : List (Arg (List ℕ))) (args : List (Arg Place)) → resolve_args place shown ≡ Some args → list_all has_event (map at_home args) ≡ list_all has_event shown
  args-events [] args e = grind arith
  args-events (a ∷ shown) args e = grind (arith, arg-event, args-events shown)

  -- The masks of the operation that a text means are those of its form.
  form-masks : (text : List ℕ) (op : Op) → op_of_text place text ≡ Some op → rows.has_masks op ≡ option_map_or (λ form. list_all has_event form.1) (form_of text) true
  form-masks text op e = let m = meant-form place text op e in rw (m.args_are, args-events m.form.1 m.args m.placed, m.formed)

some-of : (o : Option Op) → is_some o ≡ true → (op : Op) × (o ≡ Some op)
some-of o e = grind arith

-- The masks of the operation that a text means are those of the text.
pub meant_masks : (place : ObjectKind → List ℕ → Option Place) (text : List ℕ) (op : Op) → op_of_text place text ≡ Some op → rows.has_masks op ≡ has_masks text
meant_masks place text op e =
    let any = some-of (op_of_text place_of_any text) (any_of_text text ∙ (meant-known place text op e).0) in
    let alike = named-alike place_of_any text any.0 any.1 in
    rw alike.1 (form-masks place text op e ∙ sym (form-masks place_of_any text any.0 any.1) ∙ alike.2.masks)

-- ---- what an operation's text means

-- The object's name is in form, and refers to the object.
pub record IsNamed (place : ObjectKind → List ℕ → Option Place) (name : ObjectKind → Place → List ℕ) (object : Named) : Type 0 where
  pub in_form : is_name (name object.kind object.place) ≡ true
  pub found : place object.kind (name object.kind object.place) ≡ Some object.place

module _ (place : ObjectKind → List ℕ → Option Place) (name : ObjectKind → Place → List ℕ) (p : Named → Bool) (known : (object : Named) → p object ≡ true → IsNamed place name object) where
  arg-back : (k : Kind) (a : Arg Place) (args : List (Arg Place)) → is_kind k ≡ true → is_of k a ≡ true → has_event a ≡ true → list_all p (objects_in (a ∷ args)) ≡ true → ReadsBack k (named name a)
  arg-back (Kind.Object k) (Object j None) args fits is some all = rw (same_kind-true k j is) (invalid-back j)
  arg-back (Kind.Object k) (Object j (Some found)) args fits is some all = rw (same_kind-true k j is) (name-back j (name j found) (known (record { kind = j; place = found }) (and_parts (p (record { kind = j; place = found })) _ all).0).in_form)
  arg-back Kind.Mask (Mask mask) args fits is some all = mask-back mask (leb-true 1 mask some) (leb-true mask 4294967295 is)
  arg-back (Kind.Number low high) (Number n) args fits is some all =
      let most : high ≤ 4294967295 = leb-true high 4294967295 fits in
      let parts = and_parts (nat_le low n) (nat_le n high) is in
      let short : n ≤ high = leb-true n high parts.1 in
      ap (option_map Number) (number-back low high n (leb-true low n parts.0) short (omega arith))
  arg-back Kind.Int (Int z) args fits is some all = int-back z is
  arg-back Kind.Variable (Variable x) args fits is some all = variable-back x (leb-true x 7 is)
  arg-back Kind.Core (Core None) args fits is some all = refl
  arg-back Kind.Core (Core (Some core)) args fits is some all = core-back core (leb-true core.number 255 is)
  arg-back k a args fits is some all = absurd (false≢true is)

  args-back : (ks : List Kind) (args : List (Arg Place)) → list_all is_kind ks ≡ true → are_of ks args ≡ true → list_all has_event args ≡ true → list_all p (objects_in args) ≡ true → AreArgs ks (map (named name) args)
  args-back [] [] fit are some all = tt
  args-back (k ∷ ks) (a ∷ args) fit are some all =
      let fits = and_parts (is_kind k) (list_all is_kind ks) fit in
      let is = and_parts (is_of k a) (are_of ks args) are in
      let events = and_parts (has_event a) (list_all has_event args) some in
      (arg-back k a args fits.0 is.0 events.0 all, args-back ks args fits.1 is.1 events.1 (rest-pass p a args all))
  args-back ks args fit are some all = absurd (false≢true are)

  arg-resolved : (a : Arg Place) (args : List (Arg Place)) → list_all p (objects_in (a ∷ args)) ≡ true → resolve_arg place (named name a) ≡ Some a
  arg-resolved (Object kind (Some found)) args all = rw (known (record { kind = kind; place = found }) (and_parts (p (record { kind = kind; place = found })) _ all).0).found refl
  arg-resolved arg args all = grind arith

  args-resolved : (args : List (Arg Place)) → list_all p (objects_in args) ≡ true → resolve_args place (map (named name) args) ≡ Some args
  args-resolved [] all = refl
  args-resolved (a ∷ args) all = rw (arg-resolved a args all, args-resolved args (rest-pass p a args all)) refl

  are-args : (op : Op) → is_in_form op ≡ true → rows.has_masks op ≡ true → list_all p (objects_of op) ≡ true → AreArgs (kinds_of (parsed_op_of op).0) (map (named name) (parsed_op_of op).1)
  are-args op fit some all = args-back (kinds_of (parsed_op_of op).0) (parsed_op_of op).1 (is-row (parsed_op_of op).0).2 fit some all

  -- An operation's text means that operation.
  pub text-meant : (op : Op) → is_in_form op ≡ true → rows.has_masks op ≡ true → list_all p (objects_of op) ≡ true → op_of_text place (op_text name op) ≡ Some op
  text-meant op fit some all =
      let form = parsed_op_of op in
      rw (form_text-back form.0 (map (named name) form.1) (are-args op fit some all), args-resolved form.1 all) (ap Some (is-op op))

  -- A byte that no argument has, other than the space, is not in an operation's text.
  pub text-none : (byte : ℕ) → IsApart byte → (32 == byte) ≡ false → (op : Op) → is_in_form op ≡ true → rows.has_masks op ≡ true → list_all p (objects_of op) ≡ true → has_none byte (op_text name op) ≡ true
  text-none byte apart other op fit some all = form_text-none byte apart other (parsed_op_of op).0 (map (named name) (parsed_op_of op).1) (are-args op fit some all)

pub text-some : (name : ObjectKind → Place → List ℕ) (op : Op) → not (length (op_text name op) == 0) ≡ true
text-some name op = form_text-some (parsed_op_of op).0 (map (named name) (parsed_op_of op).1)
