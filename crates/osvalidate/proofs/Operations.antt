-- What a reading finds right about the operations of a script, and about an action.
use Rattle.std.proofs.Common.{◌≡◌, ℕ, ◌&&◌, nat_le, Bool, true, false, cond, List, [], ◌∷◌, length, map, Some, None, option_map, unwrap_or, refl, sym, ap, subst, ◌∙◌, arith}
use Rattle.std.specs.List.{list_all}
use Rattle.osvalidate.specs.{Words.CoreId, Words.Declaration, Words.Op, declared.verdicts.Judged.Judged, declared.verdicts.Verdict.Verdict, Check.is_operation_local, Operation.is_operation, Operation.is_operation_known, Operation.op_of, Verdict.action_verdict, Verdict.judged_op}
use Rattle.oscript.specs.declared.Op.TheVariants.{Work}
use Rattle.oscript.specs.Rows as rows
use Rattle.ossyntax.specs.{Action.is_action_op, Operation.has_masks, Operation.op_of_text}
use Rattle.ossyntax.proofs.{ActionTexts.meant_action, Alike.AreAlike, Alike.named-same, KindTexts.cond-some, KindTexts.mapped, Operations.meant-known, Operations.meant_masks, RoundTrip.chained}
use Rattle.osplan.specs.Limits.{is_local_to}
use Rattle.osjson.specs.Reading.{each, each_of_few}
use Rattle.osschema.specs.Declarations.{place_of}

each-made : {X Y : Type 0} (f : X → Y) (xs : List X) → each (λ x. Some (f x)) xs ≡ Some (map f xs)
each-made f [] = refl
each-made f (x ∷ xs) = rw (each-made f xs) refl

some-few : {X : Type 0} (few : Bool) (x y : X) → cond few (Some x) None ≡ Some y → (few ≡ true) × (y ≡ x)
some-few few x y e = grind arith

none-few : {X : Type 0} (few : Bool) (x : X) → cond few (Some x) None ≡ None → few ≡ false
none-few few x e = grind arith

module _ (objects : List Declaration) (id : CoreId) where
  -- ---- each operation of any script

  abbrev pub judged : List (List ℕ) → List (Judged Op)
  judged texts = map (judged_op objects id) texts

  -- If there are few texts, each is judged. If there are too many, none is.
  pub judged-some : (texts : List (List ℕ)) (parts : List (Judged Op)) → each_of_few 256 (λ text. Some (judged_op objects id text)) texts ≡ Some parts → (nat_le (length texts) 256 ≡ true) × (parts ≡ judged texts)
  judged-some texts parts e = some-few (nat_le (length texts) 256) (judged texts) parts (rw (each-made (judged_op objects id) texts) at e)

  pub judged-none : (texts : List (List ℕ)) → each_of_few 256 (λ text. Some (judged_op objects id text)) texts ≡ None → nat_le (length texts) 256 ≡ false
  judged-none texts e = none-few (nat_le (length texts) 256) (judged texts) (rw (each-made (judged_op objects id) texts) at e)

  -- ---- texts that mean operations

  pub stays-alike : (a b : Op) → AreAlike a b → is_local_to id a ≡ is_local_to id b
  stays-alike a b alike = rw (alike.own, alike.objects) refl

  pub record Meant (texts : List (List ℕ)) (ops : List Op) : Type 0 where
    pub same : map (op_of objects) texts ≡ ops
    pub known : list_all (is_operation_known objects) texts ≡ true
    pub near : list_all (is_operation_local objects id) texts ≡ list_all (is_local_to id) ops
    pub masked : list_all has_masks texts ≡ list_all rows.has_masks ops
    pub formed : list_all is_operation texts ≡ true

  one-meant : (text : List ℕ) (texts : List (List ℕ)) (op : Op) (ops : List Op) → op_of_text (place_of objects) text ≡ Some op → Meant texts ops → Meant (text ∷ texts) (op ∷ ops)
  one-meant text texts op ops e rest =
      let place = place_of objects in
      let means = meant-known place text op e in
      let near = named-same place (is_local_to id) stays-alike text means.0 in
      record {
        same = rw (e, rest.same) refl;
        known = rw (means.1, rest.known) refl;
        near = ap (λ b. b && list_all (is_operation_local objects id) texts) (sym near ∙ ap (λ o. is_local_to id (unwrap_or o Work)) e) ∙ ap (λ b. is_local_to id op && b) rest.near;
        masked = ap (λ b. b && list_all has_masks texts) (sym (meant_masks place text op e)) ∙ ap (λ b. rows.has_masks op && b) rest.masked;
        formed = rw (means.0, rest.formed) refl;
      }

  all-meant : (texts : List (List ℕ)) (ops : List Op) → each (op_of_text (place_of objects)) texts ≡ Some ops → Meant texts ops
  all-meant [] ops e = let are : [] ≡ ops = cc in subst (Meant []) are (record { same = refl; known = refl; near = refl; masked = refl; formed = refl })
  all-meant (text ∷ texts) ops e =
      let c = chained (λ (op : Op). option_map (λ (rest : List Op). op ∷ rest) (each (op_of_text (place_of objects)) texts)) (op_of_text (place_of objects) text) ops e in
      let m = mapped (λ (rest : List Op). c.0 ∷ rest) (each (op_of_text (place_of objects)) texts) ops c.2 in
      subst (Meant (text ∷ texts)) m.2 (one-meant text texts c.0 m.0 c.1 (all-meant texts m.0 m.1))

  pub meant-some : (texts : List (List ℕ)) (ops : List Op) → each_of_few 256 (op_of_text (place_of objects)) texts ≡ Some ops → (nat_le (length texts) 256 ≡ true) × Meant texts ops
  meant-some texts ops e = let few = cond-some (nat_le (length texts) 256) _ ops e in (few.0, all-meant texts ops few.1)

-- ---- actions

module _ (objects : List Declaration) where
  abbrev acting : Bool → Verdict
  acting masked = record { known = true; near = true; masked = masked; formed = true }

  -- The verdict on a text whose operation is an action.
  pub action-acts : (text : List ℕ) (op : Op) → op_of_text (place_of objects) text ≡ Some op → is_action_op op ≡ true → acting (rows.has_masks op) ≡ action_verdict objects text
  action-acts text op e acts =
      let place = place_of objects in
      rw (sym (meant_action place text op e) ∙ acts, (meant-known place text op e).1, ← meant_masks place text op e) refl
