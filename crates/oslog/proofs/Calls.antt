-- A call that is read from words has these words. A call is read back from its words.
use Rattle.std.proofs.Common.{◌≡◌, ℕ, ◌+◌, ◌≤◌, ◌&&◌, nat_le, true, Option, Some, option_and_then, List, [], ◌∷◌, map, codes, refl, sym, ap, IsTrue, ◌∙◌, arith}
use Rattle.std.specs.{Fmt.decimal, List.list_all, Str.bytes_eq}
use Rattle.std.proofs.{lemmas.Bool.and_from, lemmas.Bool.and_parts, lemmas.Bool.leb-true, lemmas.Fmt.decimal_digit, lemmas.Grind.common_steps, lemmas.List.Splits.join_with_byte-slice_split, lemmas.Slice.Eq.bytes_eq-Decides}
use Rattle.osbase.specs.{Objects.object_of_call, declared.messages.RemoteCall.RemoteCall, declared.objects.Object.Object as ObjectOf, declared.objects.ObjectKind.ObjectKind, declared.objects.Place.Place, declared.references.CoreId.CoreId}
use Rattle.oscript.specs.{declared.Op.Op, declared.rows.Arg.Arg, declared.rows.Kind.Kind, declared.rows.TheConstants.VERBS, declared.rows.Verb.Verb, Calls.named_call, Calls.op_of_call}
use Rattle.oscript.specs.declared.rows.Arg.TheVariants.{Core, Object, Mask, Number, Int, Variable}
use Rattle.oscript.specs.Rows.{has_event, has_masks, is_in_form, kinds_of, objects_of, word_of}
use Rattle.oscript.proofs.{Acting.call-back as table-back, Acting.call-objects, Homes.args-home}
use Rattle.ossyntax.specs.Call.{call_words, form_words}
use Rattle.ossyntax.specs.ParsedOp.{arg_of, arg_text, args_of, form_of_verb, form_of_words, verb_of, words_of}
use Rattle.ossyntax.specs.Operation.{named, op_text, resolve_arg, resolve_args}
use Rattle.ossyntax.specs.Word.{core_of, mask_of, number_in, target_of, variable_of, int_of}
use Rattle.ossyntax.proofs.{Joining.has_none, Operations.IsNamed, Operations.args-pass, Operations.meant-words, Operations.text-meant, Operations.text-none, RoundTrip.both, RoundTrip.chained, Rows.is-row}
use Rattle.ossyntax.proofs.KindTexts.{cond-some, is_kind, mapped}
use Rattle.osplan.proofs.{SpinlockObjects.stays, Tests.find-holds}
use Rattle.osplan.specs.{Representable.is_representable, Limits.is_object, Limits.is_within_limits, Names.name_of, declared.plans.Plan.Plan}
use Rattle.oslog.specs.{Naming.place_named, Words.call_in, Words.call_of, Words.op_of_words, Logs.is_call_representable}
use Rattle.oslog.proofs.WordKinds.{int-word, number-word, place-spells, place-there}
use Rattle.oslog.proofs.{Joining.end-apart, Joining.joined-parts, Joining.split-none, Named.object-formed, Named.place-found}

-- ---- calls

-- an operation with a call is the operation of that call
call-op : (op : Op) (call : RemoteCall) → named_call op ≡ Some call → op ≡ op_of_call call
call-op Op.Work call e = cc
call-op op call e = grind arith

-- ---- arguments

mask-some : (w : List ℕ) (mask : ℕ) → mask_of w ≡ Some mask → nat_le 1 mask ≡ true → number_in 1 4294967295 w ≡ Some mask
mask-some w mask e some = grind arith

mask-word : (w : List ℕ) (mask : ℕ) → mask_of w ≡ Some mask → nat_le 1 mask ≡ true → decimal mask ≡ w
mask-word w mask e some = number-word 1 4294967295 w mask (omega arith) (mask-some w mask e some)

variable-read : (w : List ℕ) (x : ℕ) → variable_of w ≡ Some x → (x ≤ 7) × (118 ∷ (48 + x) ∷ [] ≡ w)
variable-read w x e = grind (arith, common_steps)

variable-word : (w : List ℕ) (x : ℕ) → variable_of w ≡ Some x → 118 ∷ decimal x ≡ w
variable-word w x e = let r = variable-read w x e in rw (decimal_digit x (omega (arith, r.0))) r.1

core-word : (w : List ℕ) (target : Option CoreId) → core_of w ≡ Some target → arg_text (Core target) ≡ w
core-word w target e = grind (arith, number-word 0 255 w, (bytes_eq-Decides w (codes "?")).0)

-- a name that has a place is the name of the object at that place
module _ (place : ObjectKind → List ℕ → Option Place) (name : ObjectKind → Place → List ℕ) (spells : (kind : ObjectKind) (text : List ℕ) (found : Place) → place kind text ≡ Some found → name kind found ≡ text) where
  target-word : (k : ObjectKind) (w : List ℕ) (t : Option (List ℕ)) (b : Arg Place) → target_of w ≡ Some t → resolve_arg place (Object k t) ≡ Some b → arg_text (named name b) ≡ w
  target-word k w t b e r = grind (arith, spells, (bytes_eq-Decides w (codes "?")).0)

  arg-word : (k : Kind) (w : List ℕ) (a : Arg (List ℕ)) (b : Arg Place) → is_kind k ≡ true → arg_of k w ≡ Some a → resolve_arg place a ≡ Some b → has_event b ≡ true → arg_text (named name b) ≡ w
  arg-word (Kind.Object k) w a b fits e r some = let m = mapped (Object k) (target_of w) a e in target-word k w m.0 b m.1 (rw (← m.2) at r)
  arg-word Kind.Mask w a b fits e r some = let m = mapped Mask (mask_of w) a e in grind (arith, mask-word w m.0 m.1, m.2)
  arg-word (Kind.Number low high) w a b fits e r some =
      let m = mapped Number (number_in low high w) a e in
      let most : high ≤ 4294967295 = leb-true high 4294967295 fits in
      grind (arith, number-word low high w m.0 (omega arith) m.1, m.2)
  arg-word Kind.Int w a b fits e r some = let m = mapped Int (int_of w) a e in grind (arith, int-word w m.0 m.1, m.2)
  arg-word Kind.Variable w a b fits e r some = let m = mapped Variable (variable_of w) a e in grind (arith, variable-word w m.0 m.1, m.2)
  arg-word Kind.Core w a b fits e r some = let m = mapped Core (core_of w) a e in grind (arith, core-word w m.0 m.1, m.2)

  args-words : (ks : List Kind) (ws : List (List ℕ)) (shown : List (Arg (List ℕ))) (args : List (Arg Place)) → list_all is_kind ks ≡ true → args_of ks ws ≡ Some shown → resolve_args place shown ≡ Some args → list_all has_event args ≡ true
      → map (λ (a : Arg Place). arg_text (named name a)) args ≡ ws
  args-words [] ws shown args fit e r some = grind arith
  args-words (k ∷ ks) [] shown args fit e r some = cc
  args-words (k ∷ ks) (w ∷ ws) shown args fit e r some =
      let m = both (arg_of k w) (args_of ks ws) shown e in
      let n = both (resolve_arg place m.0) (resolve_args place m.1) args (rw (← m.4) at r) in
      let fits = and_parts (is_kind k) (list_all is_kind ks) fit in
      let events = and_parts (has_event n.0) (list_all has_event n.1) (ap (list_all has_event) n.4 ∙ some) in
      let here = arg-word k w m.0 n.0 fits.0 m.2 n.2 events.0 in
      let later = args-words ks ws m.1 n.1 fits.1 m.3 n.3 events.1 in
      ap (map (λ (a : Arg Place). arg_text (named name a))) (sym n.4) ∙ cc (here, later)

module _ (plan : Plan) (limits : IsTrue (is_within_limits plan)) (config_representable : IsTrue (is_representable plan)) where
  -- ---- operations

  -- if a form is read from words, it has these words
  form-said : (words : List (List ℕ)) (form : Verb × List (Arg (List ℕ))) (args : List (Arg Place)) → form_of_words words ≡ Some form → resolve_args (place_named plan) form.1 ≡ Some args → list_all has_event args ≡ true → form_words (name_of plan) (form.0, args) ≡ words
  form-said [] form args e r some = cc
  form-said (w ∷ ws) form args e r some =
      let c = chained (form_of_verb ws) (verb_of w) form e in
      let m = mapped (λ as_. (c.0, as_)) (args_of (kinds_of c.0) ws) form c.2 in
      let verb : word_of c.0 ≡ w = (bytes_eq-Decides (word_of c.0) w).0 (find-holds (λ verb. bytes_eq (word_of verb) w) VERBS c.0 c.1) in
      let later = args-words (place_named plan) (name_of plan) (place-spells plan limits config_representable) (kinds_of c.0) ws m.0 args (is-row c.0).2 m.1 (rw (← m.2) at r) some in
      rw (← m.2, verb, later)

  -- a call that is read has these words, and is representable
  pub call-back : (words : List (List ℕ)) (call : RemoteCall) → call_of plan words ≡ Some call → (call_words (name_of plan) call ≡ words) × (is_call_representable plan call ≡ true)
  call-back words call e =
      let c = chained call_in (op_of_words plan words) call e in
      let n = cond-some (has_masks c.0) (named_call c.0) call c.2 in
      let is = call-op c.0 call n.1 in
      let op = op_of_call call in
      let masks : has_masks op ≡ true = ap has_masks (sym is) ∙ n.0 in
      let m = meant-words (place_named plan) words op (c.1 ∙ ap Some is) in
      let there = args-pass (place_named plan) (is_object plan) (stays plan) (place-there plan limits config_representable) m.form.1 m.args m.placed in
      let args = m.args_are ∙ args-home (is_object plan) (stays plan) m.args there in
      let all : list_all (is_object plan) (objects_of op) ≡ true = rw args there in
      let object = and_parts (is_object plan (object_of_call call)) true (rw (call-objects call) at all) in
      (rw (m.verb_is, args) (form-said words m.form m.args m.formed m.placed (rw args at masks)), and_from _ _ (and_from _ _ (rw (m.verb_is, args) m.fit) masks) object.0)

  -- ---- from a call to its words and back

  named-back : (object : ObjectOf) → is_object plan object ≡ true → IsNamed (place_named plan) (name_of plan) object
  named-back object is = record { in_form = object-formed plan limits config_representable object is; found = place-found plan limits config_representable object is }

  -- A representable call is read back from its words. No word has a space or a line end.
  pub record CallRead (call : RemoteCall) : Type 0 where
    pub read : call_of plan (call_words (name_of plan) call) ≡ Some call
    pub no_space : list_all (has_none 32) (call_words (name_of plan) call) ≡ true
    pub no_end : list_all (has_none 10) (call_words (name_of plan) call) ≡ true

  pub call-read : (call : RemoteCall) → is_call_representable plan call ≡ true → CallRead call
  call-read call representable =
      let op = op_of_call call in
      let text = op_text (name_of plan) op in
      let object = and_parts (is_in_form op && has_masks op) (is_object plan (object_of_call call)) representable in
      let parts = and_parts (is_in_form op) (has_masks op) object.0 in
      let there : list_all (is_object plan) (objects_of op) ≡ true = rw (call-objects call) (and_from _ _ object.1 refl) in
      let meant = text-meant (place_named plan) (name_of plan) (is_object plan) named-back op parts.0 parts.1 there in
      let read : call_of plan (words_of text) ≡ Some call = ap (option_and_then call_in) meant ∙ rw parts.1 (table-back call) in
      let words : call_words (name_of plan) call ≡ words_of text = (call-back (words_of text) call read).0 in
      let plain = text-none (place_named plan) (name_of plan) (is_object plan) named-back 10 end-apart refl op parts.0 parts.1 there in
      record {
        read = ap (call_of plan) words ∙ read;
        no_space = ap (list_all (has_none 32)) words ∙ split-none 32 text;
        no_end = ap (list_all (has_none 10)) words ∙ joined-parts 32 10 (words_of text) (rw (join_with_byte-slice_split 32 text) plain);
      }
