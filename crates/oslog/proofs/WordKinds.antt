-- A word that is read is the text of the value that was read from it, and that value is representable.
use Rattle.std.proofs.Common.{◌≡◌, ℕ, suc, ◌-◌, ◌<◌, ◌^◌, nat_le, ℤ, Bool, true, false, Option, Some, option_map, List, [], ◌∷◌, ◌++◌, length, get_or, IsTrue, refl, sym, ap, ◌∙◌, arith}
use Rattle.std.specs.{Fmt.decimal, Fmt.signed_decimal, Str.bytes_eq}
use Rattle.std.proofs.{lemmas.Bool.and_parts, lemmas.Bool.le-leb, lemmas.Grind.common_steps, lemmas.Fmt.decimal-digits_value, lemmas.Slice.Eq.bytes_eq-Decides}
use Rattle.osbase.proofs.Same.{same_kind-true}
use Rattle.osbase.specs.Objects.{isr_object, isr_of, mode_of, place_on, spinlock_of}
use Rattle.osbase.specs.{declared.objects.Object.Object, Words.status_name, declared.objects.ObjectKind.ObjectKind, declared.objects.Place.Place, declared.references.CoreId.CoreId, declared.references.IsrRef.IsrRef, declared.references.ModeId.ModeId, declared.references.SpinlockId.SpinlockId, declared.statuses.Status.Status, declared.statuses.TheConstants.STATUS_LIST}
use Rattle.oscript.specs.Rows.{is_int}
use Rattle.ossyntax.specs.Word.{int_of, is_unpadded, number_in}
use Rattle.ossyntax.proofs.{Fitting.int-within, Fitting.number-read, KindTexts.cond-some, KindTexts.int-cases, KindTexts.mapped, Numerals.decimal-digits, Numerals.decimal-some, Numerals.own, RoundTrip.chained}
use Rattle.osplan.proofs.{Tests.find-holds, ModeObjects.mode-named, ModeObjects.mode-there, ModeObjects.nobody, SpinlockObjects.spinlock-there, Within.limit-parts}
use Rattle.osplan.specs.{Representable.is_representable, declared.plans.Plan.Plan}
use Rattle.osplan.specs.Limits.{is_mode, is_object, is_spinlock, is_within_limits}
use Rattle.osplan.specs.Names.{isr_name, name_of, name_of_mode, spinlock_name}
use Rattle.oslog.specs.Naming.{all_named, place_of_kind, isr_named, mode_named, name_of_object, named_by, place_named, spinlock_named}
use Rattle.oslog.specs.{Rows.keyword_text, declared.forms.Parts.Parts, declared.rows.Kind.Kind}
use Rattle.oslog.specs.Words.{behind, core_of, irq_of, irq_prefix, status_of, with_word, word_text}
use Rattle.oslog.specs.declared.rows.Kind.TheVariants as K
use Rattle.oslog.proofs.Named.{named-there}

-- ---- numbers

unpadded-lead : (w : List ℕ) → is_unpadded w ≡ true → get_or w 0 0 ≡ 48 → length w ≡ 1
unpadded-lead w e is = grind arith

pub number-word : (low high : ℕ) (w : List ℕ) (n : ℕ) → high < 2 ^ 64 → number_in low high w ≡ Some n → decimal n ≡ w
number-word low high w n short e =
    let r = number-read low high w n e in
    ap decimal (sym r.1) ∙ decimal-digits_value own w (decimal-digits w r.0) (decimal-some w r.0) (unpadded-lead w (and_parts (is_unpadded w) _ r.0).0) (omega (arith, r, short))

number-back : (high : ℕ) (w : List ℕ) (n : ℕ) → high < 2 ^ 64 → number_in 0 high w ≡ Some n → (decimal n ≡ w) × (nat_le n high ≡ true)
number-back high w n short e = (number-word 0 high w n short e, le-leb n high (number-read 0 high w n e).3)

pub int-word : (w : List ℕ) (z : ℤ) → int_of w ≡ Some z → signed_decimal z ≡ w
int-word =
    int-cases (λ w z. signed_decimal z ≡ w)
    (λ w n e.
    let back : suc (n - 1) ≡ n = omega (arith, number-read 1 9223372036854775808 w n e) in
    rw (back, number-word 1 9223372036854775808 w n (omega arith) e))
    (λ w n e. number-word 0 9223372036854775807 w n (omega arith) e)

-- ---- names

pub named-is : (plan : Plan) (w : List ℕ) (n : Object) → named_by plan w ≡ Some n → name_of_object plan n ≡ w
named-is plan w n e = (bytes_eq-Decides (name_of_object plan n) w).0 (find-holds (λ (n : Object). bytes_eq (name_of_object plan n) w) (all_named plan) n e)

object-is : (kind : ObjectKind) (object : Object) (found : Place) → place_of_kind kind object ≡ Some found → object ≡ record { kind = kind; place = found }
object-is kind object found e = grind (arith, same_kind-true object.kind kind)

status-word : (w : List ℕ) (s : Status) → status_of w ≡ Some s → status_name s ≡ w
status-word w s e = (bytes_eq-Decides (status_name s) w).0 (find-holds (λ (s : Status). bytes_eq (status_name s) w) STATUS_LIST s e)

-- a word is its front, followed by the rest that is read behind it
behind-is : (front word rest : List ℕ) → behind front word ≡ Some rest → front ++ rest ≡ word
behind-is [] word rest e = cc
behind-is (f ∷ front) [] rest e = cc
behind-is (f ∷ front) (c ∷ word) rest e = grind (arith, common_steps, behind-is front word rest)

-- ---- any kind

-- The value that the parts have for a kind is representable.
abbrev pub is_part_representable : Plan → Parts → Kind → Bool
is_part_representable plan q K.Core = nat_le q.core.number 255
is_part_representable plan q K.Count = nat_le q.count 18446744073709551615
is_part_representable plan q K.Value = is_int q.value
is_part_representable plan q K.Mode = is_mode plan q.mode
is_part_representable plan q K.Irq = is_object plan (isr_object q.isr)
is_part_representable plan q K.Spinlock = is_spinlock plan q.spinlock
is_part_representable plan q k = true

-- The text of the value that the parts have for a kind, and whether that value is representable.
abbrev pub part_view : Plan → Parts → Kind → List ℕ × Bool
part_view plan q k = (word_text plan q k, is_part_representable plan q k)

module _ (plan : Plan) (limits : IsTrue (is_within_limits plan)) (config_representable : IsTrue (is_representable plan)) where
  pub place-spells : (kind : ObjectKind) (name : List ℕ) (found : Place) → place_named plan kind name ≡ Some found → name_of plan kind found ≡ name
  place-spells kind name found e = let c = chained (place_of_kind kind) (named_by plan name) found e in ap (name_of_object plan) (sym (object-is kind c.0 found c.2)) ∙ named-is plan name c.0 c.1

  pub place-there : (kind : ObjectKind) (name : List ℕ) (found : Place) → place_named plan kind name ≡ Some found → is_object plan (record { kind = kind; place = found }) ≡ true
  place-there kind name found e = let c = chained (place_of_kind kind) (named_by plan name) found e in ap (is_object plan) (sym (object-is kind c.0 found c.2)) ∙ named-there plan limits config_representable name c.0 c.1

  mode-back : (w : List ℕ) (m : ModeId) → mode_named plan w ≡ Some m → (name_of_mode plan m ≡ w) × (is_mode plan m ≡ true)
  mode-back w m e =
      let p = mapped mode_of (place_named plan ObjectKind.Mode w) m e in
      let there = mode-there plan p.0 (place-there ObjectKind.Mode w p.0 p.1) in
      let named = sym (mode-named plan (nobody plan (limit-parts plan limits).cores) (mode_of p.0)) ∙ ap (λ (id : CoreId). name_of plan ObjectKind.Mode (place_on id p.0.index)) (sym there.0) in
      rw (← p.2) (named ∙ place-spells ObjectKind.Mode w p.0 p.1, there.1)

  spinlock-back : (w : List ℕ) (l : SpinlockId) → spinlock_named plan w ≡ Some l → (spinlock_name plan l ≡ w) × (is_spinlock plan l ≡ true)
  spinlock-back w l e =
      let p = mapped spinlock_of (place_named plan ObjectKind.Spinlock w) l e in
      let there = spinlock-there plan p.0 (place-there ObjectKind.Spinlock w p.0 p.1) in
      rw (← p.2) (ap (λ (id : CoreId). name_of plan ObjectKind.Spinlock (place_on id p.0.index)) (sym there.0) ∙ place-spells ObjectKind.Spinlock w p.0 p.1, there.1)

  irq-back : (w : List ℕ) (i : IsrRef) → irq_of plan w ≡ Some i → (irq_prefix ++ isr_name plan i ≡ w) × (is_object plan (isr_object i) ≡ true)
  irq-back w i e =
      let b = chained (isr_named plan) (behind irq_prefix w) i e in
      let m = mapped isr_of (place_named plan ObjectKind.Isr b.0) i b.2 in
      rw (← m.2) (ap (λ (name : List ℕ). irq_prefix ++ name) (place-spells ObjectKind.Isr b.0 m.0 m.1) ∙ behind-is irq_prefix w b.0 b.1, place-there ObjectKind.Isr b.0 m.0 m.1)

  pub word-back : (k : Kind) (w : List ℕ) (p q : Parts) → with_word plan k w p ≡ Some q → (word_text plan q k ≡ w) × (is_part_representable plan q k ≡ true)
  word-back (K.Keyword word) w p q e = (sym ((bytes_eq-Decides w (keyword_text word)).0 (cond-some (bytes_eq w (keyword_text word)) (Some p) q e).0), refl)
  word-back K.Core w p q e =
      let m = mapped (λ core. record p { core = core }) (core_of w) q e in
      let n = mapped (λ (n : ℕ). record { number = n }) (number_in 0 255 w) m.0 m.1 in
      rw (← m.2, ← n.2) (number-back 255 w n.0 (omega arith) n.1)
  word-back K.Count w p q e = let m = mapped (λ n. record p { count = n }) (number_in 0 18446744073709551615 w) q e in rw (← m.2) (number-back 18446744073709551615 w m.0 (omega arith) m.1)
  word-back K.Status w p q e = let m = mapped (λ status. record p { status = status }) (status_of w) q e in rw (← m.2) (status-word w m.0 m.1, refl)
  word-back K.Value w p q e = let m = mapped (λ z. record p { value = z }) (int_of w) q e in rw (← m.2) (int-word w m.0 m.1, int-within w m.0 m.1)
  word-back K.Mode w p q e = let m = mapped (λ mode. record p { mode = mode }) (mode_named plan w) q e in rw (← m.2) (mode-back w m.0 m.1)
  word-back K.Irq w p q e = let m = mapped (λ isr. record p { isr = isr }) (irq_of plan w) q e in rw (← m.2) (irq-back w m.0 m.1)
  word-back K.Spinlock w p q e = let m = mapped (λ spinlock. record p { spinlock = spinlock }) (spinlock_named plan w) q e in rw (← m.2) (spinlock-back w m.0 m.1)

-- ---- reading a word of one kind leaves the values of the other kinds as they are

abbrev pub apart : Kind → Kind → Bool
apart K.Core K.Core = false
apart K.Count K.Count = false
apart K.Status K.Status = false
apart K.Value K.Value = false
apart K.Mode K.Mode = false
apart K.Irq K.Irq = false
apart K.Spinlock K.Spinlock = false
apart k other = true

mapped-stays : {A V : Type 0} (view : Parts → V) (f : A → Parts) (o : Option A) (p q : Parts) → ((a : A) → view (f a) ≡ view p) → option_map f o ≡ Some q → view q ≡ view p
mapped-stays view f o p q same e = grind (arith, same)

module _ (plan : Plan) (p : Parts) (other : Kind) (w : List ℕ) (q : Parts) where
  stays : {A : Type 0} (f : A → Parts) (o : Option A) → ((a : A) → part_view plan (f a) other ≡ part_view plan p other) → option_map f o ≡ Some q → part_view plan q other ≡ part_view plan p other
  stays f o same e = mapped-stays (λ (r : Parts). part_view plan r other) f o p q same e

  pub word-stays : (k : Kind) → apart k other ≡ true → with_word plan k w p ≡ Some q → part_view plan q other ≡ part_view plan p other
  word-stays (K.Keyword word) away e = let c = cond-some (bytes_eq w (keyword_text word)) (Some p) q e in let same : p ≡ q = cc in rw (← same)
  word-stays K.Core away e = stays (λ core. record p { core = core }) (core_of w) (λ core. grind arith) e
  word-stays K.Count away e = stays (λ n. record p { count = n }) (number_in 0 18446744073709551615 w) (λ n. grind arith) e
  word-stays K.Status away e = stays (λ status. record p { status = status }) (status_of w) (λ status. grind arith) e
  word-stays K.Value away e = stays (λ z. record p { value = z }) (int_of w) (λ z. grind arith) e
  word-stays K.Mode away e = stays (λ mode. record p { mode = mode }) (mode_named plan w) (λ mode. grind arith) e
  word-stays K.Irq away e = stays (λ isr. record p { isr = isr }) (irq_of plan w) (λ isr. grind arith) e
  word-stays K.Spinlock away e = stays (λ spinlock. record p { spinlock = spinlock }) (spinlock_named plan w) (λ spinlock. grind arith) e
