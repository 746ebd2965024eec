-- The line of a representable item is read as that item. It has no line end, and is not empty.
use Rattle.std.proofs.Common.{◌≡◌, ℕ, ◌<◌, ◌^◌, ◌==◌, ◌&&◌, ℤ, true, false, not, nat_le, Some, option_map, List, ◌∷◌, length, map, IsTrue, refl, ap, ◌∙◌, arith}
use Rattle.std.specs.{Fmt.decimal, Fmt.signed_decimal, List.join_with_byte, List.list_all}
use Rattle.std.proofs.lemmas.List.Folds.{list_all-append, list_all-map}
use Rattle.std.proofs.lemmas.Bool.{and_from, and_parts, eqb-true, leb-true}
use Rattle.osbase.specs.{Names.is_name, Names.is_name_part, Objects.isr_object, Words.status_name, declared.items.Agreement.Agreement, declared.items.Item.Item, declared.items.Stimulus.Stimulus, declared.messages.Message.Message, declared.messages.RemoteCall.RemoteCall, declared.objects.ObjectKind.ObjectKind, declared.references.CoreId.CoreId, declared.statuses.Status.Status}
use Rattle.oscript.specs.{Rows.is_int, declared.rows.Arg.TheVariants.Int, declared.rows.Arg.TheVariants.Number, declared.rows.Arg.TheVariants.Object}
use Rattle.oscript.specs.declared.rows.Kind as operation
use Rattle.ossyntax.specs.{Call.call_words, Word.int_of, Word.number_in}
use Rattle.ossyntax.proofs.Joining.{all-none, has_none, joined-none, some-more, split-joined}
use Rattle.ossyntax.proofs.KindTexts.{IsApart, arg_of-none, int-back, mapped, name-back, number-back}
use Rattle.ossyntax.proofs.RoundTrip.{space-apart}
use Rattle.osplan.proofs.{Tests.all-append, Tests.all-weaker, ModeObjects.mode-said}
use Rattle.osplan.specs.{Representable.is_representable, Limits.is_within_limits, Names.isr_name, Names.name_of, Names.name_of_mode, Names.spinlock_name, declared.plans.Plan.Plan}
use Rattle.oslog.specs.{Forms.form_of, Logs.is_call_representable, Logs.is_core_number, Logs.is_message_representable, Logs.is_item_representable, Rows.keyword_text, Rows.row_of, declared.forms.Parts.Parts, declared.rows.Keyword.Keyword as Word, declared.rows.Kind.Kind, declared.rows.Tail.Tail, declared.rows.TheConstants.LINES}
use Rattle.oslog.specs.Items.{first_item, item_as, item_of_text, later_words, after_spaces, line_of}
use Rattle.oslog.specs.Words.{core_of, irq_prefix, status_of, tail_words, word_text}
use Rattle.oslog.specs.declared.rows.Kind.TheVariants as K
use Rattle.oslog.specs.declared.rows.Tail.TheVariants as T
use Rattle.oslog.proofs.{Calls.call-read, Cores.cores-none, Cores.cores-read, Joining.end-apart, Joining.after_spaces-joined, Sound.is_tail_representable, WordKinds.is_part_representable}
use Rattle.oslog.proofs.Named.{mode-found, object-formed, place-found, spinlock-formed, spinlock-found}

-- ---- words

number-said : (high n : ℕ) → nat_le n high ≡ true → high < 2 ^ 64 → number_in 0 high (decimal n) ≡ Some n
number-said high n fits short = let most = leb-true n high fits in number-back 0 high n (omega arith) most (omega arith)

core-read : (core : CoreId) → is_core_number core ≡ true → core_of (decimal core.number) ≡ Some core
core-read core fits = rw (number-said 255 core.number fits (omega arith))

status-read : (s : Status) → status_of (status_name s) ≡ Some s
status-read s = grind arith

int-read : (z : ℤ) → is_int z ≡ true → int_of (signed_decimal z) ≡ Some z
int-read z fits = let m = mapped Int (int_of (signed_decimal z)) (Int z) (int-back z fits) in cc (m.1, m.2)

-- ---- bytes

status-parts : (s : Status) → list_all is_name_part (status_name s) ≡ true
status-parts s = grind arith

word-parts : (word : Word) → list_all is_name_part (keyword_text word) ≡ true
word-parts word = grind arith

word-some : (word : Word) → not (length (keyword_text word) == 0) ≡ true
word-some word = grind arith

abbrev words : Plan → Item → List (List ℕ)
words plan item = keyword_text (row_of (form_of item).0).0 ∷ later_words plan (form_of item)

-- The parts of a representable item are representable, and so is its tail.
item-parts : (plan : Plan) (item : Item) → is_item_representable plan item ≡ true
    → (list_all (is_part_representable plan (form_of item).1) (row_of (form_of item).0).1 ≡ true) × (is_tail_representable plan (form_of item).1 (row_of (form_of item).0).2 ≡ true)
item-parts plan item representable = (grind arith, grind arith)

-- A byte that no word of an item has.
record IsOutside (plan : Plan) (byte : ℕ) : Type 0 where
  apart : IsApart byte
  prefix : has_none byte irq_prefix ≡ true
  calls : (call : RemoteCall) → is_call_representable plan call ≡ true → list_all (has_none byte) (call_words (name_of plan) call) ≡ true

module _ (plan : Plan) (limits : IsTrue (is_within_limits plan)) (config_representable : IsTrue (is_representable plan)) (byte : ℕ) (outside : IsOutside plan byte) where
  number-none : (high n : ℕ) → nat_le n high ≡ true → high < 2 ^ 64 → has_none byte (decimal n) ≡ true
  number-none high n fits short = arg_of-none byte (operation.Kind.Number 0 high) (decimal n) (Number n) outside.apart (ap (option_map Number) (number-said high n fits short))

  name-none : (name : List ℕ) → is_name name ≡ true → has_none byte name ≡ true
  name-none name formed = arg_of-none byte (operation.Kind.Object ObjectKind.Isr) name (Object ObjectKind.Isr (Some name)) outside.apart (name-back ObjectKind.Isr name formed)

  part-none : (k : Kind) (q : Parts) → is_part_representable plan q k ≡ true → has_none byte (word_text plan q k) ≡ true
  part-none (K.Keyword word) q representable = all-none is_name_part byte (keyword_text word) outside.apart.part (word-parts word)
  part-none K.Core q representable = number-none 255 q.core.number representable (omega arith)
  part-none K.Count q representable = number-none 18446744073709551615 q.count representable (omega arith)
  part-none K.Status q representable = all-none is_name_part byte (status_name q.status) outside.apart.part (status-parts q.status)
  part-none K.Value q representable = arg_of-none byte operation.Kind.Int (signed_decimal q.value) (Int q.value) outside.apart (int-back q.value representable)
  part-none K.Mode q representable = name-none (name_of_mode plan q.mode) (mode-said plan config_representable q.mode representable).in_form
  part-none K.Irq q representable =
      let name = isr_name plan q.isr in
      let formed : is_name name ≡ true = object-formed plan limits config_representable (isr_object q.isr) representable in
      list_all-append (λ b. not (b == byte)) irq_prefix name ∙ and_from _ _ outside.prefix (name-none name formed)
  part-none K.Spinlock q representable = name-none (spinlock_name plan q.spinlock) (spinlock-formed plan limits config_representable q.spinlock representable)

  parts-none : (ks : List Kind) (q : Parts) → list_all (is_part_representable plan q) ks ≡ true → list_all (has_none byte) (map (word_text plan q) ks) ≡ true
  parts-none ks q representable = list_all-map (has_none byte) (word_text plan q) ks ∙ all-weaker (is_part_representable plan q) (λ k. has_none byte (word_text plan q k)) (λ k. part-none k q) ks representable

  tail-none : (tail : Tail) (q : Parts) → is_tail_representable plan q tail ≡ true → list_all (has_none byte) (tail_words plan q tail) ≡ true
  tail-none T.Nothing q representable = refl
  tail-none T.Call q representable = outside.calls q.call representable
  tail-none T.Cores q representable = cores-none byte q.cores outside.apart.digit

  words-none : (item : Item) → is_item_representable plan item ≡ true → list_all (has_none byte) (words plan item) ≡ true
  words-none item representable =
      let form = form_of item in
      let parts = item-parts plan item representable in
      and_from _ _ (all-none is_name_part byte (keyword_text (row_of form.0).0) outside.apart.part (word-parts (row_of form.0).0))
      (all-append (has_none byte) (map (word_text plan form.1) (row_of form.0).1) (tail_words plan form.1 (row_of form.0).2)
      (parts-none (row_of form.0).1 form.1 parts.0) (tail-none (row_of form.0).2 form.1 parts.1))

module _ (plan : Plan) (limits : IsTrue (is_within_limits plan)) (config_representable : IsTrue (is_representable plan)) where
  -- ---- an item by its words, one case for each

  words-read : (item : Item) → is_item_representable plan item ≡ true → first_item (item_as plan (words plan item)) LINES ≡ Some item
  words-read (Item.Began core status) representable = rw (core-read core representable, status-read status) refl
  words-read (Item.Pass1 (Agreement.Mode mode)) representable =
      let named = mode-said plan config_representable mode representable in
      rw (named.not_conflict, named.not_none, mode-found plan limits config_representable mode representable) refl
  words-read (Item.Pass2 cores) representable = rw (cores-read cores (eqb-true (length cores.members) 16 representable)) refl
  words-read (Item.Stim (Stimulus.Irq isr)) representable = rw (place-found plan limits config_representable (isr_object isr) representable)
  words-read (Item.Posted core) representable = rw (core-read core representable) refl
  words-read (Item.Received from number message) representable =
      let parts = and_parts (is_core_number from && nat_le number 18446744073709551615) (is_message_representable plan message) representable in
      let first = and_parts (is_core_number from) (nat_le number 18446744073709551615) parts.0 in
      by message parts.1 (core-read from first.0) (number-said 18446744073709551615 number first.1 (omega arith))
    where
      by : (message : Message) → is_message_representable plan message ≡ true → core_of (decimal from.number) ≡ Some from → number_in 0 18446744073709551615 (decimal number) ≡ Some number
          → first_item (item_as plan (words plan (Item.Received from number message))) LINES ≡ Some (Item.Received from number message)
      by (Message.Request call) representable core count = rw (core, count, (call-read plan limits config_representable call representable).read) refl
      by (Message.Action call) representable core count = rw (core, count, (call-read plan limits config_representable call representable).read) refl
      by (Message.Reply status) representable core count = rw (core, count, status-read status) refl
      by (Message.Value status value) representable core count = rw (core, count, status-read status, int-read value representable) refl
  words-read (Item.Granted spinlock) representable = rw (spinlock-found plan limits config_representable spinlock representable) refl
  words-read (Item.Tried spinlock true) representable = rw (spinlock-found plan limits config_representable spinlock representable) refl
  words-read (Item.Tried spinlock false) representable = rw (spinlock-found plan limits config_representable spinlock representable) refl
  words-read (Item.Freed spinlock) representable = rw (spinlock-found plan limits config_representable spinlock representable) refl
  words-read (Item.Halt core status) representable = rw (core-read core representable, status-read status) refl
  words-read (Item.Last (Some p)) representable = rw (core-read p.0 representable, status-read p.1) refl
  words-read item representable = refl

  -- ---- lines

  line-joined : (item : Item) → line_of plan item ≡ join_with_byte 32 (words plan item)
  line-joined item = after_spaces-joined (keyword_text (row_of (form_of item).0).0) (later_words plan (form_of item))

  pub line-read : (item : Item) → is_item_representable plan item ≡ true → item_of_text plan (line_of plan item) ≡ Some item
  line-read item representable =
      let none = words-none plan limits config_representable 32 (record { apart = space-apart; prefix = refl; calls = λ call is. (call-read plan limits config_representable call is).no_space }) item representable in
      rw (line-joined item, split-joined 32 (keyword_text (row_of (form_of item).0).0) (later_words plan (form_of item)) refl none) (words-read item representable)

  pub line-none : (item : Item) → is_item_representable plan item ≡ true → has_none 10 (line_of plan item) ≡ true
  line-none item representable =
      let none = words-none plan limits config_representable 10 (record { apart = end-apart; prefix = refl; calls = λ call is. (call-read plan limits config_representable call is).no_end }) item representable in
      rw (line-joined item) (joined-none 10 (keyword_text (row_of (form_of item).0).0) (later_words plan (form_of item)) refl none)

pub line-some : (plan : Plan) (item : Item) → not (length (line_of plan item) == 0) ≡ true
line-some plan item = some-more (keyword_text (row_of (form_of item).0).0) (after_spaces (later_words plan (form_of item))) (word-some (row_of (form_of item).0).0)
