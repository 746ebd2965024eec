-- The text of a schedule is read as its turns.
use Rattle.std.proofs.Common.{codes, ◌≡◌, ℕ, ◌≤◌, ◌==◌, nat_le, Bool, true, not, Option, Some, is_some, option_and_then, List, [], ◌∷◌, ◌++◌, length, length-append, map, IsTrue, refl, ap, ◌∙◌, arith}
use Rattle.std.specs.{Char.is_ascii_digit, Fmt.decimal, List.list_all}
use Rattle.std.proofs.{Math.Seq.drop-append_seam, Math.Seq.take-append_seam, lemmas.Bool.Decides.nat_tests, lemmas.Fmt.digits_decimal, lemmas.List.length-map, lemmas.List.Folds.list_all-map}
use Rattle.std.proofs.lemmas.Bool.{and_from, and_parts, le-leb}
use Rattle.json.specs.Run.{is_plain}
use Rattle.osbase.specs.{declared.references.CoreId.CoreId, declared.turns.Choice.Choice, declared.turns.Choice.TheVariants.Own, declared.turns.Choice.TheVariants.Serve, declared.turns.Choice.TheVariants.Look, History.same_core}
use Rattle.osbase.proofs.Same.{same_core-true}
use Rattle.ossyntax.proofs.{Joining.not-byte, Numerals.own}
use Rattle.osplan.specs.{declared.faults.ConfFault.TheVariants.Limit, declared.faults.ConfFault.TheVariants.BadSchedule, declared.plans.Core.Core, declared.plans.Plan.Plan, Fault.failing, Fault.if_faultless, Limits.is_within_limits, View.core_of}
use Rattle.osplan.proofs.{Numbered.configured-low, Tests.all-append, Tests.all-flat, Tests.all-weaker, Tests.find-holds}
use Rattle.osjson.specs.Reading.{each, parts_of}
use Rattle.osinput.specs.Given.{choice_of, core_named, digits_in, meaning_by, schedule_of_text, schedule_of_data, served, schedule_tests, turn_of, turns_of_text}
use Rattle.ostrace_text.specs.Trace.{after_spaces, spaced}
use Rattle.ostrace.specs.Schedules.{are_turns_of, choice_word, is_choice_of, is_turn_of, schedule_text, turn_word}
use Rattle.ostrace.proofs.{CoreNumbers.digits-end, CoreNumbers.number-back, Quoted.read-quoted, Spaced.parts-spaced}

abbrev Turn : Type 0
Turn = CoreId × Choice

-- ---- the bytes of words

digit-plain : (b : ℕ) → is_ascii_digit b ≡ true → is_plain b ≡ true
digit-plain b digit = grind (arith, nat_tests)

-- The number of a core is followed by a letter.
letter-ends : (digits : List ℕ) (choice : Choice) → list_all is_ascii_digit digits ≡ true → digits_in (digits ++ choice_word choice) ≡ length digits
letter-ends digits Own all = digits-end digits 111 [] all refl
letter-ends digits Look all = digits-end digits 108 [] all refl
letter-ends digits (Serve from) all = digits-end digits 115 (decimal from.number) all refl

-- A word is not empty.
word-some : (turn : Turn) → not (length (turn_word turn) == 0) ≡ true
word-some turn = grind (arith, nat_tests, length-append (decimal turn.0.number) (choice_word turn.1))

-- If the space and each byte of words pass a test, each byte of the words with spaces between them passes it.
module _ (p : ℕ → Bool) (space : p 32 ≡ true) where
  after_spaces-all : (words : List (List ℕ)) → list_all (list_all p) words ≡ true → list_all p (after_spaces words) ≡ true
  after_spaces-all words all = all-flat p (λ word. codes " " ++ word) words (all-weaker (list_all p) (λ word. list_all p (codes " " ++ word)) (λ word h. and_from _ _ space h) words all)

  spaced-all : (words : List (List ℕ)) → list_all (list_all p) words ≡ true → list_all p (spaced words) ≡ true
  spaced-all [] all = refl
  spaced-all (word ∷ words) all =
      let parts = and_parts (list_all p word) (list_all (list_all p) words) all in
      all-append p word (after_spaces words) parts.0 (after_spaces-all words parts.1)

-- If turns are read, and they are few enough, they are what is meant.
meant : (turns : List Turn) (o : Option (List Turn)) (few : Bool) → o ≡ Some turns → few ≡ true
    → option_and_then (if_faultless (failing ((Limit, few) ∷ (BadSchedule, is_some o) ∷ []))) o ≡ Some turns
meant turns o few is within = rw (is, within) refl

there : (o : Option Core) → is_some o ≡ true → (core : Core) × (o ≡ Some core)
there o some = grind arith

module _ (plan : Plan) (limits : IsTrue (is_within_limits plan)) where
  digits-all : (id : CoreId) → is_some (core_of plan id) ≡ true → list_all is_ascii_digit (decimal id.number) ≡ true
  digits-all id there = let low = configured-low plan id limits there in digits_decimal own id.number (omega (arith, low))

  -- If each digit and the letters of choices pass a test, each byte of a word passes it.
  module _ (p : ℕ → Bool) (digit : (b : ℕ) → is_ascii_digit b ≡ true → p b ≡ true) (o : p 111 ≡ true) (l : p 108 ≡ true) (s : p 115 ≡ true) where
    number-all : (id : CoreId) → is_some (core_of plan id) ≡ true → list_all p (decimal id.number) ≡ true
    number-all id there = all-weaker is_ascii_digit p digit (decimal id.number) (digits-all id there)

    choice-all : (core : CoreId) (choice : Choice) → is_choice_of plan core choice ≡ true → list_all p (choice_word choice) ≡ true
    choice-all core Own h = and_from _ _ o refl
    choice-all core Look h = and_from _ _ l refl
    choice-all core (Serve from) h = and_from _ _ s (number-all from (and_parts _ _ h).0)

    turn-all : (turn : Turn) → is_turn_of plan turn ≡ true → list_all p (turn_word turn) ≡ true
    turn-all turn h =
        let parts = and_parts _ _ h in
        all-append p (decimal turn.0.number) (choice_word turn.1) (number-all turn.0 parts.0) (choice-all turn.0 turn.1 parts.1)

    turns-all : (turns : List Turn) → are_turns_of plan turns ≡ true → list_all (list_all p) (map turn_word turns) ≡ true
    turns-all turns h =
        list_all-map (list_all p) turn_word turns ∙ all-weaker (is_turn_of plan) (λ turn. list_all p (turn_word turn)) turn-all turns h

  -- ---- a word and its turn

  -- A configured core is found by its number.
  core-named : (id : CoreId) → is_some (core_of plan id) ≡ true → core_named plan (decimal id.number) ≡ core_of plan id
  core-named id there = let low = configured-low plan id limits there in rw (number-back id.number (omega (arith, low))) refl

  found-id : (id : CoreId) (core : Core) → core_of plan id ≡ Some core → core.id ≡ id
  found-id id core is = same_core-true core.id id (find-holds (λ (c : Core). same_core c.id id) plan.cores core is)

  serve-back : (core from : CoreId) → is_some (core_of plan from) ≡ true → not (same_core from core) ≡ true → served plan core (decimal from.number) ≡ Some (Serve from)
  serve-back core from there other = rw (core-named from there) (grind (arith, found-id from))

  choice-back : (core : CoreId) (choice : Choice) → is_choice_of plan core choice ≡ true → choice_of plan core (choice_word choice) ≡ Some choice
  unfolding choice_of
  choice-back core Own h = refl
  choice-back core Look h = refl
  choice-back core (Serve from) h = let parts = and_parts (is_some (core_of plan from)) (not (same_core from core)) h in serve-back core from parts.0 parts.1

  turn-back : (turn : Turn) → is_turn_of plan turn ≡ true → turn_of plan (turn_word turn) ≡ Some turn
  unfolding turn_of
  turn-back turn h =
      let parts = and_parts (is_some (core_of plan turn.0)) (is_choice_of plan turn.0 turn.1) h in
      let core : (core : Core) × (core_of plan turn.0 ≡ Some core) = there (core_of plan turn.0) parts.0 in
      let digits = decimal turn.0.number in
      let word = choice_word turn.1 in
      rw (letter-ends digits turn.1 (digits-all turn.0 parts.0), take-append_seam digits word, drop-append_seam digits word, core-named turn.0 parts.0, core.1, found-id turn.0 core.0 core.1, choice-back turn.0 turn.1 parts.1) refl

  -- ---- the whole

  each-back : (turns : List Turn) → are_turns_of plan turns ≡ true → each (turn_of plan) (map turn_word turns) ≡ Some turns
  each-back [] h = refl
  each-back (turn ∷ turns) h =
      let parts = and_parts (is_turn_of plan turn) (are_turns_of plan turns) h in
      rw (turn-back turn parts.0, each-back turns parts.1) refl

  parts-back : (turns : List Turn) → are_turns_of plan turns ≡ true → parts_of 32 (spaced (map turn_word turns)) ≡ map turn_word turns
  parts-back [] h = refl
  parts-back (turn ∷ turns) h =
      let no_space = turns-all (λ b. not (b == 32)) (λ b. not-byte is_ascii_digit 32 b refl) refl refl refl (turn ∷ turns) h in
      parts-spaced (turn_word turn) (map turn_word turns) (word-some turn) no_space

  pub schedule-back : (turns : List Turn) → IsTrue (are_turns_of plan turns) → length turns ≤ 1000000 → schedule_of_text plan (schedule_text turns) ≡ Some turns
  schedule-back turns h few =
      let text = spaced (map turn_word turns) in
      let parts = parts-back turns h in
      let plain = spaced-all is_plain refl (map turn_word turns) (turns-all is_plain digit-plain refl refl refl turns h) in
      let back : turns_of_text plan text ≡ Some turns = ap (each (turn_of plan)) parts ∙ each-back turns h in
      let count : length (parts_of 32 text) ≡ length turns = ap length parts ∙ length-map turns turn_word in
      let within : nat_le (length (parts_of 32 text)) 1000000 ≡ true = le-leb _ _ (omega (arith, count, few)) in
      ap (option_and_then (meaning_by (schedule_tests plan) (schedule_of_data plan))) (read-quoted text plain) ∙ meant turns _ _ back within
