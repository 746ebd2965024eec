-- What the words of a command line give, if no word has a fault. If an argument is found, it has a first value, and a
-- rule with the argument's id takes that value.
use Rattle.std.proofs.Common.{◌≡◌, ◌∙◌, ◌&&◌, ◌||◌, ℕ, zero, suc, Bool, cond, not, true, false, true≢false, refl, sym, subst, arith, codes, get_or, nat_lt, List, [], ◌∷◌, ◌++◌, drop, length, Option, Some, None, is_some}
use Rattle.std.proofs.lemmas.Bool.{and_from, and_parts, cond_both, false≢true, ne_eqb, true_from_ne_false}
use Rattle.std.proofs.{lemmas.List.Elements.recursion_from_All, lemmas.List.Folds.Any-from_list_any, lemmas.List.Folds.list_any_at, lemmas.List.Sums.AllPass-from_list_all, lemmas.Slice.Eq.bytes_eq-Decides}
use Rattle.std.specs.Prelude.{⊤, IfSome, IsSomeAnd, encode_utf8, find, fold, option_and_then, option_map, slice_get}
use Rattle.std.specs.{List.AllByRecursion, List.list_all, List.list_any, Option.option_map_or, Str.bytes_eq, Str.chars}
use Rattle.clap.specs.{Facts.explicit_source, Facts.unwrap_or_range, Lexer.long_of, Lexer.short_of, Takes.is_given, Takes.value_passes, declared.builder.action.ArgAction.ArgAction, declared.builder.action.ArgAction.TheVariants.Help, declared.builder.action.ArgAction.TheVariants.Set, declared.builder.action.ArgAction.TheVariants.SetTrue, declared.builder.action.ArgAction.TheVariants.Version, declared.builder.value_parser.Reading.Reading, declared.error.kind.ErrorKind.ErrorKind, declared.error.kind.ErrorKind.TheVariants.TooManyValues, declared.parser.matches.ValueSource.ValueSource, declared.parser.matches.ValueSource.TheVariants.CommandLine, declared.parser.matches.ValueSource.TheVariants.DefaultValue}
use Rattle.clap.specs.Faults.{action_fault, built_fault, bundle_fault, bundle_step_fault, check_fault, default_fault, defaults_fault, entered_fault, flags_fault, flag_word_fault, given_default_fault, level_fault, long_fault, option_fault, other_fault, positional_fault, react_fault, repeat_fault, set_fault, settle_fault, short_fault, step_fault, stray_fault, turn_fault, use_fault, values_fault, walk_fault, word_fault}
use Rattle.clap.specs.Kinds.{Kinds, check_kinds, or_else, range_kinds}
use Rattle.clap.specs.Simple.{App, Shape, entered, label_of, names_of, rows_at}
use Rattle.clap.specs.Walk.{Held, Names, Outcome, Row, Rule, Step, Text, Waiting, Walk, action_of, after_flag, after_step, answers_to, arg_by_id, arg_by_index, arg_by_long, arg_by_short, attached_value, bundle, bundle_met, bundle_step, default_rows, done, first_of, flag_met, has_long, has_row, has_short, idle, is_empty, is_pending, long_met, long_or_other, more_values, most_values, next, nothing_held, option, option_met, option_word, plain, plain_word, positional, positional_held, reacted, reading_by, refused, rows_after, settled, settled_rows, short_met, short_or_plain, stop_after, subcommand, subcommand_met, subcommand_or_other, takes_several, takes_values, to_positional, trailing, used, used_as, used_by_id, value, values_or_missing, waits, walk, walk_from, walked, walked_from, with_default, with_values, without, word_met}

some_kind : (k : ErrorKind) (ks : Kinds) → k ∷ ks ≡ [] → ⊥
some_kind k ks e = cc

-- if two steps together have no fault, neither step has one
none_of_both : (a b : Kinds) → or_else a b ≡ [] → (a ≡ []) × (b ≡ [])
none_of_both [] b e = (refl, e)
none_of_both (k ∷ ks) b e = absurd (some_kind k ks e)

-- if the step that a test chooses has no fault, its result has the property
cond_fault : {X : Type 0} (P : X → Type 0) (b : Bool) (x y : X) (ks js : Kinds) → (ks ≡ [] → P x) → (js ≡ [] → P y) → cond b ks js ≡ [] → P (cond b x y)
cond_fault P true x y ks js f g e = f e
cond_fault P false x y ks js f g e = g e

find_all : {X : Type 0} (P : X → Type 0) (p : X → Bool) (xs : List X) → AllByRecursion P xs → IfSome (find p xs) P
find_all P p [] all = tt
find_all P p (x ∷ xs) all = cond_both (p x) (Some x) (find p xs) (λ o. IfSome o P) (λ _. all.0) (λ _. find_all P p xs all.1)

-- ---- rows

module _ (rules : List Rule) where
  -- an argument with this id takes the value
  abbrev pub takes : Text → Text → Bool
  takes id v = list_any (λ (a : Rule). bytes_eq a.id id && value_passes a v) rules

  abbrev pub Taken : Text → Text → Type 0
  Taken id v = takes id v ≡ true

  abbrev FirstFits : Text → List Text → Type 0
  FirstFits id [] = ⊥
  FirstFits id (v ∷ vs) = Taken id v

  abbrev RowsFit : List Row → Type 0
  RowsFit [] = ⊤
  RowsFit (r ∷ rs) = FirstFits r.id r.values × RowsFit rs

  first_stays : (id : Text) (xs ys : List Text) → FirstFits id xs → FirstFits id (xs ++ ys)
  first_stays id [] ys h = absurd h
  first_stays id (x ∷ xs) ys h = h

  without_fit : (id : Text) (rows : List Row) → RowsFit rows → RowsFit (without id rows)
  without_fit id [] h = tt
  without_fit id (r ∷ rs) h = cond_both (bytes_eq r.id id) rs (r ∷ without id rs) RowsFit (λ _. h.1) (λ _. (h.0, without_fit id rs h.1))

  values_fit : (id : Text) (how : Reading) (source : ValueSource) (values : List Text) (rows : List Row) → FirstFits id values → RowsFit rows → RowsFit (with_values id how source values rows)
  values_fit id how source values [] new h = (new, tt)
  values_fit id how source values (r ∷ rs) new h =
      cond_both (bytes_eq r.id id) (more_values source values r ++ rs) (r ∷ with_values id how source values rs) RowsFit
      (λ _. (first_stays r.id r.values values h.0, h.1)) (λ _. (h.0, values_fit id how source values rs new h.1))

  -- if an id has a first value, a rule takes that value; an id that was given has a first value
  abbrev HasFirst : Text → Option Row → Type 0
  HasFirst id o =
      IfSome (option_and_then (λ (r : Row). slice_get r.values 0) o) (Taken id)
      × (option_map_or (λ (r : Row). explicit_source r.source) o false ≡ true → IsSomeAnd (option_and_then (λ (r : Row). slice_get r.values 0) o) (Taken id))

  first_value : (id : Text) (vs : List Text) → FirstFits id vs → IfSome (slice_get vs 0) (Taken id) × IsSomeAnd (slice_get vs 0) (Taken id)
  first_value id [] fits = absurd fits
  first_value id (v ∷ vs) fits = (fits, fits)

  has_first : (id : Text) (rows : List Row) → RowsFit rows → HasFirst id (find (λ (r : Row). bytes_eq r.id id) rows)
  has_first id [] h = (tt, λ given. absurd (false≢true given))
  has_first id (r ∷ rs) h =
      cond_both (bytes_eq r.id id) (Some r) (find (λ (x : Row). bytes_eq x.id id) rs) (HasFirst id)
      (λ is. let both = first_value id r.values (subst (λ (t : Text). FirstFits t r.values) ((bytes_eq-Decides r.id id).0 is) h.0) in (both.0, λ _. both.1))
      (λ _. has_first id rs h.1)

  -- ---- uses

  abbrev is_some_text : List Text → Bool
  is_some_text [] = false
  is_some_text (v ∷ vs) = true

  -- a use of the argument leaves it a value, or is a fault
  abbrev leaves_value : Rule → ArgAction → Bool
  leaves_value a Set = nat_lt 0 (unwrap_or_range a.range).start_inclusive
  leaves_value a SetTrue = is_some_text a.missing
  leaves_value a Help = true
  leaves_value a Version = true
  leaves_value a other = false

  abbrev pub is_filled : Rule → Bool
  is_filled a = leaves_value a (action_of a)

  record Filled (a : Rule) : Type 0 where
    leaves : is_filled a ≡ true
    own : (v : Text) → value_passes a v ≡ true → Taken a.id v

  all_filled : list_all is_filled rules ≡ true → AllByRecursion Filled rules
  all_filled fills = recursion_from_All Filled rules (λ k d lt. record {
    leaves = AllPass-from_list_all is_filled rules fills k d lt;
    own = λ v ok. list_any_at _ rules k d lt (and_from _ _ ((bytes_eq-Decides (get_or rules k d).id (get_or rules k d).id).1 refl) ok);
  })

  first_taken : (a : Rule) → Filled a → (values : List Text) → is_some_text values ≡ true → values_fault a values ≡ [] → FirstFits a.id values
  first_taken a fills [] some e = absurd (false≢true some)
  first_taken a fills (v ∷ vs) some e = fills.own v (passes (value_passes a v) _ (none_of_both _ _ e).0)
    where
      passes : (b : Bool) (k : ErrorKind) → cond b [] (k ∷ []) ≡ [] → b ≡ true
      passes true k e = refl
      passes false k e = cc

  given : (a : Rule) (values : List Text) → leaves_value a Set ≡ true → range_kinds (unwrap_or_range a.range).start_inclusive (most_values a) (length values) ≡ [] → is_some_text (values_or_missing a values) ≡ true
  given a [] some e = absurd (some_kind _ _ (rw some at e))
  given a (v ∷ vs) some e = refl

  given_or_missing : (a : Rule) (values : List Text) → leaves_value a SetTrue ≡ true → is_some_text (values_or_missing a values) ≡ true
  given_or_missing a [] some = some
  given_or_missing a (v ∷ vs) some = refl

  -- rows that fit still fit after a use with no fault
  use_fits : (again : Bool) (a : Rule) → Filled a → (values : List Text) (rows : List Row) → use_fault again a values rows ≡ [] → RowsFit rows → RowsFit (used a values rows)
  use_fits again a fills values rows e h = by (action_of a) fills.leaves both.1
    where
      both : (range_kinds (unwrap_or_range a.range).start_inclusive (most_values a) (length values) ≡ []) × (action_fault (action_of a) again a (values_or_missing a values) rows ≡ [])
      both = none_of_both _ _ e

      stored : is_some_text (values_or_missing a values) ≡ true → set_fault again a (values_or_missing a values) rows ≡ []
          → RowsFit (with_values a.id (reading_by a) CommandLine (values_or_missing a values) (without a.id rows))
      stored some e =
          let first = first_taken a fills (values_or_missing a values) some (none_of_both (repeat_fault again a.id rows) _ e).1 in
          values_fit a.id (reading_by a) CommandLine (values_or_missing a values) (without a.id rows) first (without_fit a.id rows h)

      by : (x : ArgAction) → leaves_value a x ≡ true → action_fault x again a (values_or_missing a values) rows ≡ [] → RowsFit (used_as x a.id (reading_by a) (values_or_missing a values) rows)
      by Set leaves e = stored (given a values leaves both.0) e
      by SetTrue leaves e = stored (given_or_missing a values leaves) e
      by Help leaves e = h
      by Version leaves e = h
      by other leaves e = absurd (false≢true leaves)

  -- rows that fit still fit after an unused argument gets its default values
  default_fits : (a : Rule) → Filled a → (rows : List Row) → default_fault rows a ≡ [] → RowsFit rows → RowsFit (with_default rows a)
  default_fits a fills rows e h = by (has_row a.id rows) a.defaults e
    where
      by : (b : Bool) (values : List Text) → cond (b || is_empty values) [] (given_default_fault a values) ≡ [] → RowsFit (cond b rows (default_rows a.id (reading_by a) values rows))
      by true values e = h
      by false [] e = h
      by false (v ∷ vs) e =
          let some : is_empty (v ∷ vs) ≡ false = ne_eqb (suc (length vs)) 0 (λ same. omega arith) in
          values_fit a.id (reading_by a) DefaultValue (v ∷ vs) rows (first_taken a fills (v ∷ vs) refl (none_of_both _ _ (rw some at e)).1) h

  defaults_fit : (c : List Rule) → AllByRecursion Filled c → (rows : List Row) → defaults_fault rows c ≡ [] → RowsFit rows → RowsFit (fold with_default rows c)
  unfolding defaults_fault
  defaults_fit [] all rows e h = h
  defaults_fit (a ∷ rest) all rows e h =
      let both = none_of_both (default_fault rows a) _ e in
      defaults_fit rest all.1 (with_default rows a) both.1 (default_fits a all.0 rows both.0 h)

-- ---- the walk over the words: the rows fit, and no word asks for help

abbrev IsNotHelp : Shape → Text → Type 0
IsNotHelp s name = s.disable_help_subcommand ≡ false → bytes_eq name (codes "help") ≡ false

abbrev Stops : Shape → Option (Text × List Text) → Type 0
Stops s o = IfSome o (λ (p : Text × List Text). IsNotHelp s p.0)

module _ (s : Shape) (all : AllByRecursion (Filled s.rules) s.rules) where
  abbrev again : Bool
  again = s.args_override_self

  abbrev Fit : Held → Type 0
  Fit h = RowsFit s.rules h.rows

  abbrev Usable : Option Rule → Type 0
  Usable o = IfSome o (Filled s.rules)

  usable : (p : Rule → Bool) → Usable (find p s.rules)
  usable p = find_all (Filled s.rules) p s.rules all

  settled_fit : (h : Held) → settle_fault s.rules again h ≡ [] → Fit h → Fit (settled s.rules h)
  settled_fit h e fit = pending h.pending e
    where
      by_id : (o : Option Rule) (values : List Text) → Usable o → option_map_or (λ a. use_fault again a values h.rows) o [] ≡ [] → RowsFit s.rules (used_by_id o values h.rows)
      by_id None values fills e = fit
      by_id (Some a) values fills e = use_fits s.rules again a fills values h.rows e fit

      pending : (p : Option (Text × List Text)) → option_map_or (λ (p : Text × List Text). option_map_or (λ a. use_fault again a p.1 h.rows) (arg_by_id s.rules p.0) []) p [] ≡ []
          → RowsFit s.rules (settled_rows s.rules p h.rows)
      pending None e = fit
      pending (Some p) e = by_id (arg_by_id s.rules p.0) p.1 (usable (λ a. bytes_eq a.id p.0)) e

  reacted_fit : (a : Rule) → Filled s.rules a → (values : List Text) (h : Held) → react_fault s.rules again a values h ≡ [] → Fit h → Fit (reacted s.rules a values h)
  reacted_fit a fills values h e fit =
      let both = none_of_both (settle_fault s.rules again h) _ e in
      use_fits s.rules again a fills values (settled s.rules h).rows both.1 (settled_fit h both.0 fit)

  option_fit : (a : Rule) → Filled s.rules a → (v : Option Text) (h : Held) → option_fault s.rules again a v h ≡ [] → Fit h → Fit (option_met s.rules a v h).0
  option_fit a fills (Some v) h e fit = reacted_fit a fills (v ∷ []) h e fit
  option_fit a fills None h e fit = settled_fit h e fit

  flag_fit : (a : Rule) → Filled s.rules a → (v : Option Text) (h : Held) → cond (is_some v) (TooManyValues ∷ []) (react_fault s.rules again a [] h) ≡ [] → Fit h → Fit (flag_met s.rules a v h).0
  flag_fit a fills (Some v) h e fit = fit
  flag_fit a fills None h e fit = reacted_fit a fills [] h e fit

  long_fit : (o : Option Rule) → Usable o → (v : Option Text) (h : Held) → long_fault s.rules again o v h ≡ [] → Fit h → Fit (long_met s.rules o v h).0
  long_fit None fills v h e fit = fit
  long_fit (Some a) fills v h e fit =
      cond_fault (λ (m : Held × Outcome). Fit m.0) (takes_values a) (option_met s.rules a v h) (flag_met s.rules a v h) _ _ (λ e. option_fit a fills v h e fit) (λ e. flag_fit a fills v h e fit) e

  short_fit : (o : Option Rule) → Usable o → (rest : Text) (h : Held) (met : Held → Held × Outcome) (fault : Held → Kinds) → ((g : Held) → fault g ≡ [] → Fit g → Fit (met g).0)
      → short_fault s.rules again o rest h fault ≡ [] → Fit h → Fit (short_met s.rules o rest h met).0
  short_fit None fills rest h met fault later e fit = fit
  short_fit (Some a) fills rest h met fault later e fit =
      cond_fault (λ (m : Held × Outcome). Fit m.0) (takes_values a) (option_met s.rules a (attached_value rest) h) (met (reacted s.rules a [] h)) _ _
      (λ e. option_fit a fills (attached_value rest) h e fit)
      (λ e. let both = none_of_both (react_fault s.rules again a [] h) _ e in later (reacted s.rules a [] h) both.1 (reacted_fit a fills [] h both.0 fit)) e

  character_fit : (o : Option ℕ) (flags : Text) (skip : ℕ) (so_far : Outcome) (h : Held) (met : Text → ℕ → Outcome → Held → Held × Outcome) (fault : Text → ℕ → Held → Kinds)
      → ((t : Text) (n : ℕ) (x : Outcome) (g : Held) → fault t n g ≡ [] → Fit g → Fit (met t n x g).0)
      → bundle_step_fault s.rules again o flags skip h fault ≡ [] → Fit h → Fit (bundle_step s.rules o flags skip so_far h met).0
  character_fit None flags skip so_far h met fault later e fit = fit
  character_fit (Some x) flags zero so_far h met fault later e fit =
      let rest = drop (length (encode_utf8 x)) flags in
      short_fit (arg_by_short s.rules x) (usable (λ a. not (is_some a.index) && has_short a x)) rest h (met rest 0 done) (fault rest 0) (later rest 0 done) e fit
  character_fit (Some x) flags (suc skip) so_far h met fault later e fit = later (drop (length (encode_utf8 x)) flags) skip so_far h e fit

  flags_fit : (k : ℕ) (flags : Text) (skip : ℕ) (so_far : Outcome) (h : Held) → flags_fault s.rules again k flags skip h ≡ [] → Fit h → Fit (bundle_met s.rules k flags skip so_far h).0
  unfolding flags_fault bundle_met
  flags_fit zero flags skip so_far h e fit = fit
  flags_fit (suc k) flags skip so_far h e fit =
      character_fit (slice_get (chars flags) 0) flags skip so_far h (bundle_met s.rules k) (flags_fault s.rules again k) (λ t n x g. flags_fit k t n x g) e fit

  -- ---- what a word is

  abbrev Goes : Held → Step → Type 0
  Goes h (subcommand name) = Fit h × IsNotHelp s name
  Goes h step = Fit h

  abbrev Met : Held × Step → Type 0
  Met m = Goes m.0 m.1

  option_rows : (o : Option Rule) (name word : Text) (h : Held) → Fit h → Fit (option_word o name word h).0
  option_rows None name word h fit = fit
  option_rows (Some a) name word h fit = fit

  plain_met : (waiting : Waiting) (word : Text) (h : Held) → Fit h → Met (plain_word s.rules waiting word h)
  plain_met idle word h fit = fit
  plain_met (option name) word h fit = option_rows (arg_by_id s.rules name) name word h fit
  plain_met positional word h fit = fit

  after_met : (waiting : Waiting) (word : Text) (h : Held) (x : Outcome) → Fit h → Met (after_flag s.rules waiting word h x)
  after_met waiting word h done fit = fit
  after_met waiting word h (waits name) fit = fit
  after_met waiting word h plain fit = plain_met waiting word h fit
  after_met waiting word h refused fit = plain_met waiting word h fit

  shorts_met : (waiting : Waiting) (word : Text) (o : Option Text) (h : Held) → option_map_or (λ flags. bundle_fault s.rules again flags h) o [] ≡ [] → Fit h → Met (short_or_plain s.rules waiting word o h)
  shorts_met waiting word None h e fit = plain_met waiting word h fit
  shorts_met waiting word (Some flags) h e fit =
      let met = bundle s.rules flags h in
      after_met waiting word met.0 met.1 (flags_fit (length flags) flags h.skip plain (record h { skip = 0 }) e fit)

  flag_word_met : (waiting : Waiting) (word : Text) (p : Option (Text × Option Text)) (h : Held) → flag_word_fault s.rules again p word h ≡ [] → Fit h → Met (long_or_other s.rules waiting word p h)
  flag_word_met waiting word (Some p) h e fit =
      let met = long_met s.rules (arg_by_long s.rules p.0) p.1 h in
      after_met waiting word met.0 met.1 (long_fit (arg_by_long s.rules p.0) (usable (λ a. not (is_some a.index) && has_long a p.0)) p.1 h e fit)
  flag_word_met waiting word None h e fit = shorts_met waiting word (short_of word) h e fit

  not_help : (is_help disabled : Bool) (k j : ErrorKind) → cond (is_help && not disabled) (k ∷ j ∷ []) [] ≡ [] → disabled ≡ false → is_help ≡ false
  not_help false disabled k j e enabled = refl
  not_help true true k j e enabled = enabled
  not_help true false k j e enabled = cc

  other_met : (o : Option Text) (waiting : Waiting) (position : ℕ) (word : Text) (h : Held) → other_fault s o word h ≡ [] → Fit h → Met (subcommand_or_other s.rules o waiting position word h)
  other_met (Some name) waiting position word h e fit = (fit, not_help (bytes_eq name (codes "help")) s.disable_help_subcommand _ _ e)
  other_met None waiting position word h e fit =
      cond_fault Met (bytes_eq word (45 ∷ 45 ∷ [])) (h, trailing position) (long_or_other s.rules waiting word (long_of word) h) _ _ (λ _. fit) (λ e. flag_word_met waiting word (long_of word) h e fit) e

  met_word : (names : Names) (is_trailing : Bool) (waiting : Waiting) (position : ℕ) (word : Text) (h : Held) → word_fault s names is_trailing waiting word h ≡ [] → Fit h
      → Met (word_met s.rules names is_trailing waiting position word h)
  met_word names true waiting position word h e fit = fit
  met_word names false waiting position word h e fit = other_met (subcommand_met names waiting word) waiting position word h e fit

  -- ---- the state of the walk after a word

  abbrev Well : Walk → Type 0
  Well w = Fit w.held × Stops s w.stopped

  positional_fit : (a : Rule) (word : Text) (h : Held) → positional_fault s.rules again a h ≡ [] → Fit h → Fit (positional_held s.rules a word h)
  positional_fit a word h e fit = cond_fault Fit (is_pending a h.pending && takes_several a) h (settled s.rules h) _ _ (λ _. fit) (λ e. settled_fit h e fit) e

  to_well : (o : Option Rule) (word : Text) (w : Walk) (h : Held) → option_map_or (λ a. positional_fault s.rules again a h) o (stray_fault s) ≡ [] → Fit h → Stops s w.stopped → Well (to_positional s.rules o word w h)
  to_well None word w h e fit stops = (fit, stops)
  to_well (Some a) word w h e fit stops = (positional_fit a word h e fit, tt)

  step_well : (word : Text) (w : Walk) (h : Held) (step : Step) → step_fault s w.position h step ≡ [] → Goes h step → Stops s w.stopped → Well (after_step s.rules word w h step)
  step_well word w h (next waiting) e met stops = (met, stops)
  step_well word w h (trailing position) e met stops = (met, stops)
  step_well word w h (subcommand name) e met stops = met
  step_well word w h value e met stops = to_well (arg_by_index s.rules w.position) word w h e met stops

  module _ (names : Names) where
    abbrev met_by : Walk → Text → Held × Step
    met_by w word = word_met s.rules names w.is_trailing w.waiting w.position word w.held

    turn_well : (o : Option (Text × List Text)) (w : Walk) (word : Text)
        → cond (is_some o) [] (or_else (word_fault s names w.is_trailing w.waiting word w.held) (step_fault s w.position (met_by w word).0 (met_by w word).1)) ≡ []
        → Stops s o → Well w → Well (walked_from s.rules names o w word)
    turn_well (Some p) w word e stops well = (well.0, stops)
    turn_well None w word e stops well =
        let both = none_of_both (word_fault s names w.is_trailing w.waiting word w.held) _ e in
        step_well word w (met_by w word).0 (met_by w word).1 both.1 (met_word names w.is_trailing w.waiting w.position word w.held both.0 well.0) well.1

    walked_well : (w : Walk) (word : Text) → turn_fault s names w word ≡ [] → Well w → Well (walked s.rules names w word)
    unfolding walked
    walked_well w word e well = turn_well w.stopped w word e well.1 well

    walk_well : (words : List Text) (w : Walk) → walk_fault s names w words ≡ [] → Well w → Well (fold (walked s.rules names) w words)
    unfolding walk_fault
    walk_well [] w e well = well
    walk_well (word ∷ rest) w e well =
        let both = none_of_both (turn_fault s names w word) _ e in
        walk_well rest (walked s.rules names w word) both.1 (walked_well w word both.0 well)

-- ---- a level of the parse

no_check : (wants_help wants_subcommand wants_argument : Bool) → check_kinds wants_help wants_subcommand wants_argument ≡ []
    → (wants_subcommand ≡ false) × (wants_argument ≡ false)
no_check true b d e = absurd (some_kind _ _ e)
no_check false true d e = absurd (some_kind _ _ e)
no_check false false true e = absurd (some_kind _ _ e)
no_check false false false e = (refl, refl)

-- the rows fit, and all that the checks at the end require is present
record LevelFits (s : Shape) (names : Names) (words : List Text) (has_subcommand : Bool) (below : Kinds) : Type 0 where
  rows : RowsFit s.rules (rows_after s.rules names words)
  stops : Stops s (stop_after s.rules names words)
  entered : below ≡ []
  checked : check_fault s (rows_after s.rules names words) has_subcommand ≡ []

level_fits : (s : Shape) → list_all (is_filled s.rules) s.rules ≡ true → (names : Names) (words : List Text) (has_subcommand : Bool) (below : Kinds)
    → level_fault s names nothing_held words has_subcommand below ≡ [] → LevelFits s names words has_subcommand below
level_fits s fills names words has_subcommand below e =
    let all = all_filled s.rules fills in
    let end = (walk s.rules names nothing_held words).held in
    let walks = none_of_both (walk_fault s names (walk_from nothing_held) words) _ e in
    let entered = none_of_both below _ walks.1 in
    let settles = none_of_both (settle_fault s.rules s.args_override_self end) _ entered.1 in
    let defaults = none_of_both (defaults_fault (settled s.rules end).rows s.rules) _ settles.1 in
    let well = walk_well s all names words (walk_from nothing_held) walks.0 (tt, tt) in
    record {
      rows = defaults_fit s.rules s.rules all (settled s.rules end).rows defaults.0 (settled_fit s all end settles.0 well.0);
      stops = well.1;
      entered = entered.0;
      checked = defaults.1;
    }

-- ---- the words of a subcommand

module _ (id : Text) (s : Shape) (words : List Text) (e : level_fault s [] nothing_held words false [] ≡ []) (fills : list_all (is_filled s.rules) s.rules ≡ true) where
  fits : LevelFits s [] words false []
  fits = level_fits s fills [] words false [] e

  -- if an id that may be left out is given, it has its first value
  pub leaf_any : IfSome (first_of id (rows_after s.rules [] words)) (Taken s.rules id)
  leaf_any = (has_first s.rules id (rows_after s.rules [] words) fits.rows).0

  -- an id that is required has its first value
  pub leaf_first : list_any (λ (a : Rule). a.required && bytes_eq a.id id) s.rules ≡ true → IsSomeAnd (first_of id (rows_after s.rules [] words)) (Taken s.rules id)
  leaf_first required = (has_first s.rules id (rows_after s.rules [] words) fits.rows).1 (true_from_ne_false _ (λ none.
      let one = Any-from_list_any _ s.rules required in
      let both = and_parts one.1.required _ one.4 in
      let missing = list_any_at (λ (a : Rule). a.required && not (is_given a.id (rows_after s.rules [] words))) s.rules one.0 one.1 one.2
      (rw (one.3, both.0, (bytes_eq-Decides one.1.id id).0 both.1, none) refl) in
      true≢false (sym missing ∙ and_second _ _ (no_check _ _ _ fits.checked).1)))
    where
      and_second : (x b : Bool) → (not (x && false) && b) ≡ false → b ≡ false
      and_second true b e = e
      and_second false b e = e

-- ---- a command with subcommands

module _ (P : Text × List Row → Type 0) where
  -- if a word other than `help` names the subcommand and its words have no fault, its rows have the property `P`
  abbrev pub LeafGives : Shape → Type 0
  LeafGives s = (name : Text) → bytes_eq name (codes "help") ≡ false → answers_to name (label_of s) ≡ true → (words : List Text) → level_fault s [] nothing_held words false [] ≡ []
      → P (rows_at s words)

  leaf_gives : (subs : List Shape) → AllByRecursion LeafGives subs → (name : Text) (words : List Text) → bytes_eq name (codes "help") ≡ false
      → IfSome (find (λ s. answers_to name (label_of s)) subs) (λ s. level_fault s [] nothing_held words false [] ≡ [] → P (rows_at s words))
  leaf_gives [] all name words other = tt
  leaf_gives (s ∷ rest) all name words other =
      cond_both (answers_to name (label_of s)) (Some s) (find (λ s. answers_to name (label_of s)) rest) (λ o. IfSome o (λ s. level_fault s [] nothing_held words false [] ≡ [] → P (rows_at s words)))
      (λ is. all.0 name other is words) (λ _. leaf_gives rest all.1 name words other)

  needed : (o : Option (Text × List Row)) (required : Bool) → required ≡ true → (not (is_some o) && required) ≡ false → IfSome o P → IsSomeAnd o P
  needed (Some x) required needs met gives = gives
  needed None required needs met gives = absurd (true≢false (sym needs ∙ met))

  -- the words of a command that requires a subcommand name one
  pub subcommand_gives : (a : App) (words : List Text) → list_all (is_filled a.top.rules) a.top.rules ≡ true → a.top.subcommand_required ≡ true → a.top.disable_help_subcommand ≡ false
      → AllByRecursion LeafGives a.subs → built_fault a nothing_held words ≡ [] → IsSomeAnd (entered a (stop_after a.top.rules (names_of a) words)) P
  subcommand_gives a words fills needs offers all e =
      let stop = stop_after a.top.rules (names_of a) words in
      let fits = level_fits a.top fills (names_of a) words (is_some (entered a stop)) (entered_fault a stop) e in
      needed (entered a stop) a.top.subcommand_required needs (no_check _ _ _ fits.checked).0 (gives stop fits.stops fits.entered)
    where
      found : (o : Option Shape) (words : List Text) → IfSome o (λ s. level_fault s [] nothing_held words false [] ≡ [] → P (rows_at s words))
          → option_map_or (λ s. level_fault s [] nothing_held words false []) o [] ≡ [] → IfSome (option_map (λ s. rows_at s words) o) P
      found None words gives e = tt
      found (Some s) words gives e = gives e

      gives : (stop : Option (Text × List Text)) → Stops a.top stop → entered_fault a stop ≡ [] → IfSome (entered a stop) P
      gives None other e = tt
      gives (Some p) other e = found (find (λ s. answers_to p.0 (label_of s)) a.subs) p.1 (leaf_gives a.subs all p.0 p.1 (other offers)) e
