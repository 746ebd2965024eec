-- What the words of the program's command line give, where they have no fault.
use Rattle.std.proofs.Common.{◌≡◌, ◌∙◌, ◌||◌, Bool, true, false, true≢false, refl, ap, sym, inl, inr, codes, List, [], ◌∷◌, map}
use Rattle.std.specs.{Borrow.Bor, List.AllByRecursion, List.list_any, Str.bytes_eq}
use Rattle.std.specs.Prelude.{IfSome, IsSome, IsSomeAnd, Option, None, Some}
use Rattle.std.proofs.lemmas.Slice.Eq.{bytes_eq-Decides}
use Rattle.clap.specs.{Faults.level_fault, ValueTests.accepts, Walk.nothing_held, declared.builder.ValueParser.TheVariants.Unsigned}
use Rattle.clap.specs.Simple.{App, Shape, built, built_leaf, new_app, rows_at, with_rule}
use Rattle.clap.specs.Words.{IsUnsignedIn, Text, fault_of, same_text, subcommand_of}
use Rattle.clap.proofs.ValueTestLemmas.{accepts-Accepts}
use Rattle.oscommand.specs.CommandLine.{AreMailKinds, IsMailName, MailKinds, command_line, config_rule, core_rule, replay_command, run_command, threads_command}
use Rattle.oscommand.specs.declared.jobs.TheConstants.{MOST_TURNS}
use Rattle.oscommand.specs.Entries.{AreChecked, HasConfig, HasConfigAndCore, HasReplay, HasRun, HasThreads}
use Rattle.oscommand.proofs.{Parsed.LeafGives, Parsed.leaf_any, Parsed.leaf_first, Parsed.subcommand_gives}

-- a disjunction with `false` holds only if its first part holds
alone : (b : Bool) → (b || false) ≡ true → b ≡ true
alone true e = refl
alone false e = e

-- ---- the kinds of mail

-- a text equals one of the borrowed names exactly if it equals one of their texts
named : (names : List (Bor Text)) (text : Text)
    → list_any (λ (name : Bor Text). same_text false name.now text) names ≡ list_any (λ t. bytes_eq t text) (map (λ (name : Bor Text). name.now) names)
named [] text = refl
named (name ∷ rest) text = ap (λ (b : Bool). bytes_eq name.now text || b) (named rest text)

one_of_two : (text : Text) (ring locked : Bool) → bytes_eq (codes "ring") text ≡ ring → bytes_eq (codes "locked") text ≡ locked
    → (ring || (locked || false)) ≡ true → IsMailName text
one_of_two text true locked is_ring is_locked e = inl (sym ((bytes_eq-Decides (codes "ring") text).0 is_ring))
one_of_two text false true is_ring is_locked e = inr (sym ((bytes_eq-Decides (codes "locked") text).0 is_locked))
one_of_two text false false is_ring is_locked e = absurd (true≢false (sym e))

names_kind : (kinds : MailKinds) → AreMailKinds kinds → (text : Text) → list_any (λ (name : Bor Text). same_text false name.now text) kinds.now ≡ true → IsMailName text
names_kind kinds are text e = one_of_two text _ _ refl refl (ap (list_any (λ t. bytes_eq t text)) (sym are) ∙ sym (named kinds.now text) ∙ e)

-- ---- what each subcommand has

abbrev IsAccepted : Shape → List Text → Type 0
IsAccepted leaf words = level_fault leaf [] nothing_held words false [] ≡ []

-- if some text passes, there is a text
is_there : (P : Text → Type 0) (o : Option Text) → IsSomeAnd o P → IsSome o
is_there P None h = absurd h
is_there P (Some v) h = refl

weaker : {P Q : Text → Type 0} → ((v : Text) → P v → Q v) → (o : Option Text) → IfSome o P → IfSome o Q
weaker f None h = tt
weaker f (Some v) h = f v h

strengthened : {P Q : Text → Type 0} → ((v : Text) → P v → Q v) → (o : Option Text) → IsSomeAnd o P → IsSomeAnd o Q
strengthened f None h = absurd h
strengthened f (Some v) h = f v h

-- a text that a parser of unsigned numbers takes is a number in the parser's range
in_range : (low high : _) (text : Text) → (accepts false (Unsigned low high) text || false) ≡ true → IsUnsignedIn low high text
in_range low high text e = accepts-Accepts false (Unsigned low high) text (alone _ e)

abbrev leaf : App → Shape
leaf command = built_leaf command.top

run_has : (words : List Text) → IsAccepted (leaf run_command) words → HasRun (rows_at (leaf run_command) words).1
run_has words e = record {
  config = is_there _ _ (leaf_first (codes "CFG") _ words e refl refl);
  stimuli = is_there _ _ (leaf_first (codes "STIM") _ words e refl refl);
  items = weaker (in_range 0 255) _ (leaf_any (codes "items") _ words e refl);
}

-- `check` and `groups`
abbrev with_config : Text → App
with_config name = with_rule (new_app name) config_rule

config_has : (name : Text) (words : List Text) → IsAccepted (leaf (with_config name)) words → HasConfig (rows_at (leaf (with_config name)) words).1
config_has name words e = is_there _ _ (leaf_first (codes "CFG") _ words e refl refl)

-- `cut` and `group`
abbrev with_core : Text → App
with_core name = with_rule (with_config name) core_rule

core_has : (name : Text) (words : List Text) → IsAccepted (leaf (with_core name)) words → HasConfigAndCore (rows_at (leaf (with_core name)) words).1
core_has name words e = record {
  config = is_there _ _ (leaf_first (codes "CFG") _ words e refl refl);
  core = strengthened (in_range 0 255) _ (leaf_first (codes "CORE") _ words e refl refl);
}

replay_has : (words : List Text) → IsAccepted (leaf replay_command) words → HasReplay (rows_at (leaf replay_command) words).1
replay_has words e = record {
  config = is_there _ _ (leaf_first (codes "CFG") _ words e refl refl);
  core = strengthened (in_range 0 255) _ (leaf_first (codes "CORE") _ words e refl refl);
  log = is_there _ _ (leaf_first (codes "LOG") _ words e refl refl);
}

threads_has : (kinds : MailKinds) → AreMailKinds kinds → (words : List Text) → IsAccepted (leaf (threads_command kinds)) words → HasThreads (rows_at (leaf (threads_command kinds)) words).1
threads_has kinds are words e = record {
  config = is_there _ _ (leaf_first (codes "CFG") _ words e refl refl);
  stimuli = is_there _ _ (leaf_first (codes "STIM") _ words e refl refl);
  turns = weaker (in_range 1 MOST_TURNS) _ (leaf_any (codes "turns") _ words e refl);
  mail = weaker (λ v ok. names_kind kinds are v (alone _ ok)) _ (leaf_any (codes "mail") _ words e refl);
  items = weaker (in_range 0 255) _ (leaf_any (codes "items") _ words e refl);
}

no_help : (name : Text) → bytes_eq name (codes "help") ≡ false → (bytes_eq (codes "help") name || false) ≡ true → ⊥
no_help name other is =
    true≢false (sym ((bytes_eq-Decides name (codes "help")).1 (sym ((bytes_eq-Decides (codes "help") name).0 (alone _ is)))) ∙ other)

gives : (s : Shape) → ((words : List Text) → IsAccepted s words → AreChecked (rows_at s words)) → LeafGives AreChecked s
gives s has name other is words e = has words e

jobs_give : (kinds : MailKinds) → AreMailKinds kinds → AllByRecursion (LeafGives AreChecked) (built (command_line kinds)).subs
jobs_give kinds are =
    let run = gives _ run_has in
    let check = gives _ (config_has (codes "check")) in
    let cut = gives _ (core_has (codes "cut")) in
    let groups = gives _ (config_has (codes "groups")) in
    let group = gives _ (core_has (codes "group")) in
    let replay = gives _ replay_has in
    let threads = gives _ (threads_has kinds are) in
    (run, (check, (cut, (groups, (group, (replay, (threads, ((λ name other is words e. absurd (no_help name other is)), tt))))))))

-- the words name one of the subcommands, and give its required arguments
pub names_job : (kinds : MailKinds) → AreMailKinds kinds → (words : List Text) → fault_of (command_line kinds) words ≡ [] → IsSomeAnd (subcommand_of (command_line kinds) words) AreChecked
names_job kinds are words e = subcommand_gives AreChecked (built (command_line kinds)) _ refl refl refl (jobs_give kinds are) e
