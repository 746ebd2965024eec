-- The program's command line, in the terms of `clap`. [own]
use Rattle.std.specs.{Borrow.Bor, Str.bytes_eq, Str.Parse.digits_value, Str.Parse.without_leading_plus}
use Rattle.std.specs.Prelude.{◌≡◌, ◌⊎◌, ◌&&◌, ℕ, Bool, true, false, Option, Some, None, Result, List, [], ◌∷◌, codes, if◌then◌else◌, is_some, map}
use Rattle.clap.specs.{Kinds.or_else, declared.error.Error.Error, declared.error.kind.ErrorKind.TheVariants.ArgumentConflict, declared.builder.ArgAction.TheVariants.Set, declared.builder.ArgAction.TheVariants.SetTrue, declared.builder.ValueParser.ValueParser, declared.builder.ValueParser.TheVariants.Names, declared.builder.ValueParser.TheVariants.Unsigned}
use Rattle.clap.specs.Words.{App, FailsBy, Kinds, Row, Rule, fault_of, first_of, new_app, new_rule, subcommand_of, with_rule, with_subcommand}
use Rattle.osbase.specs.{declared.messages.MailKind.MailKind, declared.messages.MailKind.TheVariants.Ring, declared.messages.MailKind.TheVariants.Locked, declared.references.CoreId.CoreId}
use Rattle.oscommand.specs.{declared.jobs.Job.Job, declared.jobs.Print.Print, declared.jobs.Print.TheVariants.Trace, declared.jobs.Print.TheVariants.Log, declared.jobs.Print.TheVariants.Order, declared.jobs.TheConstants.DEFAULT_TURNS, declared.jobs.TheConstants.MOST_TURNS, Jobs.path_in}
use Rattle.oscommand.specs.declared.jobs.Job.TheVariants.{Run, Check, Cut, Groups, Group, Replay, Threads}

-- The rule of a required argument with this name.
abbrev pub required_rule : List ℕ → Rule
required_rule name = record (new_rule name) { required = true }

-- The rule of an option with this name, which takes a value that `parser` accepts.
abbrev pub option_rule : List ℕ → ValueParser → Rule
option_rule name parser = record (new_rule name) { long = Some name; value_names = 1; action = Some Set; parser = Some parser }

-- The required argument `CFG`: the path of the configuration.
abbrev pub config_rule : Rule
config_rule = required_rule (codes "CFG")

-- The required argument `STIM`: the path of the stimuli.
abbrev pub stimuli_rule : Rule
stimuli_rule = required_rule (codes "STIM")

-- The option `--schedule`, with the path of the schedule.
abbrev pub schedule_rule : Rule
schedule_rule = record (new_rule (codes "schedule")) { long = Some (codes "schedule"); value_names = 1; action = Some Set }

-- The option `--items`, with the number of a core, from 0 to 255.
abbrev pub items_rule : Rule
items_rule = option_rule (codes "items") (Unsigned 0 255)

-- The flag `--order`: its text is `true` if it is given, and else `false`.
abbrev pub order_rule : Rule
order_rule = record (new_rule (codes "order")) { long = Some (codes "order"); action = Some SetTrue }

-- The flag with this text is given.
abbrev pub is_set : Option (List ℕ) → Bool
is_set None = false
is_set (Some text) = bytes_eq text (codes "true")

-- The required argument `LOG`: the path of the log.
abbrev pub log_rule : Rule
log_rule = required_rule (codes "LOG")

-- The option `--turns`, with a number from 1 to 1,000,000,000.
abbrev pub turns_rule : Rule
turns_rule = option_rule (codes "turns") (Unsigned 1 MOST_TURNS)

-- The name of a kind of mail.
abbrev pub mail_name : MailKind → List ℕ
mail_name Ring = codes "ring"
mail_name Locked = codes "locked"

-- The text is the name of a kind of mail.
abbrev pub IsMailName : List ℕ → Type 0
IsMailName text = (text ≡ mail_name Ring) ⊎ (text ≡ mail_name Locked)

-- The borrowed names of the kinds of mail.
abbrev pub MailKinds : Type 0
MailKinds = Bor (List (Bor (List ℕ)))

-- These are the names of the kinds of mail, rings first.
abbrev pub AreMailKinds : MailKinds → Type 0
AreMailKinds kinds = map (λ (name : Bor (List ℕ)). name.now) kinds.now ≡ mail_name Ring ∷ mail_name Locked ∷ []

-- The option `--mail`, with one of these names.
abbrev pub mail_rule : MailKinds → Rule
mail_rule kinds = option_rule (codes "mail") (Names kinds)

-- The required argument `CORE`: the number of a core, from 0 to 255.
abbrev pub core_rule : Rule
core_rule = record (new_rule (codes "CORE")) { required = true; parser = Some (Unsigned 0 255) }

-- `run CFG STIM [--schedule FILE] [--items CORE]`
abbrev pub run_command : App
run_command = with_rule (with_rule (with_rule (with_rule (new_app (codes "run")) config_rule) stimuli_rule) schedule_rule) items_rule

-- `check CFG`
abbrev pub check_command : App
check_command = with_rule (new_app (codes "check")) config_rule

-- `cut CFG CORE`
abbrev pub cut_command : App
cut_command = with_rule (with_rule (new_app (codes "cut")) config_rule) core_rule

-- `groups CFG`
abbrev pub groups_command : App
groups_command = with_rule (new_app (codes "groups")) config_rule

-- `group CFG CORE`
abbrev pub group_command : App
group_command = with_rule (with_rule (new_app (codes "group")) config_rule) core_rule

-- `replay CFG CORE LOG`
abbrev pub replay_command : App
replay_command = with_rule (with_rule (with_rule (new_app (codes "replay")) config_rule) core_rule) log_rule

-- `threads CFG STIM [--turns N] [--mail KIND] [--items CORE] [--order]`
abbrev pub threads_command : MailKinds → App
threads_command kinds =
    with_rule (with_rule (with_rule (with_rule (with_rule (with_rule (new_app (codes "threads")) config_rule) stimuli_rule) turns_rule)
    (mail_rule kinds)) items_rule) order_rule

-- The same command line, in which a subcommand is required.
abbrev pub requires_subcommand : App → App
requires_subcommand app = record app { top = record app.top { subcommand_required = true } }

-- The same command line, with a version to print.
abbrev pub tells_version : App → App
tells_version app = record app { top = record app.top { has_version = true } }

-- Adds the subcommands that read only a configuration.
abbrev pub with_config_commands : App → App
with_config_commands app =
    with_subcommand (with_subcommand (with_subcommand (with_subcommand app check_command.top) cut_command.top) groups_command.top) group_command.top

-- The whole command line of `mcos`, with these names of the kinds of mail.
abbrev pub command_line : MailKinds → App
command_line kinds =
    with_subcommand (with_subcommand (with_config_commands
    (with_subcommand (requires_subcommand (tells_version (new_app (codes "mcos")))) run_command.top)) replay_command.top) (threads_command kinds).top

-- A text is given, and says this number.
pub record SaysNumber (entry : Option (List ℕ)) (number : ℕ) : Type 0 where
  pub text : List ℕ
  pub is_there : entry ≡ Some text
  pub says : digits_value 10 (without_leading_plus text) ≡ number

-- If there is a core, a text is given and says the core's number; else no text is given.
abbrev pub SaysCore : Option (List ℕ) → Option CoreId → Type 0
SaysCore entry None = entry ≡ None
SaysCore entry (Some core) = SaysNumber entry core.number

-- If a text is given, it says the number of turns; else the number is the default.
abbrev pub SaysTurns : Option (List ℕ) → ℕ → Type 0
SaysTurns None turns = turns ≡ DEFAULT_TURNS
SaysTurns (Some text) turns = turns ≡ digits_value 10 (without_leading_plus text)

-- If a text is given, it names the kind of mail; else the kind is rings.
abbrev pub SaysMail : Option (List ℕ) → MailKind → Type 0
SaysMail None mail = mail ≡ Ring
SaysMail (Some text) mail = text ≡ mail_name mail

-- The entries of `--items` and `--order` say what is printed, and at most one of them is given.
abbrev pub SaysPrint : List Row → Print → Type 0
SaysPrint rows Trace = (first_of (codes "items") rows ≡ None) × (is_set (first_of (codes "order") rows) ≡ false)
SaysPrint rows (Log core) = SaysNumber (first_of (codes "items") rows) core.number × (is_set (first_of (codes "order") rows) ≡ false)
SaysPrint rows Order = (first_of (codes "items") rows ≡ None) × (is_set (first_of (codes "order") rows) ≡ true)

-- The entries of a subcommand say what the job holds.
abbrev pub HasEntries : List Row → Job → Type 0
HasEntries rows (Run config stimuli schedule items) =
    (first_of (codes "CFG") rows ≡ Some config.now)
    × (first_of (codes "STIM") rows ≡ Some stimuli.now)
    × (first_of (codes "schedule") rows ≡ path_in schedule)
    × SaysCore (first_of (codes "items") rows) items
HasEntries rows (Check config) = first_of (codes "CFG") rows ≡ Some config.now
HasEntries rows (Cut config core) =
    (first_of (codes "CFG") rows ≡ Some config.now) × SaysNumber (first_of (codes "CORE") rows) core.number
HasEntries rows (Groups config) = first_of (codes "CFG") rows ≡ Some config.now
HasEntries rows (Group config core) =
    (first_of (codes "CFG") rows ≡ Some config.now) × SaysNumber (first_of (codes "CORE") rows) core.number
HasEntries rows (Replay config core log) =
    (first_of (codes "CFG") rows ≡ Some config.now) × SaysNumber (first_of (codes "CORE") rows) core.number
    × (first_of (codes "LOG") rows ≡ Some log.now)
HasEntries rows (Threads config stimuli turns mail print) =
    (first_of (codes "CFG") rows ≡ Some config.now)
    × (first_of (codes "STIM") rows ≡ Some stimuli.now)
    × SaysTurns (first_of (codes "turns") rows) turns
    × SaysMail (first_of (codes "mail") rows) mail
    × SaysPrint rows print

abbrev pub subcommand_name : Job → List ℕ
subcommand_name (Run config stimuli schedule items) = codes "run"
subcommand_name (Check config) = codes "check"
subcommand_name (Cut config core) = codes "cut"
subcommand_name (Groups config) = codes "groups"
subcommand_name (Group config core) = codes "group"
subcommand_name (Replay config core log) = codes "replay"
subcommand_name (Threads config stimuli turns mail print) = codes "threads"

-- The words name the job's subcommand with the job's entries. The first word is the program's name.
pub record AsksFor (words : List (List ℕ)) (job : Job) : Type 0 where
  pub kinds : MailKinds
  pub kinds_are : AreMailKinds kinds
  pub rows : List Row
  pub names : subcommand_of (command_line kinds) words ≡ Some (subcommand_name job, rows)
  pub entries : HasEntries rows job

-- Both `--items` and `--order` are given.
abbrev pub has_items_and_order : List Row → Bool
has_items_and_order rows = is_some (first_of (codes "items") rows) && is_set (first_of (codes "order") rows)

-- The subcommand is `threads`, and both `--items` and `--order` are given.
abbrev pub excludes : Option (List ℕ × List Row) → Bool
excludes None = false
excludes (Some named) = bytes_eq named.0 (codes "threads") && has_items_and_order named.1

-- The fault that `--items` and `--order` exclude each other, if both are given with `threads`; else none.
abbrev pub conflict_in : Option (List ℕ × List Row) → Kinds
conflict_in named = if excludes named then ArgumentConflict ∷ [] else []

-- The faults of the words by the command line, or if there is none, the fault of `conflict_in`.
abbrev pub usage_fault : App → List (List ℕ) → Kinds
usage_fault app words = or_else (fault_of app words) (conflict_in (subcommand_of app words))

-- If there is a job, the words have no fault. An error is one of the words' faults, or says that memory ran out.
pub record FailsByWords (words : List (List ℕ)) (job : Result Job Error) : Type 0 where
  pub kinds : MailKinds
  pub kinds_are : AreMailKinds kinds
  pub fails : FailsBy (usage_fault (command_line kinds) words) job
