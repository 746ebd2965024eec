-- What the entries of a subcommand are if no word has a fault.
use Rattle.std.specs.Prelude.{◌≡◌, ℕ, Bool, true, false, Option, Some, None, List, IfSome, IsSome, IsSomeAnd, codes}
use Rattle.std.specs.Str.{bytes_eq}
use Rattle.clap.specs.Words.{IsUnsignedIn, Row, first_of}
use Rattle.oscommand.specs.CommandLine.{HasEntries, IsMailName, excludes, subcommand_name}
use Rattle.oscommand.specs.{declared.jobs.Job.Job, declared.jobs.TheConstants.MOST_TURNS}

-- The entries of `run`: `CFG` and `STIM` are given. If `--items` is given, it is a number from 0 to 255.
pub record HasRun (rows : List Row) : Type 0 where
  pub config : IsSome (first_of (codes "CFG") rows)
  pub stimuli : IsSome (first_of (codes "STIM") rows)
  pub items : IfSome (first_of (codes "items") rows) (IsUnsignedIn 0 255)

-- The entries of `check` and `groups`: `CFG` is given.
abbrev pub HasConfig : List Row → Type 0
HasConfig rows = IsSome (first_of (codes "CFG") rows)

-- The entries of `cut` and `group`: `CFG` is given, and `CORE`, a number from 0 to 255.
pub record HasConfigAndCore (rows : List Row) : Type 0 where
  pub config : IsSome (first_of (codes "CFG") rows)
  pub core : IsSomeAnd (first_of (codes "CORE") rows) (IsUnsignedIn 0 255)

-- The entries of `replay`: `CFG` and `LOG` are given, and `CORE`, a number from 0 to 255.
pub record HasReplay (rows : List Row) : Type 0 where
  pub config : IsSome (first_of (codes "CFG") rows)
  pub core : IsSomeAnd (first_of (codes "CORE") rows) (IsUnsignedIn 0 255)
  pub log : IsSome (first_of (codes "LOG") rows)

-- The entries of `threads`: `CFG` and `STIM` are given. If `--turns`, `--mail` or `--items` is given, it is a number or
-- a name that this option takes.
pub record HasThreads (rows : List Row) : Type 0 where
  pub config : IsSome (first_of (codes "CFG") rows)
  pub stimuli : IsSome (first_of (codes "STIM") rows)
  pub turns : IfSome (first_of (codes "turns") rows) (IsUnsignedIn 1 MOST_TURNS)
  pub mail : IfSome (first_of (codes "mail") rows) IsMailName
  pub items : IfSome (first_of (codes "items") rows) (IsUnsignedIn 0 255)

-- If the test is true, the first proposition, and otherwise the second.
abbrev pub When : Bool → Type 0 → Type 0 → Type 0
When true this other = this
When false this other = other

-- One of the subcommands is named, and has its entries.
abbrev pub AreChecked : List ℕ × List Row → Type 0
AreChecked named =
    When (bytes_eq named.0 (codes "run")) (HasRun named.1)
    (When (bytes_eq named.0 (codes "check")) (HasConfig named.1)
    (When (bytes_eq named.0 (codes "cut")) (HasConfigAndCore named.1)
    (When (bytes_eq named.0 (codes "groups")) (HasConfig named.1)
    (When (bytes_eq named.0 (codes "group")) (HasConfigAndCore named.1)
    (When (bytes_eq named.0 (codes "replay")) (HasReplay named.1)
    (When (bytes_eq named.0 (codes "threads")) (HasThreads named.1) ⊥))))))

-- The named subcommand is the job's, and its entries are the job's.
pub record IsNamed (named : Option (List ℕ × List Row)) (job : Job) : Type 0 where
  pub rows : List Row
  pub names : named ≡ Some (subcommand_name job, rows)
  pub entries : HasEntries rows job

-- If there is a job, the named subcommand and its entries are the job's (`IsNamed`), and no two entries exclude each
-- other. If there is none, two of the entries exclude each other.
abbrev pub SaysJob : Option (List ℕ × List Row) → Option Job → Type 0
SaysJob named None = excludes named ≡ true
SaysJob named (Some job) = IsNamed named job × (excludes named ≡ false)
