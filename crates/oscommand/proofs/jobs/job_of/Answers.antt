use Rattle.std.proofs.Common.{refl, sym, subst, Bool, cond, true, false, inl, inr, ap, ◌≡◌, ◌∙◌, List, [], ◌∷◌, Option, Result, Ok, Err, map}
use Rattle.std.specs.{Prelude.IfOk, Prelude.IsSomeAnd, declared.alloc.AllocError.AllocError}
use Rattle.std.proofs.lemmas.Result.{err_from_is_err_and}
use Rattle.clap.specs.{declared.builder.command.Command.Command, declared.error.Error.Error, declared.error.kind.ErrorKind.TheVariants.ArgumentConflict, declared.error.kind.ErrorKind.TheVariants.OutOfMemory, declared.parser.matches.ArgMatches.ArgMatches}
use Rattle.clap.specs.Words.{App, HasKind, HasMatchesOf, Kinds, Row, Text, app_of, fault_of, is_simple, is_simple_and_free, kind_of, subcommand_of, subcommand_rows_of}
use Rattle.clap.proofs.{FaultLemmas.first_fails, FaultLemmas.past, OnLiterals.clap_on_literals}
use Rattle.oscommand.specs.{declared.jobs.Job.Job, Entries.AreChecked, Entries.IsNamed}
use Rattle.oscommand.specs.CommandLine.{AreMailKinds, AsksFor, FailsByWords, MailKinds, command_line, excludes, usage_fault}
use Rattle.oscommand.proofs.Usage.{names_job}
use Rattle.oscommand.proofs.jobs.job_of.Goals as goal

-- the program's command line is one whose matches and faults are known
is_known : (kinds : MailKinds) → is_simple (command_line kinds) ≡ true
unfolding clap_on_literals
is_known kinds = refl

is_free : (kinds : MailKinds) → is_simple_and_free (command_line kinds) ≡ true
unfolding clap_on_literals
is_free kinds = refl

has_fault : (kinds : MailKinds) → AreMailKinds kinds → (app : App) → app ≡ command_line kinds → (words : List Text) (error : Error)
    → (is_simple_and_free app ≡ true → HasKind (fault_of app words) error) → FailsByWords words (Err error)
has_fault kinds are app is words error fails = record {
  kinds = kinds;
  kinds_are = are;
  fails = first_fails _ _ (kind_of error) (subst (λ (a : App). is_simple_and_free a ≡ true → HasKind (fault_of a words) error) is fails (is_free kinds));
}

-- for any words, the error may be that memory ran out
has_no_memory : (kinds : MailKinds) → AreMailKinds kinds → (made : Result Command AllocError) → IfOk made (λ command. app_of command ≡ command_line kinds)
    → (words : List Text) (error : Error) → kind_of error ≡ OutOfMemory → FailsByWords words (Err error)
has_no_memory kinds are made is words error out = record { kinds = kinds; kinds_are = are; fails = inl out }

-- what `clap` says of a parse that succeeds
record Succeeds (kinds : MailKinds) (words : List Text) (m : ArgMatches) : Type 0 where
  rows : subcommand_rows_of m ≡ subcommand_of (command_line kinds) words
  faultless : fault_of (command_line kinds) words ≡ []

parsed : (kinds : MailKinds) (app : App) (words : List Text) (m : ArgMatches) → app ≡ command_line kinds → HasMatchesOf app words m
    → (is_simple_and_free app ≡ true → fault_of app words ≡ []) → Succeeds kinds words m
parsed kinds app words m is matches faults = record {
  rows = (subst (λ (a : App). HasMatchesOf a words m) is matches (is_known kinds)).1;
  faultless = subst (λ (a : App). is_simple_and_free a ≡ true → fault_of a words ≡ []) is faults (is_free kinds);
}

module _ (kinds : MailKinds) (are : AreMailKinds kinds) (words : List Text) (m : ArgMatches) (parse : Succeeds kinds words m) where
  has_job : IsSomeAnd (subcommand_rows_of m) AreChecked
  has_job = subst (λ (o : Option (Text × List Row)). IsSomeAnd o AreChecked) (sym parse.rows) (names_job kinds are words parse.faultless)

  -- the entries are what the words ask for
  asks_for : (job : Job) → IsNamed (subcommand_rows_of m) job → AsksFor words job
  asks_for job named = record { kinds = kinds; kinds_are = are; rows = named.rows; names = sym parse.rows ∙ named.names; entries = named.entries }

  -- the words have at most one fault: that two entries exclude each other
  usage_of : (b : Bool) → excludes (subcommand_rows_of m) ≡ b → usage_fault (command_line kinds) words ≡ cond b (ArgumentConflict ∷ []) []
  usage_of b e = past _ _ parse.faultless ∙ ap (λ (both : Bool). cond both (ArgumentConflict ∷ []) []) (ap excludes (sym parse.rows) ∙ e)

  has_none : excludes (subcommand_rows_of m) ≡ false → (job : Job) → FailsByWords words (Ok job)
  has_none none job = record { kinds = kinds; kinds_are = are; fails = usage_of false none }

  has_conflict : excludes (subcommand_rows_of m) ≡ true → (error : Error) → kind_of error ≡ ArgumentConflict → FailsByWords words (Err error)
  has_conflict both error is = record { kinds = kinds; kinds_are = are; fails = subst (λ (fault : Kinds). HasKind fault error) (sym (usage_of true both)) (inr (inl is)) }

pub returns-in_err-command-clause-fault : goal.returns-in_err-command-clause-fault
returns-in_err-command-clause-fault g c =
    let p = err_from_is_err_and c.from_residual.result c.from_residual.ensures.1 in
    rw p.1 (has_no_memory _ refl _ c.command.ensures _ p.0 p.2)

pub returns-in_err-matches-clause-fault : goal.returns-in_err-matches-clause-fault
returns-in_err-matches-clause-fault g c =
    let p = err_from_is_err_and c.from_residual-in_err-matches.result c.from_residual-in_err-matches.ensures.1 in
    rw (p.1, p.2) (has_fault _ refl _ c.in_ok-command.ensures _ _ c.in_err-matches.ensures.kinds)

pub job_in-requires : goal.job_in-requires
job_in-requires g c = has_job _ refl (map g.S.AsStr.text c.args.words.now) _ (parsed _ _ _ _ c.in_ok-command.ensures c.in_ok-matches.ensures.matches c.in_ok-matches.ensures.kinds)

pub returns-in-Some-clause-job : goal.returns-in-Some-clause-job
returns-in-Some-clause-job g c =
    let parse = parsed _ _ (map g.S.AsStr.text c.args.words.now) _ c.in_ok-command.ensures c.in_ok-matches.ensures.matches c.in_ok-matches.ensures.kinds in
    asks_for _ refl _ _ parse c.in-Some.job c.in-Some.ensures.0

pub returns-in-Some-clause-fault : goal.returns-in-Some-clause-fault
returns-in-Some-clause-fault g c =
    let parse = parsed _ _ (map g.S.AsStr.text c.args.words.now) _ c.in_ok-command.ensures c.in_ok-matches.ensures.matches c.in_ok-matches.ensures.kinds in
    has_none _ refl _ _ parse c.in-Some.ensures.1 c.in-Some.job

pub returns-in_err-conflict-in-None-clause-fault : goal.returns-in_err-conflict-in-None-clause-fault
returns-in_err-conflict-in-None-clause-fault g c =
    let p = err_from_is_err_and c.from_residual-in_err-conflict-in-None.result c.from_residual-in_err-conflict-in-None.ensures.1 in
    rw p.1 (has_no_memory _ refl _ c.command.ensures _ p.0 p.2)

pub returns-clause-fault : goal.returns-clause-fault
returns-clause-fault g c =
    let parse = parsed _ _ (map g.S.AsStr.text c.args.words.now) _ c.in_ok-command.ensures c.in_ok-matches.ensures.matches c.in_ok-matches.ensures.kinds in
    has_conflict _ refl _ _ parse c.in-None.ensures c.in_ok-conflict-in-None.field-0 c.in_ok-conflict-in-None.ensures
