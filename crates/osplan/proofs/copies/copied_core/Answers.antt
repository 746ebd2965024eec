use Rattle.std.proofs.Common.{Result, Ok, Err, rules}
use Rattle.std.specs.Result.{MatchResult, IfOk}
use Rattle.osplan.proofs.copies.copied_core.Goals as goal

if-weaker : {A E : Type 0} (r : Result A E) (P Q : A → Type 0) (N : E → Type 0) → ((a : A) → P a → Q a) → MatchResult r P N → IfOk r Q
if-weaker (Ok a) P Q N imply m = imply a m
if-weaker (Err e) P Q N imply m = tt

-- the copy's parts; the search has to be led to the alarms and the tables
pub returns : goal.returns
returns c = if-weaker c.clone.result _ _ _
    (λ copy parts.
    let alarms = parts.1.1.1.1.1.1.1.1.0 (λ alarm alarm-copy same. search rules) in
    let tables = parts.1.1.1.1.1.1.1.1.1 (λ table table-copy same. let points = same.1.1.1.1.0 (λ point point-copy same-too. search rules) in search rules) in
    search rules)
    c.clone.ensures.cases
