use Rattle.osvalidate.proofs.table_checks.is_timed.Goals as goal

pub returns-in-Some : goal.returns-in-Some
returns-in-Some c = rw (← c.as_str.ensures, ← c.in-Some.ensures) c.is_timed_by.ensures
