use Rattle.osvalidate.proofs.table_checks.is_table_within.Goals as goal

pub returns : goal.returns
returns c = rw (← c.as_str.ensures, ← c.counter.ensures) c.is_within.ensures
