use Rattle.osvalidate.proofs.checks.is_alarm_within.Goals as goal

pub returns-in-Some : goal.returns-in-Some
returns-in-Some c = rw (c.in-Some.is, ← c.as_str.ensures, ← c.counter.ensures) c.is_within.ensures
