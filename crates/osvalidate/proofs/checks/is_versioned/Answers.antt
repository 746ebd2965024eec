use Rattle.std.proofs.Common.{rules, ◌∙◌}
use Rattle.osvalidate.proofs.Counting.{cores-versioned}
use Rattle.osvalidate.proofs.checks.is_versioned.Goals as goal

pub returns-then-is_between : goal.returns-then-is_between
returns-then-is_between c = c.are_cores_below.ensures ∙ rw (c.as_slice.ensures, c.cores_by-most.ensures.count) (cores-versioned c.args.text.now (search rules))
