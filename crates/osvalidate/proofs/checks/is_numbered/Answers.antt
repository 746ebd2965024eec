use Rattle.std.proofs.Common.{rules, sym, ◌∙◌}
use Rattle.osvalidate.proofs.Counting.{cores-left}
use Rattle.osvalidate.proofs.checks.is_numbered.Goals as goal

pub returns-then-is_between : goal.returns-then-is_between
returns-then-is_between c =
    c.are_cores_within.ensures ∙ rw (c.as_slice.ensures, c.requires.objects) (cores-left c.args.text.now (sym c.is_versioned.ensures ∙ search rules) (search rules) (search rules) (search rules))
