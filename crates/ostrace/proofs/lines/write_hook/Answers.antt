use Rattle.std.proofs.Common.{[], ◌∷◌, codes}
use Rattle.osbase.specs.Words.{status_name}
use Rattle.ostrace_text.specs.Trace.{after_spaces}
use Rattle.ostrace.proofs.Gathering.{Gathers-stop, Gathers-then, spaced-more}
use Rattle.ostrace.proofs.lines.write_hook.Goals as goal

pub returns-in_err-put_pair : goal.returns-in_err-put_pair
returns-in_err-put_pair g c =
    Gathers-stop (after_spaces (status_name c.args.status ∷ [])) _ c.from_residual.ensures.0 c.in_err-put_pair.ensures (spaced-more (codes "hook") (c.args.hook.now ∷ []) (status_name c.args.status))

pub returns : goal.returns
returns g c =
    Gathers-then _ c.in_ok-put_pair.ensures (rw c.name.ensures at c.write_text_after_space.ensures) (spaced-more (codes "hook") (c.args.hook.now ∷ []) (status_name c.args.status))
