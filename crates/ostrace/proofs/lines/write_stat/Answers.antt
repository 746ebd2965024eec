use Rattle.std.proofs.Common.{Err, Ok, ◌∷◌, [], ◌++◌, codes}
use Rattle.osbase.specs.Words.{service_name}
use Rattle.osplan.specs.Names.{runner_name}
use Rattle.ostrace.specs.Pieces.{text_after_spaces}
use Rattle.ostrace_text.specs.Trace.{after_spaces}
use Rattle.ostrace.proofs.Gathering.{Gathers-stop, Gathers-then, spaced-append, spaced-more, spaced-rest}
use Rattle.ostrace.proofs.lines.write_stat.Goals as goal

pub returns-in_err-put_pair : goal.returns-in_err-put_pair
returns-in_err-put_pair g c =
    let runner = runner_name c.args.names.now c.args.runner in
    let service = service_name c.args.service in
    Gathers-stop (after_spaces (service ∷ []) ++ text_after_spaces c.args.answer.now) _ c.from_residual.ensures.0 (rw c.runner_name.ensures at c.in_err-put_pair.ensures) (spaced-rest (codes "stat") (runner ∷ []) service c.args.answer.now)

pub returns-in_err-write_text_after_space : goal.returns-in_err-write_text_after_space
returns-in_err-write_text_after_space g c =
    let runner = runner_name c.args.names.now c.args.runner in
    let service = service_name c.args.service in
    let two = Gathers-then (Err _) (rw c.runner_name.ensures at c.in_ok-put_pair.ensures) (rw c.name.ensures at c.in_err-write_text_after_space.ensures) (spaced-more (codes "stat") (runner ∷ []) service) in
    Gathers-stop (text_after_spaces c.args.answer.now) _ c.from_residual-in_err-write_text_after_space.ensures.0 two (spaced-append (codes "stat") (runner ∷ service ∷ []) c.args.answer.now)

pub returns : goal.returns
returns g c =
    let runner = runner_name c.args.names.now c.args.runner in
    let service = service_name c.args.service in
    let two = Gathers-then (Ok _) (rw c.runner_name.ensures at c.in_ok-put_pair.ensures) (rw c.name.ensures at c.in_ok-write_text_after_space.ensures) (spaced-more (codes "stat") (runner ∷ []) service) in
    Gathers-then _ two c.write_after_space.ensures (spaced-append (codes "stat") (runner ∷ service ∷ []) c.args.answer.now)
