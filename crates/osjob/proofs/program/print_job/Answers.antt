use Rattle.std.proofs.Common.{◌≡◌, ◌∙◌, Err, ap, arith, length}
use Rattle.std.proofs.lemmas.Result.{err_from_is_err_and}
use Rattle.oscommand.specs.Jobs.{paths_of}
use Rattle.osjob.proofs.Unread.{unread, listed_paths}
use Rattle.osjob.proofs.program.print_job.Goals as goal

pub returns-in_err-paths : goal.returns-in_err-paths
returns-in_err-paths g c =
    let p = err_from_is_err_and c.from_residual.result c.from_residual.ensures.1 in
    rw (p.1 ∙ ap Err p.2) (unread _ _ c.args.out.now c.args.job.now)

pub returns : goal.returns
returns g c =
    let used = c.print_from.ensures in
    let count : length c.new.result.paths.items ≡ length (paths_of c.args.job.now) =
    rw c.new.ensures.paths (listed_paths c.in_ok-paths.paths.items c.args.job.now c.in_ok-paths.ensures) in
    let none : length c.new.result.files.items ≡ 0 = ap length c.new.ensures.files in
    record {
      files = used.last.files.items;
      prints = rw count at used.comes;
      stops = rw none at used.stops;
      named = omega (arith, none, used.named);
    }
