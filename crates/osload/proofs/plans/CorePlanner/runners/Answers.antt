use Rattle.std.proofs.{Common.◌∙◌, Common.refl, lemmas.Bool.and_from}
use Rattle.osvalidate.proofs.Counting.{core_shorts}
use Rattle.osload.proofs.plans.CorePlanner.runners.Goals as goal

pub returns : goal.returns
returns c =
    let tasks = c.in_ok-tasks.ensures in
    let isrs = c.in_ok-isrs.ensures in (
      core_shorts c.args.core.now ∙ and_from _ _ (rw c.as_slice.ensures at tasks.0) (rw c.as_slice-2.ensures at isrs.0),
      rw (tasks.1, isrs.1, c.as_slice.ensures, c.as_slice-2.ensures) refl,
      rw (c.and.ensures, tasks.2, isrs.2, c.as_slice.ensures, c.as_slice-2.ensures) refl,
    )
