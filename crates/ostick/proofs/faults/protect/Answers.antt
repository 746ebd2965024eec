use Rattle.std.proofs.Common.{Option, option_map, ap, sym, lit≤}
use Rattle.osbase.specs.declared.histories.Job.{Job}
use Rattle.osacts.specs.{Acts.Acts, Runs.runs, Runs.says, Runs.seen_in}
use Rattle.osacts.proofs.Each.{as_steps}
use Rattle.ostick.specs.Faults.{protects}
use Rattle.ostick.proofs.faults.protect.Goals as goal

pub returns-in-Some : goal.returns-in-Some
returns-in-Some g c =
    let same = ap (λ (o : Option Job). protects (seen_in c.args.state.now) (option_map (λ (j : Job). j.runner) o)) (sym c.in-Some.ensures.value) in
    record {
      steps = as_steps (ap (λ (x : Acts). runs x c.args.state.now) same) (ap (λ (x : Acts). says x c.args.state.now) same) (lit≤ tt) (lit≤ tt) c.protect_from.ensures.steps;
      outbox = c.protect_from.ensures.outbox;
    }
