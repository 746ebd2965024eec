use Rattle.std.proofs.Common.{◌<◌, length, ◌∷◌, [], ◌++◌, List, ap, sym, ◌∙◌, arith}
use Rattle.osbase.specs.declared.turns.Report.{Report}
use Rattle.osrun.specs.CoreRuns.{report_of}
use Rattle.osworld.proofs.worlds.report_each.Goals as goal
use Rattle.osworld.proofs.Reporting.{one-more, others}

pub loop-core_run-preserved : goal.loop-core_run-preserved
loop-core_run-preserved c =
    let as-many = c.loop-core_run.auto.core_runs in
    let within : c.loop-core_run.core_run-index < length c.loop-core_run.core_runs = omega (arith, c.loop-core_run-test.true, as-many) in
    let here = c.report.ensures ∙ ap report_of (sym c.core_run-item.is) in (
      c.push_reserved.ensures.items
          ∙ ap (λ (r : Report). c.loop-core_run.reports.items ++ r ∷ []) here
          ∙ ap (λ (rs : List Report). rs ++ report_of c.core_run-item.result ∷ []) c.loop-core_run.invariant.0
          ∙ sym (one-more report_of c.args.core_runs.now c.loop-core_run.core_runs c.loop-core_run.core_run-index c.core_run-item.result as-many within c.loop-core_run.invariant.1 c.core_run-item.is),
      others report_of c.args.core_runs.now c.loop-core_run.core_runs c.loop-core_run.core_run-index c.core_run-item.result as-many within c.loop-core_run.invariant.1 c.core_run-item.is c.report.new.self,
      omega (arith, c.push_reserved.ensures.len, c.push_reserved.ensures.capacity, c.loop-core_run.invariant.2, c.loop-core_run-test.true),
    )
