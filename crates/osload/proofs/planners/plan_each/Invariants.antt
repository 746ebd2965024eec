use Rattle.std.proofs.Common.{◌≡◌, true, map, take}
use Rattle.std.specs.List.{list_all}
use Rattle.osvalidate.specs.Verdict.{each}
use Rattle.osload.proofs.planners.plan_each.Given as goal

abbrev pub invariant-loop-text : goal.invariant-loop-text
invariant-loop-text g l = record {
  shorts : list_all (g.P.Planner.is_short l.planner) (take l.text-index l.texts) ≡ true;
  made : l.plans ≡ map (g.P.Planner.made l.planner) (take l.text-index l.texts);
  right : l.verdict ≡ each (g.P.Planner.right l.planner) (take l.text-index l.texts);
}
