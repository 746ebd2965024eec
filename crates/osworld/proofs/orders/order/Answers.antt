use Rattle.std.proofs.Common.{◌≡◌, List, ap, subst, sym, ◌∙◌}
use Rattle.osbase.specs.{declared.references.CoreId.CoreId, declared.turns.Choice.Choice}
use Rattle.osrun.specs.Sound.{lists_in}
use Rattle.osworld.specs.Runs.{AreReports}
use Rattle.osworld.proofs.Ordered.{no_others, ordered}
use Rattle.osworld.proofs.orders.order.Goals as goal

pub returns-then-are_same : goal.returns-then-are_same
returns-then-are_same c =
    let config = c.args.config.now in
    let stimuli = c.args.stimuli.now in
    let listed = c.in-Ok.listed.items in
    let reports = c.args.reports.now in
    let turns = c.in_ok-schedule.schedule in
    let same : lists_in listed ≡ lists_in reports = ap lists_in (sym c.as_slice-2.ensures.value) ∙ c.are_same.ensures.0 c.if-are_same.true in
    let world : AreReports config stimuli turns listed = subst (λ (ts : List (CoreId × Choice)). AreReports config stimuli ts listed) c.as_slice.ensures c.in-Ok.ensures.world in
    record { reports = ordered config stimuli turns listed reports world c.requires.own same; no_others = no_others config stimuli turns listed reports world c.requires.own same }
