use Rattle.std.proofs.Common.{◌≡◌, Some, rules}
use Rattle.std.specs.List.{slice_get}
use Rattle.osrunner.specs.Rows.{row_at}
use Rattle.osrunner.proofs.Counts.{given, place-of}
use Rattle.osrunner.proofs.rows.Rows.lower.Goals as goal

pub bounds-self-inside-from : goal.bounds-self-inside-from
bounds-self-inside-from c =
    let newest : slice_get (row_at c.slot.result c.self.inside.rows.items).held 0 ≡ Some c.in_ok-resource.resource = search rules in
    let place = place-of _ _ c.slot.result c.in_ok-resource.resource c.self.invariant newest in
    search rules

pub invariant_of-self-2 : goal.invariant_of-self-2
invariant_of-self-2 c =
    let newest : slice_get (row_at c.slot.result c.self.inside.rows.items).held 0 ≡ Some c.in_ok-resource.resource = search rules in
    rw (c.lower_at.ensures.rest, c.from.ensures) (given _ _ c.slot.result c.in_ok-resource.resource c.self.invariant newest)
