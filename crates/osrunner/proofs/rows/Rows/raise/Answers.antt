use Rattle.std.proofs.Common.{◌≡◌, false, List, rules, subst, sym}
use Rattle.oscript.specs.Runners.{Row}
use Rattle.osrunner.specs.Rows.{is_occupied}
use Rattle.osrunner.proofs.Counts.{room, taken}
use Rattle.osrunner.proofs.rows.Rows.raise.Goals as goal

pub raise_at-requires : goal.raise_at-requires
raise_at-requires c =
    let free : is_occupied c.args.resource.index c.self.inside.rows.items ≡ false = subst (λ (all : List Row). is_occupied c.args.resource.index all ≡ false) (sym c.self.view_is) c.requires.free in
    record { place = search rules; room = room _ _ c.slot-place.result c.args.resource c.self.invariant (search rules) c.requires.resource free; index = c.requires.resource }

pub invariant_of-self : goal.invariant_of-self
invariant_of-self c =
    let free : is_occupied c.args.resource.index c.self.inside.rows.items ≡ false = subst (λ (all : List Row). is_occupied c.args.resource.index all ≡ false) (sym c.self.view_is) c.requires.free in
    rw (c.raise_at.ensures, c.from.ensures) (taken _ _ c.slot-place.result c.args.resource c.self.invariant (search rules) (search rules) free)
