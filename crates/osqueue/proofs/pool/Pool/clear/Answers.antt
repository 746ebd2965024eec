use Rattle.std.proofs.Common.{◌≡◌, true, Option, is_some, List, subst, sym}
use Rattle.osqueue.specs.{declared.ready.Ready.Ready, Links.at}
use Rattle.osqueue.proofs.Pooling.{has-free, pool-cleared}
use Rattle.osqueue.proofs.pool.Pool.clear.Goals as goal

pub bounds-self-inside-free : goal.bounds-self-inside-free
bounds-self-inside-free g c =
    let used : is_some (at c.self.inside.places c.args.place) ≡ true = subst (λ (ps : List (Option Ready)). is_some (at ps c.args.place) ≡ true) (sym c.self.view_is) c.requires in
    has-free g.row.J c.self.inside.places c.self.inside.blanks c.self.inside.free c.args.place c.self.invariant used

pub invariant_of-self : goal.invariant_of-self
invariant_of-self g c =
    let used : is_some (at c.self.inside.places c.args.place) ≡ true = subst (λ (ps : List (Option Ready)). is_some (at ps c.args.place) ≡ true) (sym c.self.view_is) c.requires in
    pool-cleared g.row.J c.self.inside.places c.self.inside.blanks c.self.inside.free c.args.place c.self.invariant c.self.told2 used
