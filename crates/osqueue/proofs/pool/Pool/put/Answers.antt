use Rattle.std.proofs.Common.{◌<◌, ap, arith, length}
use Rattle.osqueue.specs.Ordered.{ordered}
use Rattle.osqueue.proofs.Pooling.{pool-filled}
use Rattle.osqueue.proofs.pool.Pool.put.Goals as goal

pub invariant_of-self : goal.invariant_of-self
invariant_of-self g c =
    let some : 0 < c.self.inside.free = omega (arith, c.self.invariant.total, c.requires, ap (λ ps. length (ordered ps)) c.self.view_is) in
    pool-filled g.row.J c.self.inside.places c.self.inside.blanks c.self.inside.free c.args.ready c.self.invariant some
