use Rattle.osmail.proofs.Through.{ring_settled}
use Rattle.osmail.proofs.rings.settle_ring.Goals as goal

pub returns-clause-delivered : goal.returns-clause-delivered
returns-clause-delivered c =
    let looked = c.slots_beside.ensures in
    ring_settled c.args.to.now c.args.from.now c.in-Some.to c.slots_beside.new.producer c.in-Some-from.from c.slots_beside.new.self c.in-Some.is c.in-Some-from.is looked.producer.1 looked.looked.1 looked.fifo
