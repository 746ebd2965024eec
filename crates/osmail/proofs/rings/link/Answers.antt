use Rattle.std.proofs.Common.{◌<◌, length, arith}
use Rattle.osmail.specs.Rings.{core_of_end}
use Rattle.osmail.proofs.{Making.one_ring_more, Making.place_after, Making.place_for, Through.read_at}
use Rattle.osmail.proofs.rings.link.Goals as goal

pub attach_sender-requires : goal.attach_sender-requires
attach_sender-requires c =
    let ends = c.args.ends.now in
    let within : c.args.from < length ends.items = omega (arith, c.requires.from, ends.ok.0) in
    let within' : c.args.to < length ends.items = omega (arith, c.requires.to, ends.ok.0) in
    place_for ends.items c.args.from c.args.to c.index_mut.result.now c.index-2.result.now within within' c.requires.made c.index_mut.ensures.value c.index-2.ensures

pub attach_taker-requires : goal.attach_taker-requires
attach_taker-requires c =
    let ends = c.args.ends.now in
    let within : c.args.from < length ends.items = omega (arith, c.requires.from, ends.ok.0) in
    let within' : c.args.to < length ends.items = omega (arith, c.requires.to, ends.ok.0) in
    let taker = read_at core_of_end ends.items c.args.to c.index-2.result.now (record { number = 0 }) within' c.index-2.ensures in
    let sent = c.attach_sender.ensures in
    place_after ends.items c.args.from c.args.to c.index_mut.result.now c.attach_sender.new.self c.in_ok-sending.sending within within' c.requires.made c.index_mut.ensures.value sent.core (rw taker sent.to) sent.from
    c.index_mut-2.result.now c.index.result.now c.index_mut-2.ensures.value c.index.ensures

pub returns : goal.returns
returns c =
    let ends = c.args.ends.now in
    let within : c.args.from < length ends.items = omega (arith, c.requires.from, ends.ok.0) in
    let within' : c.args.to < length ends.items = omega (arith, c.requires.to, ends.ok.0) in
    let sender = read_at core_of_end ends.items c.args.from c.index.result.now (record { number = 0 }) within c.index.ensures in
    let taker = read_at core_of_end ends.items c.args.to c.index-2.result.now (record { number = 0 }) within' c.index-2.ensures in
    let ring = c.in_ok-sending.ensures in
    let sent = c.attach_sender.ensures in
    let took = c.attach_taker.ensures in
    let after = one_ring_more ends.items c.args.from c.args.to c.index_mut.result.now c.attach_sender.new.self c.in_ok-sending.sending within within' c.requires.made c.index_mut.ensures.value sent.core (rw taker sent.to) sent.from
    c.index_mut-2.result.now c.attach_taker.new.self c.in_ok-sending.taking c.index_mut-2.ensures.value took.core took.to (rw sender took.from) ring.pair ring.producer.0 ring.consumer.0 in
    let free = after.2 c.args.cap ring.producer.1 in
    record { made = after.0; cores = after.1; keeps = free.0; room = free.1 }
