use Rattle.std.proofs.Common.{◌≡◌, ◌+◌, ◌∷◌, [], arith, rules, length, get_or, length-append}
use Rattle.osbase.specs.declared.limits.TheConstants.{CORES}
use Rattle.osmail.proofs.Counts.{counted-at, counted-set}
use Rattle.osmail.proofs.list.ListMail.send.Goals as goal

pub overflow_add-self : goal.overflow_add-self
overflow_add-self g c =
    let inside = c.self.inside in
    let count = counted-at g.row.CAP inside.cap inside.counts inside.boxes.items c.args.from c.args.to c.place.result c.index_mut-letters.result.now c.requires.sender c.requires.receiver c.self.invariant c.place.ensures.value c.index_mut-letters.ensures.value in
    rw c.from.ensures (omega (arith, count.2, c.self.invariant.0.few))

pub invariant_of-self-2 : goal.invariant_of-self-2
invariant_of-self-2 g c =
    let inside = c.self.inside in
    let all : length inside.counts ≡ CORES = search rules in
    let longer : length c.push.new.self ≡ length c.index_mut-letters.result.now + 1 = rw c.push.ensures (length-append c.index_mut-letters.result.now (c.args.envelope.letter ∷ [])) in
    rw c.from.ensures
    (counted-set g.row.CAP inside.cap inside.counts inside.boxes.items c.args.from c.args.to c.place.result c.index_mut-letters.result.now c.requires.sender c.requires.receiver c.self.invariant c.place.ensures.value c.index_mut-letters.ensures.value
    c.push.new.self (get_or inside.counts c.args.to.number 0 + 1) all (omega (arith, longer, c.len.ensures, c.if-len-cap.false)) (omega (arith, longer)))
