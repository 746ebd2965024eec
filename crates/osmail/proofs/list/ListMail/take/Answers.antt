use Rattle.std.proofs.Common.{◌≡◌, ◌-◌, ◌∙◌, arith, rules, length, sym, get_or, length-drop}
use Rattle.std.proofs.lemmas.Option.{slice_get_within}
use Rattle.osbase.specs.declared.limits.TheConstants.{CORES}
use Rattle.osmail.proofs.Counts.{counted-at, counted-set}
use Rattle.osmail.proofs.list.ListMail.take.Goals as goal

pub overflow_sub-self : goal.overflow_sub-self
overflow_sub-self g c =
    let inside = c.self.inside in
    let count = counted-at g.row.CAP inside.cap inside.counts inside.boxes.items c.args.from c.args.to c.place.result c.index_mut.result.now c.requires.sender c.requires.receiver c.self.invariant c.place.ensures.value c.index_mut.ensures.value in
    let some = slice_get_within c.index_mut.result.now 0 c.in_ok-letter.letter (sym c.pop.ensures.oldest ∙ c.in_ok-letter.was) in
    rw c.from.ensures (omega (arith, count.1, some))

pub invariant_of-self-2 : goal.invariant_of-self-2
invariant_of-self-2 g c =
    let inside = c.self.inside in
    let all : length inside.counts ≡ CORES = search rules in
    let count = counted-at g.row.CAP inside.cap inside.counts inside.boxes.items c.args.from c.args.to c.place.result c.index_mut.result.now c.requires.sender c.requires.receiver c.self.invariant c.place.ensures.value c.index_mut.ensures.value in
    let some = slice_get_within c.index_mut.result.now 0 c.in_ok-letter.letter (sym c.pop.ensures.oldest ∙ c.in_ok-letter.was) in
    let shorter : length c.pop.new.self ≡ length c.index_mut.result.now - 1 = rw c.pop.ensures.rest (length-drop 1 c.index_mut.result.now) in
    rw c.from.ensures
    (counted-set g.row.CAP inside.cap inside.counts inside.boxes.items c.args.from c.args.to c.place.result c.index_mut.result.now c.requires.sender c.requires.receiver c.self.invariant c.place.ensures.value c.index_mut.ensures.value
    c.pop.new.self (get_or inside.counts c.args.to.number 0 - 1) all (omega (arith, shorter, count.0)) (omega (arith, shorter, some, count.1)))
