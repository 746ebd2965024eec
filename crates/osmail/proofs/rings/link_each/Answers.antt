use Rattle.std.proofs.Common.{◌≡◌, List, length, map, take, get_or, subst, ◌∙◌, ap, arith}
use Rattle.std.proofs.lemmas.List.{length-map}
use Rattle.osbase.specs.declared.references.CoreId.{CoreId}
use Rattle.osmail.specs.Rings.{core_of_end, free_at}
use Rattle.osmail.proofs.{Making.room_more, Through.all-map}
use Rattle.osmail.proofs.rings.link_each.Goals as goal

pub loop-to-preserved : goal.loop-to-preserved
loop-to-preserved c =
    let inv = c.loop-to.invariant in
    let did = c.in_ok-link.ensures in
    let was = c.args.ends.now in
    let new = c.link.new.ends in
    let cores = map core_of_end was.items in
    let same : map core_of_end new.items ≡ cores = did.cores ∙ inv.2 in
    let count = ap (λ (cs : List CoreId). length cs) same in
    let places = length-map was.items core_of_end in
    let one = subst (λ (cs : List CoreId). free_at new.items c.args.from (get_or cs c.loop-to.to (record { number = 0 })) ≡ c.args.cap) inv.2 did.room in (
      omega (arith, count, places, length-map new.items core_of_end, new.ok.0, was.ok.0),
      did.made,
      same,
      λ i d free. did.keeps i d (inv.3 i d free),
      room_more (λ (d : CoreId). free_at new.items c.args.from d ≡ c.args.cap) cores c.loop-to.to (omega (arith, c.loop-to-test.true, c.len-to-end.ensures, places, was.ok.0))
          (all-map (λ (d : CoreId). free_at c.loop-to.ends.items c.args.from d ≡ c.args.cap) (λ (d : CoreId). free_at new.items c.args.from d ≡ c.args.cap) (take c.loop-to.to cores) (λ d free. did.keeps c.args.from d free) inv.4) one,
    )
