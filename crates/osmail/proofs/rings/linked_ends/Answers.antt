use Rattle.std.proofs.Common.{◌≡◌, ℕ, List, length, subst, ◌∙◌, ap, arith}
use Rattle.std.proofs.lemmas.List.{length-map}
use Rattle.std.specs.List.{AllByRecursion}
use Rattle.osbase.specs.declared.references.CoreId.{CoreId}
use Rattle.osmail.specs.Rings.{core_of_end, free_at}
use borrow.Author.Count.{below_more}
use Rattle.osmail.proofs.{Making.room_all, Through.all-map}
use Rattle.osmail.proofs.rings.linked_ends.Goals as goal

pub loop-from-preserved : goal.loop-from-preserved
loop-from-preserved c =
    let inv = c.loop-from.invariant in
    let did = c.in_ok-link_each.ensures in
    let was = c.loop-from.ends in
    let new = c.link_each.new.ends in
    let cores = c.args.cores.now in
    let count = ap (λ (cs : List CoreId). length cs) did.cores in (
      omega (arith, count, length-map was.items core_of_end, length-map new.items core_of_end, new.ok.0, was.ok.0, inv.0),
      did.made,
      did.cores ∙ inv.2,
      below_more (λ (i : ℕ). AllByRecursion (λ (d : CoreId). free_at new.items i d ≡ c.args.cap) cores) c.loop-from.from
          (λ i below. all-map (λ (d : CoreId). free_at was.items i d ≡ c.args.cap) (λ (d : CoreId). free_at new.items i d ≡ c.args.cap) cores (λ d free. did.keeps i d free) (inv.3 i below))
          (subst (AllByRecursion (λ (d : CoreId). free_at new.items c.loop-from.from d ≡ c.args.cap)) inv.2 did.room),
    )

pub returns-clause-room : goal.returns-clause-room
returns-clause-room c =
    let inv = c.loop-from.invariant in
    room_all c.loop-from.ends.items c.args.cores.now c.args.cap (λ k within. inv.3 k (omega (arith, within, c.loop-from-test.false, c.len-from-end.ensures, inv.0, c.loop-from.ends.ok.0)))
