use Rattle.std.proofs.Common.{map, subst, sym}
use Rattle.std.specs.List.{AllByRecursion}
use Rattle.osmail.specs.Rings.{AreBothLinked, AreLinked, EndId, end_id}
use Rattle.osmail.proofs.Through.{last_gathered, last_linked}
use Rattle.osmail.proofs.rings.RingMail.gather.Goals as goal

pub settle_own-requires : goal.settle_own-requires
settle_own-requires g c =
    let linked = last_linked c.loop-last.ends.items c.pop.new.self.items c.in-Some.last c.in-Some.ensures.items c.loop-last.invariant.0 in
    linked.2

pub settle_each-requires : goal.settle_each-requires
settle_each-requires g c =
    let linked = last_linked c.loop-last.ends.items c.pop.new.self.items c.in-Some.last c.in-Some.ensures.items c.loop-last.invariant.0 in
    subst (λ (a : EndId). AllByRecursion (AreBothLinked a) (map end_id c.pop.new.self.items)) (sym c.settle_own.ensures.same.0) linked.1

pub loop-last-preserved : goal.loop-last-preserved
loop-last-preserved g c =
    let linked = last_linked c.loop-last.ends.items c.pop.new.self.items c.in-Some.last c.in-Some.ensures.items c.loop-last.invariant.0 in (
      subst AreLinked (sym c.settle_each.ensures.ids) linked.0,
      λ rest. c.loop-last.invariant.1 (last_gathered c.loop-last.ends.items c.pop.new.self.items c.settle_each.new.others.items c.in-Some.last c.settle_own.new.end c.in-Some.ensures.items c.settle_own.ensures.same.1 c.settle_each.ensures.pasts c.settle_own.ensures.delivered c.settle_each.ensures.delivered rest),
    )
