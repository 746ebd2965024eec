use Rattle.std.proofs.Common.{◌≡◌, ◌<◌, length, subst, sym, ◌∙◌, arith}
use Rattle.osmail.specs.Rings.{AreBothLinked, EndId, EndPast, IsDelivered, IsLinked, end_id, past_of}
use Rattle.osmail.proofs.{Through.each_more, Through.other_linked, Through.read_same, rings.settle_each.Goals.After-index_mut-other}
use Rattle.osmail.proofs.rings.settle_each.Goals as goal

-- the two ends are linked both ways
linked : (c : After-index_mut-other) → (c.loop-i.i < length c.loop-i.others.items) × AreBothLinked (end_id c.args.one.now) (end_id c.index_mut-other.result.now)
linked c =
    let inv = c.loop-i.invariant in
    let within : c.loop-i.i < length c.loop-i.others.items = omega (arith, c.loop-i-test.true, c.loop-i.auto.i-end, c.len-i-end.ensures, inv.0, c.loop-i.others.ok.0) in
    (within, other_linked (end_id c.args.one.now) c.args.others.now.items c.loop-i.others.items c.loop-i.i c.index_mut-other.result.now within c.index_mut-other.ensures.value inv.3 c.requires)

pub settle-requires : goal.settle-requires
settle-requires c = subst (λ (a : EndId). IsLinked a (end_id c.index_mut-other.result.now)) (sym c.loop-i.invariant.1) (linked (goal.at.settle-requires c).After-index_mut-other).1.0

pub settle-requires-in-loop-i : goal.settle-requires-in-loop-i
settle-requires-in-loop-i c =
    subst (λ (a : EndId). IsLinked a (end_id c.settle.new.sender)) (sym c.settle.ensures.taker.0)
    (subst (λ (b : EndId). IsLinked (end_id c.index_mut-other.result.now) b) (sym (c.settle.ensures.sender.0 ∙ c.loop-i.invariant.1)) (linked (goal.at.settle-requires-in-loop-i c).After-index_mut-other).1.1)

pub loop-i-preserved : goal.loop-i-preserved
loop-i-preserved c =
    let inv = c.loop-i.invariant in
    let now = c.loop-i.others.items in
    let other = c.index_mut-other.result.now in
    let there = c.index_mut-other.ensures.value in
    let to = c.settle.ensures in
    let from = c.settle-in-loop-i.ensures in
    let within = (linked (goal.at.loop-i-preserved c).After-index_mut-other).0 in
    let one : past_of c.settle.new.sender ≡ past_of c.args.one.now = to.sender.1 ∙ inv.2 in (
      inv.0,
      from.taker.0 ∙ to.sender.0 ∙ inv.1,
      from.taker.1 ∙ one,
      read_same end_id now c.loop-i.i other c.settle-in-loop-i.new.sender within there (from.sender.0 ∙ to.taker.0) ∙ inv.3,
      read_same past_of now c.loop-i.i other c.settle-in-loop-i.new.sender within there (from.sender.1 ∙ to.taker.1) ∙ inv.4,
      each_more (past_of c.args.one.now) c.args.others.now.items now c.loop-i.i other within there inv.4 inv.5 (
        subst (λ (p : EndPast). IsDelivered p (past_of other)) inv.2 to.delivered,
        subst (λ (p : EndPast). IsDelivered (past_of other) p) one (subst (λ (p : EndPast). IsDelivered p (past_of c.settle.new.sender)) to.taker.1 from.delivered),
      ),
    )
