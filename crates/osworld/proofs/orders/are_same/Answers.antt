use Rattle.std.proofs.Common.{◌≡◌, ◌<◌, true, length, sym, ◌∙◌, arith}
use Rattle.std.proofs.lemmas.Bool.{false≢true}
use Rattle.osworld.proofs.Ordered.{same-at}
use Rattle.osworld.proofs.orders.are_same.Goals as goal

pub returns-then-not-is_same : goal.returns-then-not-is_same
returns-then-not-is_same c = (
  λ never. absurd (false≢true never),
  λ same.
      let within : c.loop-i.i < length c.args.right.now = omega (arith, c.loop-i-test.true, c.loop-i.invariant.0) in
      let yes : c.is_same.result ≡ true =
      c.is_same.ensures.1 (same-at c.args.left.now c.args.right.now c.loop-i.i c.index-left-i.result c.index-right-i.result c.index-left-i.is c.index-right-i.is within same) in
      absurd (false≢true (sym c.if-not-is_same.true ∙ yes)),
)
