use Rattle.std.proofs.Common.{◌≡◌, ℕ, length, take, subst, sym, ◌∙◌, ap, arith}
use Rattle.std.proofs.Math.Seq.{take-length}
use Rattle.osmail.specs.Rings.{AreCores}
use Rattle.osmail.proofs.Making.{bare_made}
use Rattle.osmail.proofs.rings.bare_ends.Goals as goal

pub returns-clause-made : goal.returns-clause-made
returns-clause-made c =
    let inv = c.loop-core.invariant in
    let cores = c.args.cores.now in
    let whole : c.loop-core.core-index ≡ length cores = omega (arith, c.loop-core-test.false, c.loop-core.auto.core-index-end) in
    bare_made c.loop-core.ends.items (subst AreCores (sym (inv.0 ∙ ap (λ (n : ℕ). take n cores) whole ∙ take-length cores)) c.requires) inv.1
