use Rattle.std.proofs.Common.{inl, inr, ◌<◌, length, ◌∙◌, arith, length-set, get_or-set_same, get_or-set_other}
use Rattle.std.proofs.lemmas.Bool.{cases_eq}
use Rattle.osqueue.proofs.Pooling.{pool-begun}
use Rattle.osqueue.proofs.pool.Pool.new.Goals as goal

pub loop-place-preserved : goal.loop-place-preserved
loop-place-preserved g c = record {
  size = length-set c.loop-place.blanks c.loop-place.place c.loop-place.place ∙ c.loop-place.invariant.size;
  each = λ k below. elim (cases_eq k c.loop-place.place) [
    | inl same ↦ (
        let known : c.loop-place.place < length c.loop-place.blanks = omega (arith, c.loop-place.invariant.size, c.loop-place-test.true) in
        rw same (get_or-set_same c.loop-place.blanks c.loop-place.place c.loop-place.place 0 known))
    | inr other ↦ get_or-set_other c.loop-place.blanks c.loop-place.place k c.loop-place.place 0 other ∙ c.loop-place.invariant.each k (omega (arith, below, other))
  ];
}

pub invariant_of-result : goal.invariant_of-result
invariant_of-result g c = pool-begun g.row.J c.loop-place.blanks (λ k h. c.loop-place.invariant.each k (omega (arith, h, c.loop-place-test.false)))
