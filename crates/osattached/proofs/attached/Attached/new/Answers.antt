use Rattle.std.proofs.Common.{[], ap, length-set, refl, rules, arith, ◌∙◌}
use Rattle.std.proofs.lemmas.List.{length-replicate}
use Rattle.osattached.specs.Attached.{firsts_by}
use Rattle.osattached.proofs.Members.{few-more, firsts-more, firsts-none, none-few}
use Rattle.osattached.proofs.attached.Attached.new.Goals as goal

pub loop-index-init : goal.loop-index-init
loop-index-init g c = rw c.none-attached.ensures (record {
  firsts = (λ core goes ref each. firsts-none core c.args.counters goes ref c.args.counters refl);
  many = length-replicate c.args.counters [];
  few = none-few _ c.args.counters;
})

pub attach-requires : goal.attach-requires
attach-requires g c =
    let inside = c.requires.own c.loop-index.index c.object-reference.result (omega arith) c.object-reference.ensures in
    (search rules, record { known = omega (arith, c.loop-index.invariant.many, inside); room = omega (arith, c.loop-index.invariant.few c.object-reference.result.0.index) })

pub loop-index-preserved : goal.loop-index-preserved
loop-index-preserved g c =
    let inside = c.requires.own c.loop-index.index c.object-reference.result (omega arith) c.object-reference.ensures in
    rw c.attach.ensures (record {
      firsts = (λ core goes ref each.
          let next = each c.loop-index.index c.object-reference.result (omega arith) c.object-reference.ensures in
          rw (c.loop-index.invariant.firsts core goes ref each) (firsts-more core c.args.counters goes ref c.loop-index.index c.object-reference.result.0 c.object-reference.result.1 next (record { ref = next.on; inside = inside })));
      many = length-set c.loop-index.attached c.object-reference.result.0.index _ ∙ c.loop-index.invariant.many;
      few = few-more c.loop-index.attached c.object-reference.result.0.index c.loop-index.index c.object-reference.result.1 c.loop-index.invariant.few;
    })

pub returns : goal.returns
returns g c core goes ref each =
    c.loop-index.invariant.firsts core goes ref each ∙ ap (firsts_by core c.args.counters goes ref) (omega (arith, c.loop-index-test.false, c.loop-index.auto.index-end))
