use Rattle.std.proofs.lemmas.List.{take_more}
use Rattle.ostrace.specs.Parts.{part_text}
use Rattle.ostrace.proofs.Gathering.{Gathers-broken, Gathers-next}
use Rattle.ostrace.proofs.parts.gather_parts.Goals as goal

pub returns-in_err-gather : goal.returns-in_err-gather
returns-in_err-gather g c =
    let more = rw (← c.part-item.is) at (take_more c.args.parts.now c.loop-part.part-index c.part-item.result c.loop-part-test.true) in
    Gathers-broken part_text c.args.parts.now c.loop-part.part-index more _ c.loop-part.invariant c.from_residual.ensures.0 c.in_err-gather.ensures

pub loop-part-preserved : goal.loop-part-preserved
loop-part-preserved g c =
    let more = rw (← c.part-item.is) at (take_more c.args.parts.now c.loop-part.part-index c.part-item.result c.loop-part-test.true) in
    Gathers-next part_text c.args.parts.now c.loop-part.part-index more _ c.loop-part.invariant c.in_ok-gather.ensures
