use Rattle.std.proofs.Common.{◌≡◌, [], sym, ◌∙◌, append-nil}
use Rattle.std.proofs.{lemmas.Iterator.Adapters.YieldsList-from_vec, lemmas.Iterator.Consumers.YieldsList-end, lemmas.List.map-id}
use Rattle.osthreads.proofs.runs.equip.Goals as goal

pub returns : goal.returns
returns c =
    let gives = c.into_iter-seats-iterator.ensures.into_iter_gives in
    let ends = YieldsList-end (YieldsList-from_vec {s = c.into_iter-seats-iterator.result} c.args.seats.items gives.0 (gives.1 ∙ c.args.seats.ok.0)) c.loop-seats.yielded c.loop-seats.seats-iterator c.loop-seats.yielded_by c.next.result c.next.new.self c.in-None.is c.next.ensures.steps in
    let all : c.loop-seats.yielded ≡ c.args.seats.items = sym (map-id c.loop-seats.yielded) ∙ ends.0 in
    sym (rw (append-nil c.loop-seats.yielded, all, append-nil c.loop-seats.outfits.items) at (c.loop-seats.invariant []))
