use Rattle.std.proofs.Common.{◌≡◌, [], ◌∷◌, length, sym, ◌∙◌, append-nil, arith}
use Rattle.std.proofs.{lemmas.Iterator.Adapters.YieldsList-from_vec, lemmas.Iterator.Consumers.YieldsList-end, lemmas.List.map-id, lemmas.List.nil_from_length}
use Rattle.osthreads.proofs.Gathering.{paired-more, paired-none}
use Rattle.osthreads.proofs.runs.pair.Goals as goal

pub loop-board-preserved : goal.loop-board-preserved
loop-board-preserved c more =
    let seats = c.loop-board.seats.items in
    let left = c.loop-board.left.items in
    let none : length left ≡ 0 = omega (arith, c.in_default.ensures.cases.0, c.loop-board.left.ok.0) in
    rw (← c.in_default.ensures.items) (paired-none c.loop-board.yielded c.in-Some.board c.args.spins.items left seats (nil_from_length left none) c.loop-board.invariant more)

pub loop-board-preserved-in-Continue-branch-2 : goal.loop-board-preserved-in-Continue-branch-2
loop-board-preserved-in-Continue-branch-2 c more = rw (c.in_ok-push.ensures.items) (paired-more c.loop-board.yielded more c.in-Some.board c.args.spins.items c.pop_front.new.self.items c.in-Some-pop_front.spins c.loop-board.seats.items (rw c.in-Some-pop_front.ensures.items at (c.loop-board.invariant (c.in-Some.board ∷ more))))

pub returns : goal.returns
returns c =
    let gives = c.into_iter-board-iterator.ensures.into_iter_gives in
    let ends = YieldsList-end (YieldsList-from_vec {s = c.into_iter-board-iterator.result} c.args.board.items gives.0 (gives.1 ∙ c.args.board.ok.0)) c.loop-board.yielded c.loop-board.board-iterator c.loop-board.yielded_by c.next.result c.next.new.self c.in-None.is c.next.ensures.steps in
    let all : c.loop-board.yielded ≡ c.args.board.items = sym (map-id c.loop-board.yielded) ∙ ends.0 in
    sym (rw (append-nil c.loop-board.yielded, all, append-nil c.loop-board.seats.items) at (c.loop-board.invariant []))
