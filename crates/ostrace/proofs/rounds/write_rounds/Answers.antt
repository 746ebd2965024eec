use Rattle.std.proofs.Common.{◌*◌}
use Rattle.ostrace.specs.declared.rounds.TheConstants.{PARTS}
use Rattle.ostrace.proofs.Joined.{Writes-part_broken, Wrote-more, next_round}
use Rattle.ostrace.proofs.rounds.write_rounds.Goals as goal

pub returns-in_err-write_round : goal.returns-in_err-write_round
returns-in_err-write_round g c =
    Writes-part_broken c.args.parts.now (c.loop-at.at * PARTS) PARTS _ _ _ _ _ c.loop-at.invariant _ _ c.from_residual.ensures.0 (rw c.round_of.ensures at c.in_err-write_round.ensures)

pub loop-at-preserved : goal.loop-at-preserved
loop-at-preserved g c =
    rw (next_round c.loop-at.at PARTS) (Wrote-more c.args.parts.now (c.loop-at.at * PARTS) PARTS _ _ _ _ _ c.loop-at.invariant _ (rw c.round_of.ensures at c.in_ok-write_round.ensures))
