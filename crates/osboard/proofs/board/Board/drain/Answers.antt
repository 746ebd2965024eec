use Rattle.std.proofs.Common.{rules}
use Rattle.osboard.proofs.Boards.{drain_steps}
use Rattle.osboard.proofs.board.Board.drain.Goals as goal

pub fetch_or-requires : goal.fetch_or-requires
fetch_or-requires c = record { asked = search rules; place = search rules; word = search rules; step = rw (c.bit-drained.ensures, c.from.ensures, c.core.ensures) (drain_steps c.args.seat.now.core c.requires.core) }
