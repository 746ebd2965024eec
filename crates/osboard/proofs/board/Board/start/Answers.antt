use Rattle.std.proofs.Common.{rules}
use Rattle.osboard.proofs.Boards.{start_steps}
use Rattle.osboard.proofs.board.Board.start.Goals as goal

pub fetch_or-found-requires : goal.fetch_or-found-requires
fetch_or-found-requires c = record { asked = search rules; place = search rules; word = search rules; step = rw (c.bit-started.ensures, c.from.ensures) (start_steps c.args.seat.now.core c.args.core c.requires.core) }
