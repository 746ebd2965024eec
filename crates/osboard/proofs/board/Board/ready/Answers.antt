use Rattle.std.proofs.Common.{rules}
use Rattle.osboard.proofs.Boards.{ready_steps}
use Rattle.osboard.proofs.board.Board.ready.Goals as goal

pub fetch_or-requires : goal.fetch_or-requires
fetch_or-requires c = record { asked = search rules; place = search rules; word = search rules; step = rw (c.bit-ready.ensures, c.from.ensures, c.core.ensures) (ready_steps c.args.seat.now.core c.requires.core) }
