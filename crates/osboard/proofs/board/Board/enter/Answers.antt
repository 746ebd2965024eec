use Rattle.std.proofs.Common.{rules}
use Rattle.osboard.proofs.Boards.{enter_steps}
use Rattle.osboard.proofs.board.Board.enter.Goals as goal

pub fetch_or-requires : goal.fetch_or-requires
fetch_or-requires c = record { asked = search rules; place = search rules; word = search rules; step = rw (c.bit-entered.ensures, c.mode_bits.ensures, c.from.ensures, c.core.ensures) (enter_steps c.args.seat.now.core c.args.mode c.requires.core c.requires.mode) }
