use Rattle.std.proofs.Common.{rules}
use Rattle.osboard.proofs.Boards.{begins}
use Rattle.osboard.proofs.board.Board.new.Goals as goal

pub new-requires : goal.new-requires
new-requires c = record { words = search rules; cores = c.requires.cores; stands = rw (c.bit-started.ensures, c.from.ensures) (begins c.args.master c.requires.master) }
