use Rattle.std.specs.Prelude.{Some}
use Rattle.osboard.proofs.board.Board.look_drained.Given as goal

abbrev pub ghosts-load : goal.ghosts-load
ghosts-load a = record { call = Some a.call }
