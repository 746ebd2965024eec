use Rattle.std.specs.Prelude.{Some}
use Rattle.osboard.proofs.board.Board.enter.Given as goal

abbrev pub ghosts-fetch_or : goal.ghosts-fetch_or
ghosts-fetch_or a = record { call = Some a.call }
