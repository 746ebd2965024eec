use Rattle.std.specs.Prelude.{Some}
use Rattle.osboard.proofs.board.Board.ask_halt.Given as goal

abbrev pub ghosts-compare_exchange : goal.ghosts-compare_exchange
ghosts-compare_exchange a = record { call = Some a.call }
