use Rattle.std.proofs.Common.{arith, rules}
use Rattle.osboard.proofs.Boards.{ask_steps}
use Rattle.osboard.proofs.board.Board.ask_halt.Goals as goal

pub compare_exchange-found-requires : goal.compare_exchange-found-requires
compare_exchange-found-requires c = record { asked = search rules; place = search rules; word = search rules; step = rw (← c.core-core.ensures, c.halt_word-asked.ensures) (ask_steps c.core-core.result c.args.status (omega arith)) }
