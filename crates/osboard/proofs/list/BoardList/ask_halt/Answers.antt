use Rattle.std.proofs.Common.{rules}
use Rattle.osboard.proofs.Boards.{asks_on}
use Rattle.osboard.proofs.list.BoardList.ask_halt.Goals as goal

pub returns-clause-replays : goal.returns-clause-replays
returns-clause-replays c = search (rules, asks_on)
