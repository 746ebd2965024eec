use Rattle.osboard.proofs.board.Board.look.Goals as goal

pub returns : goal.returns
returns c = rw (c.view_in.ensures) c.load.ensures
