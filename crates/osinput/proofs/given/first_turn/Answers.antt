use Rattle.std.proofs.Common.{Some, None}
use Rattle.osinput.specs.Given.{turn_of}
use Rattle.osinput.proofs.Walking.{cut-steps}
use Rattle.osinput.proofs.given.first_turn.Goals as goal

pub returns-in_err-word : goal.returns-in_err-word
returns-in_err-word c = rw c.from_residual.ensures (cut-steps (turn_of c.args.plan.now) c.args.text.now None c.in_err-word.ensures)

pub returns : goal.returns
returns c = rw c.turn_of.ensures (cut-steps (turn_of c.args.plan.now) c.args.text.now (Some (c.in_ok-word.word.now, c.in_ok-word.later.now)) c.in_ok-word.ensures)
