use Rattle.osworld.proofs.Reported.{reported-cut, reports-played}
use Rattle.osworld.proofs.runs.run_world.Goals as goal

pub returns-in-Ok-clause-world : goal.returns-in-Ok-clause-world
returns-in-Ok-clause-world c =
    rw (c.finish.ensures)
    (reports-played c.args.config.now c.in_ok-world.ensures.limits c.args.stimuli.now c.requires c.args.turns.now _ _ ((rw c.in_ok-world.ensures.config at (c.in-Ok.ensures.ok c.args.stimuli.now)) _ c.in_ok-world.ensures.plays).plays)

pub returns-in-Err-clause-broken_off : goal.returns-in-Err-clause-broken_off
returns-in-Err-clause-broken_off c =
    rw (c.finish-in-Err.ensures)
    (reported-cut c.args.config.now c.in_ok-world.ensures.limits c.args.stimuli.now c.requires c.args.turns.now _ _ ((rw c.in_ok-world.ensures.config at (c.in-Err.ensures.err c.args.stimuli.now)) _ c.in_ok-world.ensures.plays))
