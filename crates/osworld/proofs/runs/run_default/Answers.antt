use Rattle.std.proofs.Common.{ap, sym, ◌∙◌}
use Rattle.osrun.specs.Fits.{ids_of}
use Rattle.osworld.specs.Runs.{round_by}
use Rattle.osworld.proofs.Default.{default-broken_off, default-reported}
use Rattle.osworld.proofs.runs.run_default.Goals as goal

pub play_rounds-requires-clause-round : goal.play_rounds-requires-clause-round
play_rounds-requires-clause-round c = ap round_by (c.as_slice.ensures.value ∙ c.in-Ok.ensures ∙ ap ids_of (c.plan.ensures.value ∙ sym c.in_ok-world.ensures.config))

pub play_rounds-requires-clause-begun : goal.play_rounds-requires-clause-begun
play_rounds-requires-clause-begun c = (c.args.stimuli.now, rw c.in_ok-world.ensures.config c.in_ok-world.ensures.plays)

pub returns-in-Ok-play_rounds-clause-default : goal.returns-in-Ok-play_rounds-clause-default
returns-in-Ok-play_rounds-clause-default c =
    rw (c.finish.ensures) (default-reported c.args.config.now c.plan.ensures.limits c.args.stimuli.now c.requires _ _ c.in-Ok-play_rounds.field-0 ((rw c.in_ok-world.ensures.config at c.in-Ok-play_rounds.ensures.ok) c.args.stimuli.now c.in_ok-world.ensures.plays))

pub returns-clause-broken_off : goal.returns-clause-broken_off
returns-clause-broken_off c =
    default-broken_off c.args.config.now c.plan.ensures.limits c.args.stimuli.now c.requires _ _ c.finish-in-Err.result c.finish-in-Err.ensures ((rw c.in_ok-world.ensures.config at c.in-Err.ensures.err) c.args.stimuli.now c.in_ok-world.ensures.plays)
