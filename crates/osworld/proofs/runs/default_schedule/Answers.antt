use Rattle.std.proofs.Common.{ap, sym, ◌∙◌, inl, inr}
use Rattle.osrun.specs.Fits.{ids_of}
use Rattle.osworld.specs.Runs.{round_by, rounds}
use Rattle.osworld.proofs.Default.{default-broken_off, default-reported}
use Rattle.osworld.proofs.runs.default_schedule.Goals as goal

pub play_rounds-requires-clause-round : goal.play_rounds-requires-clause-round
play_rounds-requires-clause-round c = ap round_by (c.as_slice.ensures.value ∙ c.in-Ok.ensures ∙ ap ids_of (c.plan.ensures.value ∙ sym c.in_ok-world.ensures.config))

pub play_rounds-requires-clause-begun : goal.play_rounds-requires-clause-begun
play_rounds-requires-clause-begun c = (c.args.stimuli.now, rw c.in_ok-world.ensures.config c.in_ok-world.ensures.plays)

pub returns-in-Ok-scheduled : goal.returns-in-Ok-scheduled
returns-in-Ok-scheduled c = record {
  default = record {
    rounds = c.in-Ok-play_rounds.rounds;
    least = ((rw c.in_ok-world.ensures.config at c.in-Ok-play_rounds.ensures.ok) c.args.stimuli.now c.in_ok-world.ensures.plays).least;
    is = c.in-Ok-scheduled.ensures ∙ ap (λ ids. rounds c.in-Ok-play_rounds.rounds (round_by ids)) (c.as_slice-2.ensures.value ∙ c.in-Ok.ensures ∙ ap ids_of c.plan.ensures.value);
  };
  broken_off = tt;
}

pub returns-in_default-play_rounds-clause-broken_off : goal.returns-in_default-play_rounds-clause-broken_off
returns-in_default-play_rounds-clause-broken_off c =
    inl (default-broken_off c.args.config.now c.plan.ensures.limits c.args.stimuli.now c.requires _ _ c.finish.result c.finish.ensures ((rw c.in_ok-world.ensures.config at c.in_default-play_rounds.ensures.err) c.args.stimuli.now c.in_ok-world.ensures.plays))

pub returns-clause-broken_off : goal.returns-clause-broken_off
returns-clause-broken_off c =
    inr (rw (c.finish-in-Err.ensures) (default-reported c.args.config.now c.plan.ensures.limits c.args.stimuli.now c.requires _ _ c.in-Ok-play_rounds.rounds ((rw c.in_ok-world.ensures.config at c.in-Ok-play_rounds.ensures.ok) c.args.stimuli.now c.in_ok-world.ensures.plays)))
