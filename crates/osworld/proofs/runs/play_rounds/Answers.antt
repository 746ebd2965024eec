use Rattle.std.proofs.Common.{◌≤◌, ◌^◌, refl, ◌∙◌, arith}
use Rattle.osworld.proofs.Turned.{on_err}
use Rattle.osworld.proofs.Default.{default-cut, default-played, too_many, underway-first, underway-on}
use Rattle.osworld.proofs.runs.play_rounds.Goals as goal

pub loop-rounds-init : goal.loop-rounds-init
loop-rounds-init c = (refl, refl, refl, λ stimuli plays. underway-first c.args.world.now.config.now stimuli c.args.world.now.core_runs.items c.args.world.now.shared plays)

pub returns-in_err-changed-clause-err : goal.returns-in_err-changed-clause-err
returns-in_err-changed-clause-err c =
    on_err c.from_residual.result (λ stimuli plays.
    let underway = c.loop-rounds.invariant.3 stimuli plays in
    default-cut c.args.world.now.config.now stimuli c.loop-rounds.rounds _ _ underway _ _ (rw c.requires.round at ((rw c.loop-rounds.invariant.0 at (c.in_err-changed.ensures.err stimuli)) _ underway.plays)))

pub returns-then-is_over-changed-clause-ok : goal.returns-then-is_over-changed-clause-ok
returns-then-is_over-changed-clause-ok c stimuli plays =
    let underway = c.loop-rounds.invariant.3 stimuli plays in
    default-played c.args.world.now.config.now stimuli c.loop-rounds.rounds _ _ underway c.in_ok-changed.changed c.is_over.result _ _ (rw c.requires.round at ((rw c.loop-rounds.invariant.0 at (c.in_ok-changed.ensures.ok stimuli)) _ underway.plays))
    c.is_over.ensures c.if-is_over-changed.true

pub loop-rounds-preserved : goal.loop-rounds-preserved
loop-rounds-preserved c = (
  c.in_ok-changed.ensures.config ∙ c.loop-rounds.invariant.0,
  c.in_ok-changed.ensures.reports ∙ c.loop-rounds.invariant.1,
  c.in_ok-changed.ensures.len ∙ c.loop-rounds.invariant.2,
  λ stimuli plays.
      let underway = c.loop-rounds.invariant.3 stimuli plays in
      underway-on c.args.world.now.config.now stimuli c.loop-rounds.rounds _ _ underway c.in_ok-changed.changed c.is_over.result _ _ (rw c.requires.round at ((rw c.loop-rounds.invariant.0 at (c.in_ok-changed.ensures.ok stimuli)) _ underway.plays))
      c.is_over.ensures c.if-is_over-changed.false,
)

pub unreachable-requires : goal.unreachable-requires
unreachable-requires c =
    let many : 2 ^ 63 ≤ c.loop-rounds.rounds = omega (arith, c.loop-rounds-test.false) in
    too_many c.args.world.now.config.now c.requires.begun.0 c.loop-rounds.rounds _ _ (c.loop-rounds.invariant.3 c.requires.begun.0 c.requires.begun.1) many
