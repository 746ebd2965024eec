use Rattle.std.proofs.Common.{refl, arith}
use Rattle.osworker.specs.declared.turns.Turned.TheVariants.{Nothing}
use Rattle.osworker.proofs.Shifting.{no-turn, turn-on}
use Rattle.osworker.proofs.worker.Shift.serve.Goals.{else-may_find_mail, then-may_find_mail+else-loop-at-test}
use Rattle.osworker.proofs.worker.Shift.serve.Goals as goal

pub returns-in_default : goal.returns-in_default
returns-in_default g c = record {
  turn = turn-on _ _ _ c.serve.result _ _ _ c.loop-at.invariant.0 c.serve.ensures.turn;
  at = record { past = omega (arith, c.loop-at.auto.at); within = omega (arith, c.loop-at-test.true); all = λ none. absurd (c.in_default.not-Nothing none) };
  fruitless = c.loop-at.invariant.3;
}

pub loop-at-preserved : goal.loop-at-preserved
loop-at-preserved g c = (turn-on _ _ _ Nothing _ _ _ c.loop-at.invariant.0 c.in-Nothing.ensures.turn, c.in-Nothing.ensures.room refl, c.loop-at.invariant.2, c.loop-at.invariant.3)

pub returns-clause-turn : goal.returns-clause-turn
returns-clause-turn g c = elim c.if-may_find_mail.branch [
  | then-may_find_mail+else-loop-at-test w ↦ rw w.self-is w.loop-at.invariant.0
  | else-may_find_mail w ↦ rw w.self-is (no-turn _ _ _ c.args.self.now.worker)
]
