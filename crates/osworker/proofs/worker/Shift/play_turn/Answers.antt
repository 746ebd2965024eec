use Rattle.std.proofs.Common.{◌+◌, ap, refl, sym, ◌∙◌, arith}
use Rattle.osrun.specs.CoreRuns.{Keeps}
use Rattle.osworker.specs.declared.turns.Turned.TheVariants.{Nothing, Took}
use Rattle.osworker.proofs.Shifting.{stopped-stalled, went-nothing, went-took}
use Rattle.osworker.proofs.worker.Shift.play_turn.Goals as goal

pub returns-then-self-clause-some : goal.returns-then-self-clause-some
returns-then-self-clause-some g c stimuli going = stopped-stalled (g.M.Mail.sent) (g.M.Mail.taken) stimuli c.args.self.now going (omega (arith, c.if-self.true))

pub returns-then-is_err-clause-some : goal.returns-then-is_err-clause-some
returns-then-is_err-clause-some g c stimuli going = record {
  loads = _;
  worked = c.make_room.ensures.keeps.turns stimuli going.loads going.worked;
  ended = rw c.make_room.ensures.keeps.core.kernel going.running;
  stalled = λ e. cc;
  stuck = λ e. cc;
}

pub returns-then-has_ended-clause-some : goal.returns-then-has_ended-clause-some
returns-then-has_ended-clause-some g c stimuli going = record {
  loads = 0;
  worked = c.in-Took.ensures.turn.turns stimuli _ (c.make_room.ensures.keeps.turns stimuli going.loads going.worked);
  ended = sym c.has_ended.ensures ∙ c.if-has_ended.true;
  stalled = λ e. cc;
  stuck = λ e. cc;
}

pub returns-else-has_ended-clause-none : goal.returns-else-has_ended-clause-none
returns-else-has_ended-clause-none g c stimuli going =
    let old = c.args.self.now in
    let room = c.make_room.ensures.keeps in
    went-took (g.M.Mail.sent) (g.M.Mail.taken) stimuli old _ (rw (c.turn.ensures.turn.same.run) room.same.run) Took
    (rw (← room.same.run) c.in-Took.ensures.at) going.place (refl {a = 0}) (sym c.has_ended.ensures ∙ c.if-has_ended.false)
    (c.in-Took.ensures.turn.turns stimuli _ (room.turns stimuli going.loads going.worked))

pub returns-in-Nothing-clause-none : goal.returns-in-Nothing-clause-none
returns-in-Nothing-clause-none g c stimuli going =
    let old = c.args.self.now in
    let room = c.make_room.ensures.keeps in
    let keeps : Keeps old.worker.core c.turn.new.self.worker.core = rw (c.in-Nothing.ensures.turn.core) room.core in
    went-nothing (g.M.Mail.sent) (g.M.Mail.taken) stimuli old _ (rw (c.turn.ensures.turn.same.run) room.same.run) Nothing
    (rw (← room.same.run) c.in-Nothing.ensures.at) going.place (refl {a = Nothing}) keeps (ap (λ n. n + 1) c.turn.ensures.fruitless) going
    (λ here. rw (← room.same.run, ← room.core.id, ← room.core.kernel, ← room.core.left) (c.in-Nothing.ensures.stuck (rw room.same.run here)))
    (rw (← room.same.run) (c.in-Nothing.ensures.turn.turns stimuli _ (room.turns stimuli going.loads going.worked)))

pub returns-in-Refused-clause-some : goal.returns-in-Refused-clause-some
returns-in-Refused-clause-some g c stimuli going = record {
  loads = 0;
  worked = c.in-Refused.ensures.turn.turns stimuli _ (c.make_room.ensures.keeps.turns stimuli going.loads going.worked);
  ended = rw (c.in-Refused.ensures.turn.core, c.make_room.ensures.keeps.core.kernel) going.running;
  stalled = λ e. cc;
  stuck = λ e. cc;
}
