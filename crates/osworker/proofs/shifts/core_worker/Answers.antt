use Rattle.std.proofs.Common.{Bor, length, refl, ap, sym, ◌∙◌, arith}
use Rattle.osworker.specs.{declared.run.Run.Run, Seats.made_from}
use Rattle.osplan.proofs.Numbered.{configured-low}
use Rattle.osworker.proofs.Listed.{someone}
use Rattle.osworker.proofs.Shifting.{begun, first-running, handed-back, own-before}
use Rattle.osworker.proofs.shifts.core_worker.Goals as goal

pub invariant_of-shift : goal.invariant_of-shift
invariant_of-shift g c = record {
  same_plan = c.new-core.ensures.plan;
  same = sym (c.new-core.ensures.core ∙ c.core.ensures);
  placed = c.requires.placed.board;
  low = configured-low c.args.run.now.config.now c.args.seats.board.core (rw c.new-core.ensures.plan at c.new-core.result.limits) c.requires.configured;
  same_spins = c.requires.placed.spins_core ∙ sym (c.new-core.ensures.core ∙ c.core.ensures);
  placed_spins = c.requires.placed.spins;
}

pub loop-init : goal.loop-init
loop-init g c = (
  refl,
  c.new-core.ensures.core ∙ c.core.ensures,
  record {
    loads = 0;
    worked = begun c.args.run.now.config.now c.args.run.now.stimuli.now c.new-core.result c.core.result (made_from c.args.seats) (g.M.Mail.sent c.args.mail) (g.M.Mail.taken c.args.mail)
        c.new-core.ensures.core c.new-core.ensures.plan c.new-core.ensures.kernel c.new-core.ensures.stimuli c.new-core.ensures.items c.new-core.ensures.marks c.requires.fresh c.requires.unused;
    count = omega arith;
    place = omega arith;
    running = rw c.new-core.ensures.kernel (first-running _);
    stuck = λ some own. absurd (omega (arith, own, own-before (length c.args.run.now.cores.now) 0));
  },
  refl,
)

pub returns-in-Some-play_turn-clause-worked : goal.returns-in-Some-play_turn-clause-worked
returns-in-Some-play_turn-clause-worked g c =
    handed-back (g.M.Mail.sent) (g.M.Mail.taken) c.args.run.now c.in-Some-play_turn.stop c.play_turn.new.self c.hand_back.result c.play_turn.new.self.worker.stamps.clocks.items
    (ap (λ (r : Bor Run). r.now) c.play_turn.ensures.same.run ∙ c.loop.invariant.0) c.requires.cores
    (c.in-Some-play_turn.ensures.some c.args.run.now.stimuli.now c.loop.invariant.2)
    (someone c.args.run.now.config.now (rw c.new-core.ensures.plan at c.new-core.result.limits) c.args.seats.board.core c.requires.configured)
    c.hand_back.ensures.report c.hand_back.ensures.seats c.hand_back.ensures.mail c.hand_back.ensures.stop
