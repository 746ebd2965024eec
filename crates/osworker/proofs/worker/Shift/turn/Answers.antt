use Rattle.std.proofs.Common.{length, arith}
use Rattle.std.proofs.lemmas.Bool.Decides.{nat_tests}
use Rattle.osworker.proofs.Shifting.{a-look, no-look}
use Rattle.osworker.proofs.worker.Shift.turn.Goals as goal

pub returns-then-self-cores-clause-turn : goal.returns-then-self-cores-clause-turn
returns-then-self-cores-clause-turn g c = rw (a-look (length c.args.self.now.worker.run.now.cores.now) c.args.self.now.at (omega (arith, c.if-self-cores.true))) c.look.ensures

pub returns-then-self-cores-2-clause-turn : goal.returns-then-self-cores-2-clause-turn
returns-then-self-cores-2-clause-turn g c = rw (no-look (length c.args.self.now.worker.run.now.cores.now) c.args.self.now.at (omega (arith, c.if-self-cores-2.true))) c.own.ensures.turn

pub returns-clause-turn : goal.returns-clause-turn
returns-clause-turn g c = rw (no-look (length c.args.self.now.worker.run.now.cores.now) c.args.self.now.at (grind (arith, nat_tests, c.if-self-cores.false))) c.serve.ensures.turn
