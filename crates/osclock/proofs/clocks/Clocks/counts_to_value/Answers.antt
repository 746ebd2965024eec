use Rattle.std.proofs.Common.{◌≡◌, arith}
use Rattle.osclock.specs.Clocks.{counter_in, max_of}
use Rattle.osclock.proofs.Bounds.{counter-inside, counter-within, counts-within}
use Rattle.osclock.proofs.clocks.Clocks.counts_to_value.Goals as goal

pub counter-requires : goal.counter-requires
counter-requires c = counter-inside c.args.core.now _ c.args.counter c.requires.clocks.clocks c.requires.clocks.own

pub counts_to-requires-clause-counter : goal.counts_to-requires-clause-counter
counts_to-requires-clause-counter c = rw c.counter.ensures (counter-within c.args.core.now _ c.args.counter c.requires.clocks.clocks c.requires.clocks.own).within

pub counts_to-requires-clause-turn : goal.counts_to-requires-clause-turn
counts_to-requires-clause-turn c = rw c.counter.ensures (omega (arith, c.requires.turn, (counter-within c.args.core.now _ c.args.counter c.requires.clocks.clocks c.requires.clocks.own).max))

pub returns-clause-turn : goal.returns-clause-turn
returns-clause-turn c =
    let is : (counter_in c.args.counter c.args.self.now).max ≡ max_of c.args.core.now c.args.counter = (counter-within c.args.core.now _ c.args.counter c.requires.clocks.clocks c.requires.clocks.own).max in
    rw (c.counts_to.ensures.state, c.counter.ensures, is) (counts-within (max_of c.args.core.now c.args.counter) _ c.args.start)
