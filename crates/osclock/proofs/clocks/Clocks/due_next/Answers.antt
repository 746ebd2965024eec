use Rattle.std.proofs.Common.{◌<◌, [], get_or, ap, refl, rules, ◌∙◌}
use Rattle.osclock.specs.Clocks.{counter_in}
use Rattle.osclock.proofs.{Asked.dues-in, Bounds.attached-inside, Bounds.counter-inside, Bounds.counter-within, Quiet.none-due}
use Rattle.osclock.proofs.clocks.Clocks.due_next.Goals as goal

pub returns-then-self-from-gt0 : goal.returns-then-self-from-gt0
returns-then-self-from-gt0 c =
    let some : 0 < get_or c.self.inside.quiet c.args.counter.index 0 = search rules in
    let list = get_or c.self.inside.attached c.args.counter.index [] in
    c.new.ensures
    ∙ none-due c.self.inside.alarms.items _ _ list some (c.self.invariant.at c.args.counter.index)
    ∙ dues-in c.args.core.now c.args.counter _ _ _ list _ c.self.view_is c.requires.clocks c.requires.own (ap (counter_in c.args.counter) c.self.view_is) refl refl

pub counter-requires : goal.counter-requires
counter-requires c = counter-inside c.args.core.now _ c.args.counter c.requires.clocks c.requires.own

pub due_alarms-requires-clause-counter : goal.due_alarms-requires-clause-counter
due_alarms-requires-clause-counter c = rw c.counter.ensures (counter-within c.args.core.now _ c.args.counter c.requires.clocks c.requires.own).within

pub due_alarms-requires-clause-places : goal.due_alarms-requires-clause-places
due_alarms-requires-clause-places c = rw c.as_slice.ensures.value (attached-inside c.args.core.now c.args.counter _ _ c.of.result.now c.self.view_is c.requires.clocks c.requires.own c.of.ensures.value)

pub returns : goal.returns
returns c =
    c.due_alarms.ensures ∙ dues-in c.args.core.now c.args.counter _ _ c.counter.result c.of.result.now c.as_slice.result.now c.self.view_is c.requires.clocks c.requires.own c.counter.ensures c.of.ensures.value c.as_slice.ensures.value
