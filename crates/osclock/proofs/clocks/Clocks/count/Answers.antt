use Rattle.std.proofs.Common.{◌≡◌, ◌<◌, length, get_or, ap, rules, subst, sym, ◌∙◌}
use Rattle.std.specs.List.{slice_set}
use Rattle.osbase.specs.declared.limits.TheConstants.{COUNTERS}
use Rattle.osclock.specs.Clocks.{ClockState}
use Rattle.osclock.proofs.{Beyond.counted-is, Quiet.quiet-anew, Quiet.quiet-counted, Quiet.quiet-on}
use Rattle.osclock.proofs.Bounds.{attached-bounded, attached-inside, counter-inside, counter-within}
use Rattle.osclock.proofs.clocks.Clocks.count.Goals as goal

pub counter-before-requires : goal.counter-before-requires
counter-before-requires c = counter-inside c.args.core.now _ c.args.counter c.requires.clocks c.requires.own

pub pass_alarms-requires-clause-counter : goal.pass_alarms-requires-clause-counter
pass_alarms-requires-clause-counter c = rw c.counter-before.ensures (counter-within c.args.core.now _ c.args.counter c.requires.clocks c.requires.own).within

pub pass_alarms-requires-clause-alarms : goal.pass_alarms-requires-clause-alarms
pass_alarms-requires-clause-alarms c = record {
  places = attached-inside c.args.core.now c.args.counter _ _ c.of-attached.result.now c.self.view_is c.requires.clocks c.requires.own c.of-attached.ensures.value;
  bounded = attached-bounded c.args.core.now c.args.counter _ _ c.counter-before.result c.of-attached.result.now c.self.view_is c.requires.clocks c.requires.own c.counter-before.ensures c.of-attached.ensures.value;
}

pub advance-requires : goal.advance-requires
advance-requires c = rw c.counter-before.ensures (counter-within c.args.core.now _ c.args.counter c.requires.clocks c.requires.own).within

pub set_counter-requires : goal.set_counter-requires
set_counter-requires c = subst (λ (s : ClockState). c.args.counter.index < length s.counters) (sym c.self.view_is) (counter-inside c.args.core.now _ c.args.counter c.requires.clocks c.requires.own)

pub invariant_of-self : goal.invariant_of-self
invariant_of-self c =
    let all : length c.self.inside.quiet ≡ COUNTERS = search rules in
    rw c.from-place.ensures
    (quiet-on c.args.core.now c.args.counter _ _ c.self.view_is c.requires.clocks c.requires.own _ all c.self.invariant c.counter-before.result _ c.counter-before.ensures
    (c.set_counter.ensures ∙ ap (slice_set c.self.inside.counters.items c.args.counter.index) c.advance.ensures.state))

pub returns-then-quiet-gt0 : goal.returns-then-quiet-gt0
returns-then-quiet-gt0 c =
    let all : length c.self.inside.quiet ≡ COUNTERS = search rules in
    let some : 0 < get_or c.self.inside.quiet c.args.counter.index 0 = search rules in
    quiet-counted c.args.core.now c.args.counter _ _ c.self.view_is c.requires.clocks c.requires.own _ all c.self.invariant c.counter-before.result _ c.counter-before.ensures
    (c.set_counter.ensures ∙ ap (slice_set c.self.inside.counters.items c.args.counter.index) c.advance.ensures.state) some

pub returns-else-quiet-gt0 : goal.returns-else-quiet-gt0
returns-else-quiet-gt0 c =
    counted-is c.args.core.now c.args.counter _ _ c.counter-before.result c.of-attached.result.now _ _ c.self.view_is c.requires.clocks c.requires.own c.counter-before.ensures c.of-attached.ensures.value
    (c.set_counter.ensures ∙ ap (slice_set c.self.inside.counters.items c.args.counter.index) c.advance.ensures.state) c.pass_alarms.ensures.state

pub invariant_of-self-else-quiet-gt0 : goal.invariant_of-self-else-quiet-gt0
invariant_of-self-else-quiet-gt0 c =
    let all : length c.self.inside.quiet ≡ COUNTERS = search rules in
    rw c.from-place.ensures
    (quiet-anew c.args.core.now c.args.counter _ _ c.self.view_is c.requires.clocks c.requires.own _ all c.self.invariant c.pass_alarms.result c.advance.new.self _ _ c.set_counter.ensures (returns-else-quiet-gt0 c)
    (rw c.of-attached.ensures.value at c.pass_alarms.ensures.quiet))
