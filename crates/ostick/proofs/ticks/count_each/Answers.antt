use Rattle.std.proofs.Common.{◌≡◌, ◌<◌, ◌≤◌, ◌+◌, ◌*◌, ◌^◌, false, IsTrue, length, suc, vec_len, vec_capacity, rules, refl, sym, subst, ap, ◌∙◌, arith}
use Rattle.osbase.specs.{declared.references.CounterRef.CounterRef, Objects.counter_object, Phases.is_before_live}
use Rattle.osclock.specs.Clocks.{attached_to, counter_ref}
use Rattle.osclock.proofs.Places.{counter-own}
use Rattle.osplan.specs.{declared.plans.Core.Core, Objects.is_own_object}
use Rattle.ostable.specs.Tables.{timed_by}
use Rattle.osacts.specs.{Acts.nothing, Acts.when, Steps.Steps}
use Rattle.osacts.proofs.Each.{as_steps, looked, unmoved}
use Rattle.osexpiry.specs.Advancing.{count_entries, count_marks, counts, posted_by}
use Rattle.osexpiry.proofs.{Owned.alarms-few, Postings.tables-few}
use Rattle.ostick.specs.Ticks.{counted_entries, counted_marks, counts_if_hardware}
use Rattle.osservice.proofs.Numbered.{act_all, all-acted, one-more}
use Rattle.ostick.proofs.Ticking.{alarms-within, alarms_at, amounts, posted-within, posted_at, tables-within, tables_at, total-more}
use Rattle.ostick.proofs.ticks.count_each.Goals as goal

pub loop-counter-init : goal.loop-counter-init
loop-counter-init g c = record { place = omega arith; outbox = omega arith; steps = as_steps refl refl (omega arith) (omega arith) unmoved }

pub count_by_tick-requires : goal.count_by_tick-requires
count_by_tick-requires g c =
    let own = c.args.state.now.view.own in
    let place = c.loop-counter.counter-index in
    let before = c.loop-counter.invariant.steps in
    let reference : CounterRef = record { core = c.id-core.result; index = c.loop-counter.index } in
    let here : reference ≡ counter_ref own place = λ i. record { core = c.id-core.ensures.own i; index = c.loop-counter.invariant.place i } in
    let amount = amounts c.args.state.now place c.loop-counter.state reference before.view here in
    let few = alarms-few own c.counters-counters.ensures.within in
    let short = tables-few own c.counters-counters.ensures.within in
    let more_alarms = total-more (alarms_at own) place in
    let more_tables = total-more (tables_at own) place in
    let all_alarms = alarms-within own (place + 1) in
    let all_tables = tables-within own (place + 1) in
    let outbox : length c.loop-counter.state.border.outbox + posted_by c.loop-counter.state.view.own reference ≤ g.row.OUT =
    omega (arith, c.loop-counter.invariant.outbox, amount.posted, total-more (posted_at own) place, posted-within own (place + 1), c.requires.outbox) in
    let count : c.loop-counter.state.progress.entries + suc (3 * length (attached_to c.loop-counter.state.view.own reference) + 38 * length (timed_by c.loop-counter.state.view.own reference)) ≤ 2 ^ 63 =
    omega (arith, amount.alarms, amount.tables, more_alarms, more_tables, all_alarms, all_tables, few, short, before.count, c.requires.room.count, c.loop-counter-test.true, c.counters-counters.ensures.few) in
    let marks : vec_len c.loop-counter.marks + (3 * length (attached_to c.loop-counter.state.view.own reference) + 36 * length (timed_by c.loop-counter.state.view.own reference)) ≤ vec_capacity c.loop-counter.marks =
    omega (arith, amount.alarms, amount.tables, more_alarms, more_tables, all_alarms, all_tables, few, short, before.len, before.capacity, c.requires.room.place) in
    let live : is_before_live c.loop-counter.state.progress.phase ≡ false = ap is_before_live before.phase ∙ c.requires.live in
    let inside : place < length own.counters = omega (arith, c.loop-counter-test.true, ap length c.counters-counters.ensures.value) in
    let mine : IsTrue (is_own_object c.loop-counter.state.view.own (counter_object reference)) = (λ i. is_own_object (before.view i).own (counter_object (here i))) ∙ counter-own own place inside in
    search (rules, outbox, count, marks, live, mine)

pub loop-counter-preserved : goal.loop-counter-preserved
loop-counter-preserved g c =
    let own = c.args.state.now.view.own in
    let place = c.loop-counter.counter-index in
    let now = c.loop-counter.state in
    let counter = c.counter-item.result in
    let before = c.loop-counter.invariant.steps in
    let reference : CounterRef = record { core = c.id-core.result; index = c.loop-counter.index } in
    let here : reference ≡ counter_ref own place = λ i. record { core = c.id-core.ensures.own i; index = c.loop-counter.invariant.place i } in
    let amount = amounts c.args.state.now place now reference before.view here in
    let more_alarms = total-more (alarms_at own) place in
    let more_tables = total-more (tables_at own) place in
    let named : reference ≡ counter_ref now.view.own place = here ∙ λ i. counter_ref (sym before.view i).own place in
    record {
      place = omega arith;
      outbox = omega (arith, c.count_by_tick.ensures.outbox, c.loop-counter.invariant.outbox, amount.posted, total-more (posted_at own) place);
      steps =
          one-more counts_if_hardware (λ (core : Core). core.counters) c.counters-counters.result.now place c.counters-counters.ensures.value counter c.loop-counter-test.true c.counter-item.is
          (omega (arith, amount.alarms, amount.tables, more_alarms, more_tables)) (omega (arith, amount.alarms, amount.tables, more_alarms, more_tables)) before
          (subst (λ (r : CounterRef). Steps (count_entries now.view.own reference) (count_marks now.view.own reference) (when counter.software nothing (counts r)) now c.count_by_tick.new.state c.loop-counter.marks c.count_by_tick.new.marks) named c.count_by_tick.ensures.steps);
    }

pub returns : goal.returns
returns g c =
    let own = c.args.state.now.view.own in
    let few = alarms-few own c.counters-counters.ensures.within in
    let short = tables-few own c.counters-counters.ensures.within in
    let all_alarms = alarms-within own c.loop-counter.counter-index in
    let all_tables = tables-within own c.loop-counter.counter-index in
    let all : Steps counted_entries counted_marks (act_all counts_if_hardware (λ (core : Core). core.counters) own) c.args.state.now c.loop-counter.state c.args.marks.now c.loop-counter.marks =
    all-acted counts_if_hardware (λ (core : Core). core.counters) c.counters-counters.result.now c.loop-counter.counter-index c.counters-counters.ensures.value c.loop-counter-test.false
    (omega (arith, c.counters-counters.ensures.few, few, short, all_alarms, all_tables)) (omega (arith, few, short, all_alarms, all_tables)) c.loop-counter.invariant.steps in
    looked all
