use Rattle.std.proofs.Common.{◌≡◌, ◌≤◌, ◌+◌, ◌*◌, IsTrue, List, length, rules, sum_by, ap, sym, arith}
use Rattle.std.specs.List.{list_all}
use Rattle.osbase.specs.{declared.references.AlarmRef.AlarmRef, declared.references.CounterRef.CounterRef, History.CounterIncremented, Objects.alarm_object}
use Rattle.osplan.specs.Objects.{is_own_object}
use Rattle.osclock.specs.Clocks.{due_in}
use Rattle.ostable.specs.{declared.tables.DueTable.DueTable, Tables.due_tables_in, Waiting.are_own}
use Rattle.osstate.specs.{Does.HasRoom, State.KernelState}
use Rattle.osacts.specs.Acts.{Acts, Notes, both, one_then}
use Rattle.osacts.specs.Runs.{runs, says}
use Rattle.osacts.proofs.Each.{as_steps, noted, then, unprinted}
use Rattle.osexpiry.specs.{Advancing.most_posted_of_table, Advancing.posted_for, Expiring.expire_each, ExpiryPoints.process_tables, ExpiryPoints.posted_by_table}
use Rattle.osexpiry.proofs.{Counted.fewer-entries, Counted.fewer-marks, Postings.both-posted, Postings.due-posted}
use Rattle.osexpiry.proofs.advancing.advance.Goals as goal

-- a count, with these alarms and tables due
abbrev counting : CounterRef → List AlarmRef → List DueTable → Acts
counting c alarms tables = one_then (Notes (CounterIncremented c)) (both (expire_each alarms) (process_tables tables))

pub expire_each-requires : goal.expire_each-requires
expire_each-requires g c =
    let alarms = c.as_slice-due_alarms.result.now in
    let counted = noted (CounterIncremented c.args.counter) c.args.state.now c.count.ensures in
    let same = ap (λ (s : KernelState). length s.border.outbox) c.count.ensures in
    let posted = due-posted c.args.state.now.view.own c.args.counter c.args.state.now.clocks c.due_next-alarms.result.items c.due_next-alarms.ensures.value in
    let own : IsTrue (list_all (λ (a : AlarmRef). is_own_object c.count.new.self.view.own (alarm_object a)) alarms) = rw (counted.view, c.as_slice-due_alarms.ensures.value) c.due_next-alarms.ensures.own in
    let outbox : length c.count.new.self.border.outbox + sum_by (posted_for c.count.new.self.view.own) alarms ≤ g.row.OUT =
    rw (counted.view, c.as_slice-due_alarms.ensures.value) (omega (arith, same, posted, c.requires.posts.outbox)) in
    let room : HasRoom (3 * length alarms) (3 * length alarms) c.count.new.self c.args.marks.now =
    rw (c.as_slice-due_alarms.ensures.value) (record {
      count = omega (arith, c.due_next-alarms.ensures.few, c.requires.posts.room.count, counted.count);
      place = omega (arith, c.due_next-alarms.ensures.few, c.requires.posts.room.place);
    }) in
    search (rules, own, outbox, room)

pub process_tables-requires : goal.process_tables-requires
process_tables-requires g c =
    let due = c.as_slice-due_tables.result.now in
    let counted = noted (CounterIncremented c.args.counter) c.args.state.now c.count.ensures in
    let same = ap (λ (s : KernelState). length s.border.outbox) c.count.ensures in
    let joined = rw (counted.view, c.as_slice-due_alarms.ensures.value) at c.expire_each.ensures.outbox in
    let alarms = rw (c.as_slice-due_alarms.ensures.value) at c.expire_each.ensures.steps in
    let tables = c.due_tables-tables.ensures in
    let both = both-posted c.args.state.now.view.own c.args.counter c.args.state.now.clocks c.due_next-alarms.result.items c.due_tables-tables.result.items c.due_next-alarms.ensures.value tables.ends (tables.once (most_posted_of_table c.args.state.now.view.own)) in
    let own : IsTrue (list_all (are_own c.expire_each.new.state.view.own) due) = rw (c.expire_each.ensures.steps.view, counted.view, c.as_slice-due_tables.ensures.value) tables.own in
    let outbox : length c.expire_each.new.state.border.outbox + sum_by (posted_by_table c.expire_each.new.state.view.own) due ≤ g.row.OUT =
    rw (c.expire_each.ensures.steps.view, counted.view, c.as_slice-due_tables.ensures.value) (omega (arith, same, both, joined, c.requires.posts.outbox)) in
    let room : HasRoom (38 * length due) (36 * length due) c.expire_each.new.state c.expire_each.new.marks =
    rw (c.as_slice-due_tables.ensures.value) (record {
      count = omega (arith, c.due_next-alarms.ensures.few, tables.few, c.requires.posts.room.count, counted.count, alarms.count);
      place = omega (arith, c.due_next-alarms.ensures.few, tables.few, c.requires.posts.room.place, alarms.len, alarms.capacity);
    }) in
    search (rules, own, outbox, room)

pub returns : goal.returns
returns g c =
    let alarms = rw (c.as_slice-due_alarms.ensures.value) at c.expire_each.ensures.steps in
    let tables = rw (c.as_slice-due_tables.ensures.value) at c.process_tables.ensures.steps in
    let counted = noted (CounterIncremented c.args.counter) c.args.state.now c.count.ensures in
    let same : counting c.args.counter (due_in c.args.state.now.view.own c.args.counter c.args.state.now.clocks) (due_tables_in c.args.state.now.view.own c.args.counter c.args.state.now.tables) ≡ counting c.args.counter _ _ =
    λ i. counting c.args.counter (sym c.due_next-alarms.ensures.value i) (sym c.due_tables-tables.ensures.value i) in
    let before = ap (λ (s : KernelState). length s.border.outbox) c.count.ensures in
    let joined = rw (counted.view, c.as_slice-due_alarms.ensures.value) at c.expire_each.ensures.outbox in
    let more = rw (c.expire_each.ensures.steps.view, counted.view, c.as_slice-due_tables.ensures.value) at c.process_tables.ensures.outbox in
    let due = c.due_tables-tables.ensures in
    let posted = both-posted c.args.state.now.view.own c.args.counter c.args.state.now.clocks c.due_next-alarms.result.items c.due_tables-tables.result.items c.due_next-alarms.ensures.value due.ends (due.once (most_posted_of_table c.args.state.now.view.own)) in
    record {
      steps =
          as_steps (ap (λ (x : Acts). runs x c.args.state.now) same) (ap (λ (x : Acts). says x c.args.state.now) same)
          (fewer-entries _ _ _ _ c.due_next-alarms.ensures.few due.few) (fewer-marks _ _ _ _ c.due_next-alarms.ensures.few due.few)
          (then (then (unprinted counted) alarms) tables);
      outbox = omega (arith, before, joined, more, posted);
    }
