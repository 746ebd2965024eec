use Rattle.std.proofs.Common.{◌≡◌, All, IsTrue, List, [], filter_map, get_or, length, option_map, take, ◌++◌, ap, sym, subst, ◌∙◌, arith, rules}
use Rattle.std.proofs.lemmas.List.{append-nil, take_all}
use Rattle.osbase.specs.{declared.references.TableRef.TableRef, Objects.table_object}
use Rattle.osplan.specs.Objects.{is_own_object}
use Rattle.osattached.proofs.Members.{kept-all}
use Rattle.ostable.specs.Tables.{TableStates, due_in, due_table, is_timed_by, next_in, table_refs, timed_by}
use Rattle.ostable.proofs.{Bounds.list-at, tables.Tables.due_next.Goals.in-Some, tables.Tables.due_next.Goals.in_default}
use Rattle.ostable.proofs.Listed.{filter_map-more, none-kept, one-kept, timed-own}
use Rattle.ostable.proofs.tables.Tables.due_next.Goals as goal

-- the reference in place of a table that does not exist
abbrev no_table : TableRef
no_table = record { core = record { number = 0 }; index = 0 }

pub due_table-requires-clause-own : goal.due_table-requires-clause-own
due_table-requires-clause-own c =
    let list : c.of-table-items.result.now ≡ timed_by c.args.core.now c.args.counter =
    c.of-table-items.ensures.value ∙ ap (λ (x : TableStates). get_or x.timed c.args.counter.index []) c.self.view_is ∙ list-at c.args.core.now _ c.requires.tables c.args.counter c.requires.own in
    let all : All (λ (s : TableRef). IsTrue (is_own_object c.args.core.now (table_object s))) c.of-table-items.result.now =
    subst (λ (l : List TableRef). All (λ (s : TableRef). IsTrue (is_own_object c.args.core.now (table_object s))) l) (sym list)
    (kept-all (is_timed_by c.args.core.now c.args.counter) (λ (s : TableRef). IsTrue (is_own_object c.args.core.now (table_object s))) (table_refs c.args.core.now) (λ s on. timed-own c.args.core.now c.args.counter s on)) in
    all c.loop-table.table-index no_table c.loop-table-test.true

pub loop-table-preserved : goal.loop-table-preserved
loop-table-preserved c =
    let due_of = λ (s : TableRef). option_map (due_table s (next_in c.args.core.now s c.args.self.now)) (due_in c.args.core.now s c.args.self.now) in
    let more = filter_map-more due_of c.of-table-items.result.now c.loop-table.table-index no_table c.loop-table-test.true in
    let asked : due_of (get_or c.of-table-items.result.now c.loop-table.table-index no_table) ≡ c.due_table.result = sym c.due_table.ensures in
    elim c.match-due_table.branch [
      | in-Some w ↦
          let one = one-kept due_of (get_or c.of-table-items.result.now c.loop-table.table-index no_table) w.in-Some.table (asked ∙ w.in-Some.is) in
          rw w.due-is (record { kept = rw (w.push.ensures.items, c.loop-table.invariant.kept) (sym (more ∙ ap (λ l. filter_map due_of (take c.loop-table.table-index c.of-table-items.result.now) ++ l) one)); few = omega (arith, w.push.ensures.len, c.loop-table.invariant.few) })
      | in_default w ↦
          let none = none-kept due_of (get_or c.of-table-items.result.now c.loop-table.table-index no_table) (asked ∙ w.in_default.is) in
          rw w.due-is (record { kept = c.loop-table.invariant.kept ∙ sym (more ∙ ap (λ l. filter_map due_of (take c.loop-table.table-index c.of-table-items.result.now) ++ l) none ∙ append-nil _); few = omega (arith, c.loop-table.invariant.few) })
    ]

pub returns : goal.returns
returns c =
    let due_of = λ (s : TableRef). option_map (due_table s (next_in c.args.core.now s c.args.self.now)) (due_in c.args.core.now s c.args.self.now) in
    let list : c.of-table-items.result.now ≡ timed_by c.args.core.now c.args.counter =
    c.of-table-items.ensures.value ∙ ap (λ (x : TableStates). get_or x.timed c.args.counter.index []) c.self.view_is ∙ list-at c.args.core.now _ c.requires.tables c.args.counter c.requires.own in
    let done : c.loop-table.table-index ≡ length c.of-table-items.result.now = search rules in
    c.loop-table.invariant.kept ∙ ap (filter_map due_of) (take_all c.loop-table.table-index c.of-table-items.result.now (omega (arith, done)) ∙ list)
