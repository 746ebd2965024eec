use Rattle.std.proofs.Common.{◌≡◌, ◌<◌, ◌+◌, false, cond, Some, drop, length, ap, sym, ◌∙◌, arith, rules}
use Rattle.std.specs.List.{find}
use Rattle.osbase.specs.declared.references.TableRef.{TableRef}
use Rattle.ostable.specs.Tables.{is_next_in, table_in, table_ref, table_refs}
use Rattle.ostable.proofs.Listed.{past, refs-at, table-refs-length}
use Rattle.ostable.proofs.tables.Tables.next.Goals as goal

pub loop-index-preserved : goal.loop-index-preserved
loop-index-preserved c =
    let waits = λ (u : TableRef). is_next_in c.args.table (table_in u c.args.self.now) in
    let inside : c.loop-index.index < length c.args.core.now.tables = search rules in
    let no : waits (table_ref c.args.core.now c.loop-index.index) ≡ false = search rules in
    sym (ap (find waits) (refs-at c.args.core.now c.loop-index.index inside) ∙ ap (λ b. cond b (Some (table_ref c.args.core.now c.loop-index.index)) (find waits (drop (c.loop-index.index + 1) (table_refs c.args.core.now)))) no)
    ∙ c.loop-index.invariant

pub returns : goal.returns
returns c =
    let waits = λ (u : TableRef). is_next_in c.args.table (table_in u c.args.self.now) in
    let done : c.loop-index.index ≡ length c.args.core.now.tables = search rules in
    sym (ap (find waits) (past (table_refs c.args.core.now) c.loop-index.index (omega (arith, done, table-refs-length c.args.core.now)))) ∙ c.loop-index.invariant
