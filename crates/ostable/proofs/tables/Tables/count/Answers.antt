use Rattle.std.proofs.Common.{◌<◌, All, List, length, sym, subst, ◌∙◌, ap, get_or, []}
use Rattle.osbase.specs.declared.references.TableRef.{TableRef}
use Rattle.ostable.specs.Tables.{TableStates}
use Rattle.ostable.proofs.{Bounds.list-at, Bounds.timed-inside, Moved.counted-is}
use Rattle.ostable.proofs.tables.Tables.count.Goals as goal

pub move_tables-requires-clause-places : goal.move_tables-requires-clause-places
move_tables-requires-clause-places c =
    subst (λ (x : TableStates). All (λ (s : TableRef). s.index < length x.tables) c.of.result.now) (sym c.self.view_is)
    (subst (λ (l : List TableRef). All (λ (s : TableRef). s.index < length c.args.self.now.tables) l)
    (sym (c.of.ensures.value ∙ ap (λ (x : TableStates). get_or x.timed c.args.counter.index []) c.self.view_is ∙ list-at c.args.core.now _ c.requires.tables c.args.counter c.requires.own))
    (timed-inside c.args.core.now _ c.requires.tables c.args.counter))

pub returns : goal.returns
returns c = counted-is c.args.core.now c.args.counter _ _ c.of.result.now _ c.self.view_is c.requires.tables c.requires.own c.of.ensures.value c.move_tables.ensures
