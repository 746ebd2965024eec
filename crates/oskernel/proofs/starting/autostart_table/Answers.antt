use Rattle.std.proofs.Common.{◌≡◌, Some, IsTrue, rules, ap, ◌∙◌}
use Rattle.std.proofs.lemmas.Option.{slice_get_within}
use Rattle.osbase.specs.{declared.references.TableRef.TableRef, Objects.table_object}
use Rattle.osplan.specs.{Objects.is_own_object, View.own_table}
use Rattle.ostable.specs.Tables.{table_ref}
use Rattle.ostable.proofs.Places.{table-is, table-own}
use Rattle.oskernel.proofs.Autostart.{offset-within}
use Rattle.oskernel.proofs.starting.autostart_table.Goals as goal

pub start_table-requires : goal.start_table-requires
start_table-requires g c =
    let own = c.args.state.now.view.own in
    let table : TableRef = record { core = c.id-core.result; index = c.args.index } in
    let here : table ≡ table_ref own c.args.index = λ i. record { core = c.id-core.ensures.own i; index = c.args.index } in
    let place = table-own own c.args.index (slice_get_within own.tables c.args.index c.args.table.now c.requires.own) in
    let found : own_table own table ≡ Some c.args.table.now = ap (own_table own) here ∙ table-is own (table_ref own c.args.index) place ∙ c.requires.own in
    let turn = offset-within own table c.args.table.now c.in-Some.start c.requires.within found c.in-Some.is in
    let mine : IsTrue (is_own_object own (table_object table)) = ap (λ (s : TableRef). is_own_object own (table_object s)) here ∙ place in
    search (rules, mine, turn)
