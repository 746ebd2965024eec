use Rattle.std.proofs.Common.{◌≡◌, ◌≤◌, ◌+◌, ℕ, Bool, true, false, cond, IfSome, IsTrue, Option, Some, None, length, rules, ap, sym, arith, lit≤}
use Rattle.std.specs.Option.{option_map_or}
use Rattle.std.proofs.lemmas.Bool.{and_parts}
use Rattle.osbase.specs.{declared.references.TableRef.TableRef, Objects.table_object, Phases.is_before_live}
use Rattle.osplan.specs.{declared.plans.Core.Core, declared.plans.ExpiryPoint.ExpiryPoint, Objects.is_own_object}
use Rattle.osacts.proofs.Each.{then, unmoved, in-words, where-fails, where-holds, wider, looked}
use Rattle.osexpiry.specs.ExpiryPoints.{posted_by_end, posted_by_point, processes_point, processes_table}
use Rattle.osacts.specs.Steps.{Steps}
use Rattle.osexpiry.proofs.expiry_points.process_table.Goals as goal

-- the table that waits is the core's own, if there is one
waiting-own : (core : Core) (next : Option TableRef) → option_map_or (λ (u : TableRef). is_own_object core (table_object u)) next true ≡ true → IfSome next (λ (u : TableRef). IsTrue (is_own_object core (table_object u)))
waiting-own core None own = tt
waiting-own core (Some u) own = own

pub end-requires : goal.end-requires
end-requires g c =
    let core = c.args.state.now.view.own in
    let table = c.args.due.table in
    let posted = ap (λ (o : Option ExpiryPoint). posted_by_point core o) c.due_point-point.ensures.value in
    let ended = ap {B = ℕ} (λ (b : Bool). cond b (posted_by_end core table c.args.due.next) 0) c.if-due.true in
    let owns = and_parts (is_own_object core (table_object table)) _ c.requires.own in
    let own : IsTrue (is_own_object c.process_point.new.state.view.own (table_object table)) = rw (c.process_point.ensures.steps.view) owns.0 in
    let next : IfSome c.args.due.next (λ (u : TableRef). IsTrue (is_own_object c.process_point.new.state.view.own (table_object u))) = rw (c.process_point.ensures.steps.view) (waiting-own core c.args.due.next owns.1) in
    let outbox : length c.process_point.new.state.border.outbox + posted_by_end c.process_point.new.state.view.own table c.args.due.next ≤ g.row.OUT =
    rw (c.process_point.ensures.steps.view) (omega (arith, posted, ended, c.process_point.ensures.outbox, c.requires.posts.outbox)) in
    let live : is_before_live c.process_point.new.state.progress.phase ≡ false = rw (c.process_point.ensures.steps.phase) c.requires.posts.live in
    search (rules, own, next, outbox, live)

pub returns-then-due : goal.returns-then-due
returns-then-due g c =
    let due = c.args.due in
    let same = ap (processes_point due.table) (sym c.due_point-point.ensures.value) in
    let steps : Steps 38 36 (processes_table due) c.args.state.now c.end.new.state c.args.marks.now c.end.new.marks = then (looked (in-words same c.process_point.ensures.steps)) (where-holds c.if-due.true c.end.ensures.steps) in
    search (rules, steps)

pub returns-else-due : goal.returns-else-due
returns-else-due g c =
    let due = c.args.due in
    let same = ap (processes_point due.table) (sym c.due_point-point.ensures.value) in
    let steps : Steps 38 36 (processes_table due) c.args.state.now c.process_point.new.state c.args.marks.now c.process_point.new.marks =
    wider (lit≤ tt) (lit≤ tt) (then (looked (in-words same c.process_point.ensures.steps)) (where-fails c.if-due.false unmoved)) in
    search (rules, steps)
