use Rattle.std.proofs.Common.{◌≡◌, ◌<◌, ◌≤◌, [], IsTrue, false, length, rules, ap, subst, sym, arith}
use Rattle.osbase.specs.Phases.{is_before_live, is_past_first_gate}
use Rattle.osplan.specs.Objects.{outbox_needed}
use Rattle.osstate.specs.{Does.HasRoom, Does.item_entries, Does.item_marks, State.KernelState}
use Rattle.oskernel.specs.Taking.{is_acting, may_fill_outbox, is_stimulus, is_known, is_second_gate}
use Rattle.oskernel.proofs.Phases.{forward, onward}
use Rattle.oskernel.proofs.Taken.{acting, filling, fresh, front, going_on, known, lock, past, sender}
use Rattle.oskernel.proofs.effects.take.Goals as goal

pub take_item-requires : goal.take_item-requires
take_item-requires g c =
    let s = c.args.state.now in
    let item = c.args.item.now in
    let admitted = c.requires.admitted in
    (search rules, (sender g.row.OUT s item admitted, ((λ awaited. lock g.row.OUT s item awaited admitted), (forward g.row.OUT s item admitted, (onward g.row.OUT s item admitted, (front g.row.OUT s item admitted, omega (arith, c.requires.room.count)))))))

pub follow-requires : goal.follow-requires
follow-requires g c =
    let s = c.args.state.now in
    let item = c.args.item.now in
    let admitted = c.requires.admitted in
    let told = sym c.take_item.ensures.state in
    let known-then = subst (λ (q : KernelState). IsTrue (is_known q item)) told (known g.row.OUT s item admitted) in
    let live = subst (λ (q : KernelState). IsTrue (is_acting item) → is_before_live q.progress.phase ≡ false) told (acting g.row.OUT s item admitted) in
    let passed = subst (λ (q : KernelState). IsTrue (is_second_gate item) → IsTrue (is_past_first_gate q.progress.phase)) told (past s.progress.phase item) in
    let idle = c.take_item.ensures.idle in
    let outbox = subst (λ (q : KernelState). IsTrue (may_fill_outbox item) → length q.border.outbox < g.row.OUT) told (filling g.row.OUT s item (omega (arith, c.requires.outbox)) admitted) in
    let empty = subst (λ (q : KernelState). IsTrue (is_stimulus item) → q.border.outbox ≡ []) told (going_on g.row.OUT s item admitted) in
    let places = subst (λ (q : KernelState). outbox_needed q.view.own ≤ g.row.OUT) told c.requires.outbox in
    let entries = ap (λ (q : KernelState). q.progress.entries) c.take_item.ensures.state in
    let room : HasRoom item_entries item_marks c.take_item.new.self c.args.marks.now = record { count = omega (arith, entries, c.requires.room.count); place = c.requires.room.place } in
    let fresh-then : (IsTrue (is_second_gate item) → c.take_item.new.self.tasks.jobs ≡ []) = (λ e. subst (λ (q : KernelState). q.tasks.jobs ≡ []) told (idle (fresh g.row.OUT s item admitted e))) in
    (search rules, (known-then, (sender g.row.OUT s item admitted, (live, (passed, (fresh-then, (outbox, (empty, (places, room)))))))))
