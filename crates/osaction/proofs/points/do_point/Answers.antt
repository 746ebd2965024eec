use Rattle.std.proofs.Common.{◌≤◌, ◌+◌, ◌*◌, IsTrue, Bool, true, false, count_by, length, rules, refl, ap, arith}
use Rattle.std.specs.List.{list_all}
use Rattle.osplan.specs.Objects.{is_posting, may_act}
use Rattle.osstate.specs.{Does.HasRoom, State.KernelState}
use Rattle.osacts.proofs.Each.{as_steps, printed, then}
use Rattle.osaction.specs.Points.{of_kind}
use Rattle.osaction.proofs.Joining.{kinds-long, kinds-posted, point-parts, within-point}
use Rattle.osaction.proofs.points.do_point.Goals as goal

pub act_each-requires : goal.act_each-requires
act_each-requires g c =
    let items = c.as_slice-actions.result.now in
    let parts = point-parts c.args.state.now.view.own c.args.point.now c.requires.known in
    let long = kinds-long c.args.point.now.actions in
    let same = ap (λ (s : KernelState). length s.border.outbox) c.print.ensures.state in
    let known : IsTrue (list_all (may_act c.print.new.self.view.own) items) = rw (ap (λ (s : KernelState). s.view) c.print.ensures.state, c.as_slice-actions.ensures) parts.0 in
    let outbox : length c.print.new.self.border.outbox + count_by (is_posting c.print.new.self.view.own) (of_kind true items) ≤ g.row.OUT =
    rw (ap (λ (s : KernelState). s.view) c.print.ensures.state, c.as_slice-actions.ensures) (omega (arith, same, kinds-posted c.args.state.now.view.own c.args.point.now.actions, c.requires.posts.outbox)) in
    let room : HasRoom (2 * length (of_kind true items)) (2 * length (of_kind true items)) c.print.new.self c.print.new.marks =
    rw (c.as_slice-actions.ensures) (record {
      count = omega (arith, long, parts.1, c.requires.posts.room.count, ap (λ (s : KernelState). s.progress.entries) c.print.ensures.state);
      place = omega (arith, long, parts.1, c.requires.posts.room.place, c.print.ensures.marks.len, c.print.ensures.marks.capacity);
    }) in
    search (rules, known, outbox, room)

pub act_each-requires-2 : goal.act_each-requires-2
act_each-requires-2 g c =
    let items = c.as_slice-actions.result.now in
    let parts = point-parts c.args.state.now.view.own c.args.point.now c.requires.known in
    let long = kinds-long c.args.point.now.actions in
    let same = ap (λ (s : KernelState). length s.border.outbox) c.print.ensures.state in
    let joined = rw (ap (λ (s : KernelState). s.view) c.print.ensures.state, c.as_slice-actions.ensures) at c.act_each.ensures.outbox in
    let first = rw (c.as_slice-actions.ensures) at c.act_each.ensures.steps in
    let known : IsTrue (list_all (may_act c.act_each.new.state.view.own) items) = rw (c.act_each.ensures.steps.view, ap (λ (s : KernelState). s.view) c.print.ensures.state, c.as_slice-actions.ensures) parts.0 in
    let outbox : length c.act_each.new.state.border.outbox + count_by (is_posting c.act_each.new.state.view.own) (of_kind false items) ≤ g.row.OUT =
    rw (c.act_each.ensures.steps.view, ap (λ (s : KernelState). s.view) c.print.ensures.state, c.as_slice-actions.ensures) (omega (arith, joined, same, kinds-posted c.args.state.now.view.own c.args.point.now.actions, c.requires.posts.outbox)) in
    let room : HasRoom (2 * length (of_kind false items)) (2 * length (of_kind false items)) c.act_each.new.state c.act_each.new.marks =
    rw (c.as_slice-actions.ensures) (record {
      count = omega (arith, long, parts.1, c.requires.posts.room.count, ap (λ (s : KernelState). s.progress.entries) c.print.ensures.state, first.count);
      place = omega (arith, long, parts.1, c.requires.posts.room.place, c.print.ensures.marks.len, c.print.ensures.marks.capacity, first.len, first.capacity);
    }) in
    search (rules, known, outbox, room)

pub returns : goal.returns
returns g c =
    let few = (point-parts c.args.state.now.view.own c.args.point.now c.requires.known).1 in
    let long = kinds-long c.args.point.now.actions in
    let first = rw (c.as_slice-actions.ensures) at c.act_each.ensures.steps in
    let second = rw (c.as_slice-actions.ensures) at c.act_each-2.ensures.steps in
    let kinds = λ (activating : Bool). length (of_kind activating c.args.point.now.actions) in
    let most = within-point (kinds true) (kinds false) (length c.args.point.now.actions) long few in
    let same = ap (λ (s : KernelState). length s.border.outbox) c.print.ensures.state in
    let joined = rw (ap (λ (s : KernelState). s.view) c.print.ensures.state, c.as_slice-actions.ensures) at c.act_each.ensures.outbox in
    let more = rw (c.act_each.ensures.steps.view, ap (λ (s : KernelState). s.view) c.print.ensures.state, c.as_slice-actions.ensures) at c.act_each-2.ensures.outbox in
    record {
      steps = as_steps refl refl most most (then (then (printed c.print.ensures.state c.print.ensures.marks) first) second);
      outbox = omega (arith, joined, more, same, kinds-posted c.args.state.now.view.own c.args.point.now.actions);
    }
