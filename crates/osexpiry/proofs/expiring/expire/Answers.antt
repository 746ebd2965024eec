use Rattle.std.proofs.Common.{◌≡◌, ◌<◌, ℕ, Bool, true, false, cond, IsTrue, length, rules, subst, ap, sym, arith, lit≤}
use Rattle.osbase.specs.{History.same_core, Phases.is_before_live}
use Rattle.osplan.specs.{Objects.is_posting, View.View}
use Rattle.osprogress.specs.Border.{BorderState}
use Rattle.osstate.specs.State.{KernelState}
use Rattle.osacts.specs.{Acts.nothing, Acts.Acts, Runs.runs, Runs.says}
use Rattle.osacts.proofs.Each.{printed, then, as_steps}
use Rattle.oscall.specs.Border.{core_of_call, is_known_call}
use Rattle.osexpiry.specs.Expiring.{expires_by}
use Rattle.osaction.proofs.Joining.{joined, known-call, place-left}
use Rattle.osexpiry.proofs.Owned.{by-action}
use Rattle.osexpiry.proofs.expiring.expire.Goals as goal

pub act-requires : goal.act-requires
act-requires g c =
    let core = c.args.state.now.view.own in
    let action = c.alarm_action-action.result in
    let expired = printed c.print.ensures.state c.print.ensures.marks in
    let posted = ap {B = ℕ} (λ (b : Bool). cond b 1 0) (by-action core c.args.alarm action c.alarm_action-action.ensures.value (is_posting core) false) in
    let known : IsTrue (is_known_call c.print.new.self.view.own action) = rw (expired.view) (known-call core action c.alarm_action-action.ensures.known) in
    let place : (same_core (core_of_call action) c.print.new.self.view.own.id ≡ false → length c.print.new.self.border.outbox < g.row.OUT) =
    subst (λ (s : KernelState). same_core (core_of_call action) s.view.own.id ≡ false → length s.border.outbox < g.row.OUT) (sym c.print.ensures.state)
    (place-left (same_core (core_of_call action) core.id) _ _ (omega (arith, posted, c.requires.posts.outbox))) in
    let live : is_before_live c.print.new.self.progress.phase ≡ false = rw (expired.phase) c.requires.posts.live in
    search (rules, known, place, live)

pub returns : goal.returns
returns g c =
    let core = c.args.state.now.view.own in
    let action = c.alarm_action-action.result in
    let expired = printed c.print.ensures.state c.print.ensures.marks in
    let same = by-action core c.args.alarm action c.alarm_action-action.ensures.value (expires_by c.args.alarm) nothing in
    let posted = ap {B = ℕ} (λ (b : Bool). cond b 1 0) (by-action core c.args.alarm action c.alarm_action-action.ensures.value (is_posting core) false) in
    let before = ap (λ (s : KernelState). length s.border.outbox) c.print.ensures.state in
    let more =
    joined (same_core (core_of_call action) core.id) (length c.print.new.self.border.outbox) (length c.act.new.state.border.outbox)
    (λ here. ap (λ (s : BorderState). length s.outbox) (c.act.ensures.here (subst (λ (v : View). same_core (core_of_call action) v.own.id ≡ true) (sym expired.view) here))) c.act.ensures.outbox in
    record {
      steps =
          as_steps (ap (λ (x : Acts). runs x c.args.state.now) same) (ap (λ (x : Acts). says x c.args.state.now) same) (lit≤ tt) (lit≤ tt)
          (then expired c.act.ensures.steps);
      outbox = omega (arith, posted, before, more);
    }
