use Rattle.std.proofs.Common.{◌≡◌, ◌++◌, Bool, true, cond, ap, sym, ◌∙◌, lit≤}
use Rattle.osbase.specs.declared.objects.Object.{Object}
use Rattle.osstate.specs.Readings.{is_this_core}
use Rattle.osacts.specs.{Acts.both, Runs.runs, Runs.says, Runs.seen_in}
use Rattle.osacts.proofs.Each.{as_steps, then}
use Rattle.osservice.specs.{declared.returning.ServiceResult.ServiceResult, Returning.asks, Service.carries_out, Service.returns_with, Service.serves}
use Rattle.oscall.specs.Border.{core_of_call, service_of}
use Rattle.oscall.proofs.border.cross.Goals as goal

pub returns : goal.returns
returns g c =
    let s = c.args.state.now in
    let own : is_this_core s.view (core_of_call c.args.call) ≡ true = ap (λ (o : Object). is_this_core s.view o.place.core) (sym c.object.ensures) ∙ sym c.is_this_core.ensures.value ∙ c.if-not-is_this_core.false in
    let here = serves c.args.runner c.args.service (service_of c.args.call (seen_in s)) in
    let there = asks c.args.runner c.args.service (core_of_call c.args.call) c.args.call in
    let effect = carries_out (service_of c.args.call) in
    as_steps {x = both effect (returns_with c.args.runner c.args.service c.serve-answer.result)}
    (ap (λ (b : Bool). cond b (runs here s) (runs there s)) own
    ∙ ap (λ (answer : ServiceResult). runs (returns_with c.args.runner c.args.service answer) (runs effect s)) (sym c.serve-answer.ensures.answer))
    (ap (λ (b : Bool). cond b (says here s) (says there s)) own
    ∙ ap (λ (answer : ServiceResult). says effect s ++ says (returns_with c.args.runner c.args.service answer) (runs effect s)) (sym c.serve-answer.ensures.answer))
    (lit≤ tt) (lit≤ tt) (then c.serve-answer.ensures.steps c.finish.ensures)
