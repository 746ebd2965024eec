use Rattle.std.proofs.Common.{sym, subst}
use Rattle.osplan.specs.View.{view_of}
use Rattle.osrun.proofs.Known.{IsKnown, own-known}
use Rattle.osrun.proofs.core_runs.CoreRun.request_of_turn.Goals as goal

pub returns-in-Own-clause-lock : goal.returns-in-Own-clause-lock
returns-in-Own-clause-lock c = subst IsKnown (sym c.own_request.ensures) (own-known (view_of c.args.self.now.plan.now c.args.self.now.id) _ c.want.result c.want.ensures.lock)
