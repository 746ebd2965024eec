use Rattle.std.proofs.Common.{Some, ap}
use Rattle.osrun.proofs.requests.own_request.Goals as goal

pub returns-in-Start : goal.returns-in-Start
returns-in-Start c = rw (c.in-Start.is, ← c.is_configured.ensures c.args.id) (ap Some c.start_request.ensures)
