use Rattle.std.proofs.Common.{Some, ap, ◌∙◌}
use Rattle.oscount.proofs.Expiries.{left-by}
use Rattle.oscount.proofs.alarms.Alarm.left.Goals as goal

pub returns-in-Some-clause-counts : goal.returns-in-Some-clause-counts
returns-in-Some-clause-counts c count setting granted counter alarm =
    ap Some c.until.ensures ∙ left-by c.args.counter c.args.self c.in-Some.expiry count setting granted counter alarm c.in-Some.is
