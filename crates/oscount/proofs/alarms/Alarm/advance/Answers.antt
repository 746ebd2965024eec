use Rattle.std.proofs.Common.{ap, ◌∙◌}
use Rattle.oscount.proofs.Expiries.{beyond-by}
use Rattle.oscount.proofs.alarms.Alarm.advance.Goals as goal

pub returns-in-Some-clause-counts : goal.returns-in-Some-clause-counts
returns-in-Some-clause-counts c count setting counter alarm =
    ap (λ e. record { expiry = e }) (c.beyond-self.ensures ∙ beyond-by c.args.counter c.args.self.now c.in-Some.expiry count setting counter alarm c.in-Some.is)
