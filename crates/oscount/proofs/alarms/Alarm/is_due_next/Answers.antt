use Rattle.std.proofs.Common.{ap, ◌∙◌, nat_eq}
use Rattle.oscount.proofs.Expiries.{due-by}
use Rattle.oscount.proofs.alarms.Alarm.is_due_next.Goals as goal

pub returns-in-Some-clause-counts : goal.returns-in-Some-clause-counts
returns-in-Some-clause-counts c count setting granted counter alarm =
    ap (λ n. nat_eq c.in-Some.expiry.value n) c.next_value.ensures ∙ due-by c.args.counter c.args.self c.in-Some.expiry count setting granted counter alarm c.in-Some.is
