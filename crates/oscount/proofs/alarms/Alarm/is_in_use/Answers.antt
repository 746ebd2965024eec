use Rattle.std.proofs.Common.{ap, ◌∙◌, is_some}
use Rattle.oscount.specs.declared.alarms.Alarm.{Alarm}
use Rattle.oscount.proofs.Expiries.{in-use}
use Rattle.oscount.proofs.alarms.Alarm.is_in_use.Goals as goal

pub returns-clause-counts : goal.returns-clause-counts
returns-clause-counts c max count setting granted alarm = c.is_some.ensures ∙ (ap (λ (a : Alarm). is_some a.expiry) alarm ∙ in-use max count setting granted)
