use Rattle.std.proofs.Common.{rules}
use Rattle.osservice_alarms.proofs.alarms.set_absolute.Goals as goal

pub returns : goal.returns
returns g c = record { answer = search rules; steps = search rules; refused = search rules; border = search rules }
