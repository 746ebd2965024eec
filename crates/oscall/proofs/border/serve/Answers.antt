use Rattle.std.proofs.Common.{Vec, Global, lit≤}
use Rattle.osbase.specs.declared.marks.Mark.{Mark}
use Rattle.osstate.specs.State.{KernelState}
use Rattle.osacts.specs.Seen.{Seen}
use Rattle.osacts.proofs.Each.{unprinted, wider}
use Rattle.osservice.specs.{declared.returning.ServiceResult.ServiceResult, Service.Service}
use Rattle.osservice.specs.Terms.{Serves, ServesQuietly}
use Rattle.oscall.proofs.border.serve.Goals as goal

-- A service that prints no line stays within the bound of two lines.
with-lines : {service : Seen → Service} {result : ServiceResult} {s s' : KernelState} {vec : Vec Mark Global} → ServesQuietly 1 service result s s' → Serves 2 2 service result s s' vec vec
with-lines e = record { answer = e.answer; steps = wider (lit≤ tt) (lit≤ tt) (unprinted e.steps); refused = λ no. unprinted (e.refused no); border = e.border }

pub returns-in-SetRelAlarm : goal.returns-in-SetRelAlarm
returns-in-SetRelAlarm g c = rw (c.in-SetRelAlarm.is) (with-lines c.set_relative.ensures)

pub returns-in-SetAbsAlarm : goal.returns-in-SetAbsAlarm
returns-in-SetAbsAlarm g c = rw (c.in-SetAbsAlarm.is) (with-lines c.set_absolute.ensures)
