use Rattle.std.proofs.Common.{refl, sym}
use Rattle.osvalidate.specs.Operation.{operations_of}
use Rattle.osvalidate.proofs.Operations.{meant-some}
use Rattle.osvalidate.proofs.judging.judge_script.Goals as goal

pub returns-in-Ok : goal.returns-in-Ok
returns-in-Ok c =
    let m = meant-some c.args.objects.now.declared c.args.core (operations_of c.args.script.now) c.in-Ok.ops c.in-Ok.ensures in
    (m.0, sym m.1.same, rw (c.are_ops_local.ensures, c.have_events.ensures, c.is_jumping_within.ensures, c.as_slice.ensures, c.as_slice-in-Ok.ensures, c.as_slice-in-Ok-2.ensures, m.1.known, m.1.near, m.1.masked, m.1.formed, m.1.same) refl)
