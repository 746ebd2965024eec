use Rattle.osjob.proofs.program.show.Goals as goal

pub returns : goal.returns
returns g c = record { written = c.write_all.result; writes = rw c.as_bytes.ensures.value at c.write_all.ensures; result_is = c.written.ensures }
