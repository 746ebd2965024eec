use Rattle.osjob.proofs.runs.print.Goals as goal

pub returns : goal.returns
returns g c = record {
  written = c.write_run.result;
  writes = rw (c.have_all_ended-ended.ensures, c.plan.ensures.value) at c.write_run.ensures;
  result_is = rw (← c.plan.ensures.value, ← c.have_all_ended-ended.ensures, ← c.of_run.ensures) c.written.ensures;
}
