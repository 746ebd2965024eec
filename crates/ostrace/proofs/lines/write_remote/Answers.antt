use Rattle.ostrace_text.specs.Trace.{call_words, after_spaces}
use Rattle.ostrace.proofs.Gathering.{Gathers-stop, Gathers-then, joining}
use Rattle.ostrace.proofs.lines.write_remote.Goals as goal

pub returns-in_err-write_verb_and_core : goal.returns-in_err-write_verb_and_core
returns-in_err-write_verb_and_core g c = Gathers-stop (after_spaces (call_words c.args.names.now c.args.call)) _ c.from_residual.ensures.0 c.in_err-write_verb_and_core.ensures (simp joining)

pub returns : goal.returns
returns g c = Gathers-then _ c.in_ok-write_verb_and_core.ensures c.write_call.ensures (simp joining)
