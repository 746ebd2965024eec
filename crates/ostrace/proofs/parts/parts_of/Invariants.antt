use Rattle.std.proofs.Common.{◌≡◌, take}
use Rattle.ostrace_text.specs.Trace.{text_of}
use Rattle.ostrace.specs.Parts.{parts_text}
use Rattle.ostrace.proofs.parts.parts_of.Given as goal

abbrev pub invariant-loop-report : goal.invariant-loop-report
invariant-loop-report l = parts_text l.parts.items ≡ text_of l.plan (take l.report-index l.reports)
