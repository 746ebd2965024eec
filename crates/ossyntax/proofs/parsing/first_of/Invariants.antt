use Rattle.std.proofs.Common.{◌≡◌, drop}
use Rattle.ossyntax.specs.ParsedOp.{first_read, words_of}
use Rattle.ossyntax.proofs.parsing.first_of.Given as goal

abbrev pub invariant-loop-verb : goal.invariant-loop-verb
invariant-loop-verb l = first_read (words_of l.text) (drop l.verb-index l.verbs) ≡ first_read (words_of l.text) l.verbs
