use Rattle.std.proofs.Common.{◌≡◌, drop}
use Rattle.ossyntax.specs.ParsedOp.{rest_words}
use Rattle.oslog.specs.{Forms.no_parts, Words.read_words}
use Rattle.oslog.proofs.reading.read_words.Given as goal

abbrev pub invariant-loop-kind : goal.invariant-loop-kind
invariant-loop-kind l =
    read_words l.names.config.now (drop l.kind-index l.kinds) (rest_words l.left) l.parts ≡ read_words l.names.config.now l.kinds (rest_words l.fn.text) no_parts
