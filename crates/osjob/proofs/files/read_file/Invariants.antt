use Rattle.std.proofs.Common.{◌+◌, ◌<◌, vec_len}
use Rattle.osjob.specs.declared.files.TheConstants.{LARGEST, PIECE}
use Rattle.osjob.proofs.files.read_file.Given as goal

abbrev pub invariant-loop : goal.invariant-loop
invariant-loop g l = vec_len l.bytes < LARGEST + PIECE
