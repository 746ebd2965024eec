use Rattle.std.specs.Int.{w32}
use Rattle.std.proofs.lemmas.Nat.Bits.{bit_at_clear_same}
use Rattle.osqueue.proofs.Bits.{changed, clear-fewer, clear-other}
use Rattle.osqueue.proofs.words.unmarked.Goals as goal

pub returns-clause-bits : goal.returns-clause-bits
returns-clause-bits c =
    rw c.from.ensures (changed c.args.word _ c.args.priority 0 (bit_at_clear_same w32 c.args.word c.args.priority c.requires) (λ q other. clear-other c.args.word c.args.priority q c.ranges.word.fits c.requires other))

pub returns-clause-fewer : goal.returns-clause-fewer
returns-clause-fewer c set = rw c.from.ensures (clear-fewer c.args.word c.args.priority c.requires set)
