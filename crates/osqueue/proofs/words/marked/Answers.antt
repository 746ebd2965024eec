use Rattle.std.specs.Int.{w32}
use Rattle.std.proofs.lemmas.Nat.Bits.{bit_at_set_other, bit_at_set_same}
use Rattle.osqueue.proofs.Bits.{changed}
use Rattle.osqueue.proofs.words.marked.Goals as goal

pub returns : goal.returns
returns c =
    rw c.from.ensures (changed c.args.word _ c.args.priority 1 (bit_at_set_same w32 c.args.word c.args.priority c.requires) (bit_at_set_other w32 c.args.word c.args.priority c.requires))
