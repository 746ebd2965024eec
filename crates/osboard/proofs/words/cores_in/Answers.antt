use Rattle.std.proofs.Common.{refl}
use Rattle.osboard.proofs.words.cores_in.Goals as goal

pub returns : goal.returns
returns c = rw (c.has_bit.ensures, c.has_bit-2.ensures, c.has_bit-3.ensures, c.has_bit-4.ensures, c.has_bit-5.ensures, c.has_bit-6.ensures, c.has_bit-7.ensures, c.has_bit-8.ensures, c.has_bit-9.ensures, c.has_bit-10.ensures, c.has_bit-11.ensures, c.has_bit-12.ensures, c.has_bit-13.ensures, c.has_bit-14.ensures, c.has_bit-15.ensures, c.has_bit-16.ensures) refl
