use Rattle.std.proofs.Common.{arith}
use Rattle.osmail.proofs.Counts.{counted-new}
use Rattle.osmail.proofs.list.ListMail.new.Goals as goal

pub invariant_of-result : goal.invariant_of-result
invariant_of-result g c = rw (c.loop-place.invariant) (counted-new g.row.CAP c.args.cap c.loop-place._place (omega (arith, c.loop-place-test.false, c.loop-place.auto._place-end)) c.requires.some c.requires.fits c.requires.few)
