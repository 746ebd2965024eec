use Rattle.osplan.proofs.Clocked.{clock-parts}
use Rattle.osattached.proofs.Own.{own-object}
use Rattle.ostable.proofs.Places.{placed}
use Rattle.ostable.proofs.tables.object_at.Goals as goal

pub returns : goal.returns
returns c =
    rw (c.reference.ensures, ← c.index-as_slice-index.is) (own-object (placed c.args.core.now) c.as_slice.result.now c.args.index c.index-as_slice-index.result (clock-parts c.args.core.now c.requires.within).tables_attached c.as_slice.ensures c.requires.inside c.index-as_slice-index.is)
