use Rattle.std.proofs.Common.{IsTrue, sym, ◌∙◌}
use Rattle.osplan.specs.View.{core_of, no_core}
use Rattle.osfit.proofs.Enough.{large-enough}
use Rattle.oskernel.proofs.kernel.Kernel.fits.Goals as goal

pub returns : goal.returns
returns g c =
    let enough = λ (fits : IsTrue c.fits.result). large-enough g.row.P g.row.J g.row.OUT (core_of c.args.config.now c.args.core) (no_core c.args.core) (sym c.fits.ensures ∙ fits) in
    record {
      value = c.fits.ensures;
      configured = λ fits. (enough fits).found;
      priorities = λ fits. (enough fits).priorities;
      ceilings = λ fits. (enough fits).ceilings;
      activations = λ fits. (enough fits).activations;
      outbox = λ fits. (enough fits).outbox;
    }
