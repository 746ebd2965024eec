use Rattle.std.proofs.Common.{◌≡◌, Some, None, true, refl}
use Rattle.osbase.specs.declared.references.Runner.{Runner}
use Rattle.oscript.specs.declared.Op.{Op}
use Rattle.osexamples.specs.Laws.{does_something}
use Rattle.osexamples.proofs.laws.each_operation_does_something.Goals as goal

-- A clause for one operation makes a case of each.
each : (r : Runner) (op : Op) → does_something r op ≡ true
each r (Op.GetSpinlock None) = refl
each r (Op.GetSpinlock (Some l)) = refl
each r (Op.TryToGetSpinlock None x) = refl
each r (Op.TryToGetSpinlock (Some l) x) = refl
each r (Op.ReleaseSpinlock None) = refl
each r (Op.ReleaseSpinlock (Some l)) = refl
each r op = refl

pub returns : goal.returns
returns c = each
