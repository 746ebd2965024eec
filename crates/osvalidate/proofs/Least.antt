-- The first test of a configuration's text that fails has the least fault.
use Rattle.std.proofs.Common.{◌≡◌, Some, arith}
use Rattle.osplan.specs.{declared.faults.ConfFault.ConfFault, Fault.IsLeast, Fault.failing, Fault.first_fault}
use Rattle.osvalidate.specs.{Words.ConfigText, Check.tests_of}
use Rattle.osplan.proofs.Least.{least}

pub least-tests_of : (t : ConfigText) (found : ConfFault) → first_fault (failing (tests_of t)) ≡ Some found → IsLeast found (failing (tests_of t))
least-tests_of t found first = least (tests_of t) found (omega arith) first
