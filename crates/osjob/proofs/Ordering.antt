-- The printed line is right, whether an order of the run's turns was found or not.
use Rattle.std.proofs.Common.{List, Option, Some, None, inl, inr, map, refl}
use Rattle.std.specs.Prelude.{IfSome}
use Rattle.osbase.specs.{declared.references.CoreId.CoreId, declared.turns.Choice.Choice, declared.turns.CoreStimuli.CoreStimuli, declared.turns.Report.Report}
use Rattle.osplan.specs.declared.plans.Plan.{Plan}
use Rattle.osrun.specs.Sound.{unclocked}
use Rattle.osworld.specs.Runs.{AreReports}
use Rattle.osjob.specs.Runs.{IsOrdered, order_line}

pub is_ordered : (plan : Plan) (stimuli : List CoreStimuli) (reports : List Report) (found : Option (List (CoreId × Choice)))
    → IfSome found (λ (turns : List (CoreId × Choice)). AreReports plan stimuli turns (map unclocked reports)) → IsOrdered plan stimuli reports (order_line found)
is_ordered plan stimuli reports None are = inl refl
is_ordered plan stimuli reports (Some turns) are = inr (turns, are, refl)
