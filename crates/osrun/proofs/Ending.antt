-- A core has ended exactly if its last item ends it.
use Rattle.std.proofs.Common.{◌≡◌, Some, List, [], ◌∷◌, ap, ◌∙◌, arith, true}
use Rattle.osbase.specs.{declared.items.Item.Item, History.History, History.phase_on}
use Rattle.osplan.specs.View.{View}
use Rattle.osstate.specs.{Readings.phase_at, State.state_of}
use Rattle.osadmit.specs.Admission.{admits}
use Rattle.oskernel.specs.Step.{after, history_from, outbox_size, solo, solo_from}
use Rattle.oskernel.proofs.Stages.{solo-parts}
use Rattle.osrun.specs.{CoreRuns.is_ended_phase, Sound.end_by, Sound.is_end}
use Rattle.osrun.proofs.Readings.{phase-after}

end-on : (v : View) (h : History) (i : Item) → admits outbox_size (state_of v h) i ≡ true → is_ended_phase (phase_on i (phase_at v h)) ≡ is_end i
end-on v h i may = grind arith

end-later : (v : View) (h : History) (i : Item) (is : List Item) → solo_from v h (i ∷ is) ≡ Some (history_from v h (i ∷ is)) → is_ended_phase (phase_at v (history_from v h (i ∷ is))) ≡ end_by (i ∷ is)
end-later v h i [] each = ap is_ended_phase (phase-after v h i) ∙ end-on v h i (solo-parts v h i [] each).0
end-later v h i (j ∷ js) each = end-later v (after v h i) j js (solo-parts v h i (j ∷ js) each).1

-- If a core could take its items in turn, it has ended exactly if the last of them ends it.
pub ended-by : (v : View) (items : List Item) → solo v items ≡ Some (history_from v [] items) → is_ended_phase (phase_at v (history_from v [] items)) ≡ end_by items
ended-by v [] each = grind arith
ended-by v (i ∷ is) each = end-later v [] i is each
