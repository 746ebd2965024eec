-- If a core has ended, and met no conflict at its first gate and no shutdown of all cores, it had drained.
use Rattle.std.proofs.Common.{◌≡◌, nat_lt, ◌||◌, Bool, true, false, Some, List, [], ◌∷◌, arith}
use Rattle.std.proofs.lemmas.Bool.{or_left}
use Rattle.osbase.specs.{declared.items.Item.Item, declared.histories.Phase.Phase, History.History, History.phase_on, Phases.place_of}
use Rattle.osplan.specs.View.{View}
use Rattle.osstate.specs.{Readings.phase_at, State.state_of}
use Rattle.osadmit.specs.Admission.{admits}
use Rattle.oskernel.specs.Step.{after, history_from, outbox_size, solo, solo_from}
use Rattle.oskernel.proofs.Stages.{solo-parts}
use Rattle.osrun.specs.{Fits.has_drained, Fits.is_drain, Sound.end_by}
use Rattle.osrun.proofs.{Ending.ended-by, Readings.phase-after, Sane.AreUndisturbed, Sane.is_disturbance}

-- A core in this phase has drained, or is past that.
abbrev pub is_past_drain : Phase → Bool
is_past_drain p = nat_lt (place_of Phase.Live) (place_of p)

module _ (v : View) where
  -- A core gets to such a phase only by the item that drains it.
  drain-on : (h : History) (i : Item) → is_disturbance i ≡ false → admits outbox_size (state_of v h) i ≡ true → is_past_drain (phase_on i (phase_at v h)) ≡ true → (is_past_drain (phase_at v h) || is_drain i) ≡ true
  drain-on h i apart may past = grind arith

  drained-later : (h : History) (items : List Item) → solo_from v h items ≡ Some (history_from v h items) → AreUndisturbed items → is_past_drain (phase_at v (history_from v h items)) ≡ true → (is_past_drain (phase_at v h) || has_drained items) ≡ true
  drained-later h [] each calm past = or_left _ _ past
  drained-later h (i ∷ is) each calm past =
      let turn = solo-parts v h i is each in
      grind (arith, phase-after v h i, drain-on h i, turn.0, drained-later (after v h i) is turn.1)

  -- So if a core could take such items in turn and the last one ends it, it has drained.
  pub drained-where-ended : (items : List Item) → solo v items ≡ Some (history_from v [] items) → AreUndisturbed items → end_by items ≡ true → has_drained items ≡ true
  drained-where-ended items each calm ended = grind (arith, ended-by v items each, drained-later [] items each calm)
