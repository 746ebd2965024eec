-- A core receives from configured cores only.
use Rattle.std.proofs.Common.{◌≡◌, ◌<◌, ◌||◌, Bool, true, false, not, nat_lt, Some, List, [], ◌∷◌, refl, sym, ap, subst, ◌∙◌}
use Rattle.std.proofs.lemmas.Bool.{and_parts, both_ways, false_from_ne_true, false≢true, ltb-true}
use Rattle.osbase.specs.{declared.references.CoreId.CoreId, declared.items.CoreSet.CoreSet, declared.items.Item.Item, declared.limits.TheConstants.CORES, Phases.is_scheduling, Sets.core_ids, Sets.has_core}
use Rattle.osbase.specs.History.{History, Took, received, started_cores}
use Rattle.osbase.proofs.{Same.same_core-true, Places.passes-at}
use Rattle.osplan.specs.View.{View, is_configured}
use Rattle.osstate.specs.{Readings.phase_at, State.state_of}
use Rattle.osadmit.specs.Admission.{admits, are_started_cores}
use Rattle.osawait.specs.Messages.{is_awaited}
use Rattle.oskernel.specs.Step.{after, history_from, outbox_size, solo_from}
use Rattle.oskernel.proofs.{Holding.quiet_after, Stages.solo-parts}
use Rattle.osrun.proofs.{Members.nobody-there, Streams.is_from, Streams.received-is}
use Rattle.osworker.proofs.Listed.{at_number}

-- ---- the started cores are configured

module _ (v : View) where
  -- What is known of the cores that a core saw started, and of those from which it received.
  record Known (h : History) : Type 0 where
    started : (id : CoreId) → has_core (started_cores h) id ≡ true → is_configured v id ≡ true
    senders : (id : CoreId) → is_configured v id ≡ false → received id h ≡ []

  set-known : (cores : CoreSet) → are_started_cores v cores ≡ true → (id : CoreId) → has_core cores id ≡ true → is_configured v id ≡ true
  set-known cores known id there =
      let low : id.number < 16 = ltb-true id.number CORES (and_parts (nat_lt id.number CORES) _ there).0 in
      let passes = passes-at (λ (c : CoreId). not (has_core cores c) || is_configured v c) core_ids id.number id (and_parts (has_core cores v.core) _ known).1 (at_number id low) in
      subst (λ (b : Bool). (not b || is_configured v id) ≡ true) there passes

  started-took : (h : History) (i : Item) → admits outbox_size (state_of v h) i ≡ true → Known h → (id : CoreId) → has_core (started_cores (Took i ∷ h)) id ≡ true → is_configured v id ≡ true
  started-took h (Item.Pass2 cores) may known id there = set-known cores (and_parts _ (are_started_cores v cores) may).1 id there
  started-took h i may known id there = known.started id there

  sender-known : (h : History) (i : Item) → admits outbox_size (state_of v h) i ≡ true → Known h → (id : CoreId) → is_from i id ≡ true → is_configured v id ≡ true
  sender-known h (Item.Received from number message) may known id is =
      subst (λ (c : CoreId). is_configured v c ≡ true) (same_core-true from id is)
      (known.started from (and_parts (has_core (started_cores h) from) _ (and_parts _ _ (and_parts _ (is_awaited outbox_size (state_of v h) from message) (and_parts (is_scheduling (phase_at v h)) _ may).1).0).0).0)
  sender-known h i may known id is = absurd (false≢true is)

  known-after : (h : History) (i : Item) → admits outbox_size (state_of v h) i ≡ true → Known h → Known (after v h i)
  known-after h i may known = record {
    started = λ id there. started-took h i may known id (ap (λ (s : CoreSet). has_core s id) (sym (quiet_after started_cores (λ m k. refl) (λ n k. refl) v h i)) ∙ there);
    senders = λ id out. received-is v id i h ∙ rw (false_from_ne_true (is_from i id) (λ is. both_ways _ out (sender-known h i may known id is))) (known.senders id out);
  }

  known-solo : (h : History) (is : List Item) → Known h → solo_from v h is ≡ Some (history_from v h is) → Known (history_from v h is)
  known-solo h [] known each = known
  known-solo h (i ∷ is) known each =
      let parts = solo-parts v h i is each in
      known-solo (after v h i) is (known-after h i parts.0 known) parts.1

  -- Nothing was received from a core that is not configured.
  pub none-received : (is : List Item) → solo_from v [] is ≡ Some (history_from v [] is) → (id : CoreId) → is_configured v id ≡ false → received id (history_from v [] is) ≡ []
  none-received is each id out = (known-solo [] is (record { started = λ c there. absurd (nobody-there c there); senders = λ c o. refl }) each).senders id out
