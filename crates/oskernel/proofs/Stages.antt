-- The phase in which an item is taken, and the first of a core's items.
use Rattle.std.proofs.Common.{◌≡◌, ◌^◌, Bool, true, false, nat_lt, Option, Some, None, List, ◌∷◌, arith}
use Rattle.std.proofs.{lemmas.Bool.and_parts, lemmas.Bool.cond_both, lemmas.Option.none-some}
use Rattle.osbase.specs.{declared.items.Item.Item, declared.histories.Phase.Phase, History.History, History.item_count, Phases.is_scheduling}
use Rattle.osplan.specs.View.{View}
use Rattle.osstate.specs.{Readings.phase_at, State.state_of}
use Rattle.osadmit.specs.Admission.{admits}
use Rattle.oskernel.specs.Step.{after, history_from, outbox_size, solo_from, takes}

-- The item posts a letter, or receives one.
abbrev pub is_mail : Item → Bool
is_mail (Item.Posted to) = true
is_mail (Item.Received from number message) = true
is_mail item = false

-- The phase in which the item is taken, if it is taken in only one. Mail is taken in each phase in which a core
-- schedules.
abbrev pub stage_of : Item → Option Phase
stage_of Item.On = Some Phase.Off
stage_of (Item.Began core status) = Some Phase.Boot
stage_of Item.Entered = Some Phase.Boot
stage_of (Item.Pass1 agreement) = Some Phase.FirstGate
stage_of Item.Readied = Some Phase.BetweenGates
stage_of (Item.Pass2 cores) = Some Phase.SecondGate
stage_of (Item.Stim stimulus) = Some Phase.Live
stage_of (Item.Granted l) = Some Phase.Live
stage_of (Item.Tried l taken) = Some Phase.Live
stage_of (Item.Freed l) = Some Phase.Live
stage_of (Item.Halt core status) = Some Phase.Live
stage_of Item.Drained = Some Phase.Live
stage_of Item.PassEnd = Some Phase.Drained
stage_of (Item.Last shutdown) = Some Phase.Closing
stage_of item = None

pub stage : (v : View) (h : History) (i : Item) → is_mail i ≡ false → admits outbox_size (state_of v h) i ≡ true → Some (phase_at v h) ≡ stage_of i
stage v h i m t = grind (arith, m, t)

pub mail-schedules : (v : View) (h : History) (i : Item) → is_mail i ≡ true → admits outbox_size (state_of v h) i ≡ true → is_scheduling (phase_at v h) ≡ true
mail-schedules v h i m t = grind (arith, m, t)

-- A core that is off takes only the item `On`.
pub only-on : (v : View) (h : History) (i : Item) → admits outbox_size (state_of v h) i ≡ true → phase_at v h ≡ Phase.Off → i ≡ Item.On
only-on v h i taken off = grind (arith, taken, off)

-- If a core's items may be taken in turn, the first may be taken, and then the others in turn.
pub solo-parts : (v : View) (h : History) (i : Item) (is : List Item) → solo_from v h (i ∷ is) ≡ Some (history_from v h (i ∷ is)) → (admits outbox_size (state_of v h) i ≡ true) × (solo_from v (after v h i) is ≡ Some (history_from v (after v h i) is))
solo-parts v h i is each =
    cond_both (takes outbox_size v h i) (solo_from v (after v h i) is) None
    (λ (o : Option History). o ≡ Some (history_from v (after v h i) is) → (admits outbox_size (state_of v h) i ≡ true) × (solo_from v (after v h i) is ≡ Some (history_from v (after v h i) is)))
    (λ turn rest. ((and_parts (nat_lt (item_count h) (2 ^ 48)) (admits outbox_size (state_of v h) i) turn).1, rest)) (λ other rest. absurd (none-some _ rest)) each
