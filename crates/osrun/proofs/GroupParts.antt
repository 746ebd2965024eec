-- What a group's configuration keeps of an outside core's view, the item lists, the stimuli, and the spinlock calls.
use Rattle.std.proofs.Common.{◌≡◌, true, false, Option, Some, None, option_map, List, [], ◌∷◌, filter, refl, ap, unwrap_or, arith}
use Rattle.osbase.specs.{declared.references.CoreId.CoreId, declared.items.CoreSet.CoreSet, declared.items.Item.Item, declared.turns.CoreStimuli.CoreStimuli, History.History, History.received, Runs.stimuli_of, Sets.has_core}
use Rattle.osbase.proofs.Same.{same_core-true}
use Rattle.osplan.specs.{declared.plans.Plan.Plan, declared.plans.Core.Core}
use Rattle.osplan.specs.View.{View, core_of, no_core, view_of}
use Rattle.osgroup.specs.Groups.{bare_core, group_of, part_of}
use Rattle.osgroup.proofs.Seeing.{core-part, ids-same}
use Rattle.oskernel.specs.Step.{after, history_from}
use Rattle.osshared.specs.Histories.{calls_by}
use Rattle.osspin.specs.Spins.{SpinEntry}
use Rattle.osrun.specs.Fits.{items_of, stimuli_in}
use Rattle.osrun.specs.Groups.{is_bare_item, part_items, part_lists, part_stimuli}
use Rattle.osrun.proofs.{Bare.bare, OwnCore.found-id, Streams.received-is}

-- ---- what a core without objects sees

pub view-outside : (plan : Plan) (group : CoreSet) (id : CoreId) → has_core group id ≡ false → view_of (group_of plan group) id ≡ bare (view_of plan id)
view-outside plan group id outside =
    rw (core-part plan group id, ids-same group plan.cores)
    (ap (λ (own : Core). let v : View = record (view_of plan id) { own = own } in v) (by (core_of plan id) refl))
  where
    by : (o : Option Core) → core_of plan id ≡ o → unwrap_or (option_map (part_of group) o) (no_core id) ≡ bare_core (unwrap_or o (no_core id))
    by None found = refl
    by (Some c) found = rw (found-id plan id c found, outside) refl

-- ---- lists

pub items-part : (group : CoreSet) (id : CoreId) (lists : List (CoreId × List Item)) → items_of (part_lists group lists) id ≡ part_items group id (items_of lists id)
items-part group id [] = grind arith
items-part group id (p ∷ ps) = grind (arith, items-part group id ps, same_core-true p.0 id)

pub stimuli-inside : (group : CoreSet) (id : CoreId) → has_core group id ≡ true → (stimuli : List CoreStimuli) → stimuli_of (part_stimuli group stimuli) id ≡ stimuli_of stimuli id
stimuli-inside group id inside [] = refl
stimuli-inside group id inside (s ∷ ss) = grind (arith, stimuli-inside group id inside ss, same_core-true s.core id)

pub stimuli-outside : (group : CoreSet) (id : CoreId) → has_core group id ≡ false → (stimuli : List CoreStimuli) → stimuli_of (part_stimuli group stimuli) id ≡ []
stimuli-outside group id outside [] = refl
stimuli-outside group id outside (s ∷ ss) = grind (arith, stimuli-outside group id outside ss, same_core-true s.core id)

pub stimuli-bare : (items : List Item) → stimuli_in (filter is_bare_item items) ≡ []
stimuli-bare [] = refl
stimuli-bare (i ∷ is) = grind (arith, stimuli-bare is)

pub received-bare : (v : View) (from : CoreId) (items : List Item) (h : History) → received from (history_from v h (filter is_bare_item items)) ≡ received from h
received-bare v from [] h = refl
received-bare v from (i ∷ is) h = grind (arith, received-bare v from is h, received-bare v from is (after v h i), received-is v from i h)

-- ---- calls

pub calls-inside : (group : CoreSet) (id : CoreId) → has_core group id ≡ true → (log : List SpinEntry) → calls_by id (filter (λ (e : SpinEntry). has_core group e.core) log) ≡ calls_by id log
calls-inside group id inside [] = refl
calls-inside group id inside (e ∷ es) = grind (arith, calls-inside group id inside es, same_core-true id e.core)

pub calls-outside : (group : CoreSet) (id : CoreId) → has_core group id ≡ false → (log : List SpinEntry) → calls_by id (filter (λ (e : SpinEntry). has_core group e.core) log) ≡ []
calls-outside group id outside [] = refl
calls-outside group id outside (e ∷ es) = grind (arith, calls-outside group id outside es, same_core-true id e.core)
