-- A group of cores by itself. In its configuration the other cores have no objects. The group's item lists fit by this
-- configuration too, with those of the others' items that a core without objects can take. Each core prints the same.
use Rattle.std.specs.Prelude.{◌≡◌, Bool, true, false, if◌then◌else◌, IsTrue, List, filter, map}
use Rattle.osbase.specs.{declared.references.CoreId.CoreId, declared.items.CoreSet.CoreSet, declared.items.Item.Item, declared.turns.CoreStimuli.CoreStimuli, Sets.has_core}
use Rattle.osplan.specs.declared.plans.Plan.{Plan}
use Rattle.osgroup.specs.Groups.{group_of, is_group}
use Rattle.ostrace_text.specs.Trace.{block_of}
use Rattle.osrun.specs.{Fits.Fits, Fits.items_of, Reports.report_by}

-- A core without objects can take this item. Such a core is started, starts others, passes each gate, is halted, drains
-- and ends. It takes no stimulus, neither posts nor receives a letter, and calls no spinlock.
abbrev pub is_bare_item : Item → Bool
is_bare_item (Item.Stim stimulus) = false
is_bare_item (Item.Posted to) = false
is_bare_item (Item.Received from number message) = false
is_bare_item (Item.Granted l) = false
is_bare_item (Item.Tried l taken) = false
is_bare_item (Item.Freed l) = false
is_bare_item item = true

-- What is left of a core's items in the group's configuration: all items of a core of the group; of any other core, the
-- items that a core without objects can take.
abbrev pub part_items : CoreSet → CoreId → List Item → List Item
part_items group id items = if has_core group id then items else filter is_bare_item items

-- The cores' item lists, each with what is left of it in the group's configuration (`part_items`).
abbrev pub part_lists : CoreSet → List (CoreId × List Item) → List (CoreId × List Item)
part_lists group lists = map (λ (p : CoreId × List Item). (p.0, part_items group p.0 p.1)) lists

-- The stimuli of the group's cores alone.
abbrev pub part_stimuli : CoreSet → List CoreStimuli → List CoreStimuli
part_stimuli group stimuli = filter (λ (s : CoreStimuli). has_core group s.core) stimuli

-- The item lists of the group's cores, and what is left of the others' (`part_items`), fit by the group's configuration
-- and stimuli. By that configuration, each core of the group has the same report, and prints the same bytes, as by the
-- whole one. [own]
pub record IsApart (plan : Plan) (stimuli : List CoreStimuli) (group : CoreSet) (lists : List (CoreId × List Item)) : Type 0 where
  pub fit : Fits (group_of plan group) (part_stimuli group stimuli) (part_lists group lists)
  pub same : (id : CoreId) → has_core group id ≡ true → report_by (group_of plan group) id (items_of (part_lists group lists) id) ≡ report_by plan id (items_of lists id)
  pub block : (id : CoreId) → has_core group id ≡ true → block_of (group_of plan group) (report_by plan id (items_of lists id)) ≡ block_of plan (report_by plan id (items_of lists id))

-- `IsApart` holds of each group with at least one core. The empty group is left out: a core outside of it may shut down
-- all cores, which no core without objects requests.
abbrev pub AreApart : Plan → List CoreStimuli → List (CoreId × List Item) → Type 0
AreApart plan stimuli lists = (group : CoreSet) (id : CoreId) → IsTrue (has_core group id) → IsTrue (is_group plan group) → IsApart plan stimuli group lists
