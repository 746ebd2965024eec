-- Where the items of all cores fit, those of a group fit by the group's configuration.
use mathlib.Core.List.{IsPrefix}
use Rattle.std.proofs.Common.{◌≡◌, ⊎_elim, ℕ, nat_lt, Bool, true, false, not, ◌||◌, Option, Some, None, option_map, List, [], ◌∷◌, ◌++◌, filter, is_some, IsTrue, refl, ap, ◌∙◌, arith}
use Rattle.std.specs.List.{list_all}
use Rattle.std.proofs.lemmas.Bool.{cases_Bool}
use Rattle.osbase.specs.{declared.references.CoreId.CoreId, declared.items.CoreSet.CoreSet, declared.items.Item.Item, declared.limits.TheConstants.CORES, declared.messages.Letter.Letter, declared.objects.TheConstants.NOBODY, declared.turns.CoreStimuli.CoreStimuli, Sets.has_core}
use Rattle.osbase.specs.History.{marks_of, posted, received, same_core}
use Rattle.osbase.proofs.Same.{same_core-true}
use Rattle.osplan.specs.{declared.plans.Plan.Plan, declared.plans.Core.Core, Limits.is_within_limits}
use Rattle.osplan.specs.View.{core_of, view_of}
use Rattle.osplan.proofs.Numbered.{configured-low}
use Rattle.osgroup.specs.{Apart.is_taken_in, Apart.keeps_apart, Groups.group_of, Groups.part_of}
use Rattle.osgroup.proofs.{Apart.kept-apart, Seeing.core-part, Seeing.sees-same}
use Rattle.osservice.proofs.{Kept.is_within, Partners.Partner}
use Rattle.oskernel.specs.Step.{solo}
use Rattle.oskernel.proofs.Own.{inside-items}
use Rattle.ostrace_text.specs.Trace.{line_end, lines_of, title_of}
use Rattle.ostrace_text.proofs.Named.{lines-same}
use Rattle.osrun.specs.{Requests.Calls, Requests.calls_of, Sound.report_by}
use Rattle.osrun.specs.Fits.{AreAnswered, Fits, FitsBy, FitsCore, history_by, items_of}
use Rattle.osrun.specs.Groups.{AreApart, is_bare_item, part_lists, part_stimuli}
use Rattle.osrun.proofs.{Bare.alike-first, Bare.bare, BareTurns.IsBare, BareTurns.all-bare, Beginnings.begins-all_pass, GroupMail.high-silent, GroupMail.none-asked, GroupSpins.calls-asked, Mailed.is_reply, Mailed.posts-nothing, Mailed.posts-replies, OwnCore.found-id, OwnCore.own-by}
use Rattle.osrun.proofs.GroupParts.{calls-inside, calls-outside, items-part, received-bare, stimuli-bare, stimuli-inside, stimuli-outside, view-outside}
use Rattle.osrun.proofs.GroupNames.{asks_inside, asks_outside, inside-allow, outside-allow, outside-unhalted}
use Rattle.osrun.proofs.SpinSides.{inside_calls, are_of_sides, legal-apart, sides-together}

nil-front : (xs ys : List Letter) → xs ++ ys ≡ [] → xs ≡ []
nil-front [] ys e = refl
nil-front (x ∷ xs) ys e = cc

module _ (plan : Plan) (stimuli : List CoreStimuli) (lists : List (CoreId × List Item)) (group : CoreSet) (calls : Calls)
    (fits : FitsBy plan stimuli lists calls) (keeps : list_all (keeps_apart plan group) plan.cores ≡ true) where
  abbrev part : Plan
  part = group_of plan group

  -- All calls of the board, and those calls of the spinlocks that cores of the group make.
  abbrev made : Calls
  made = record { board = calls.board; spins = inside_calls (has_core group) (is_taken_in plan group) calls.spins }

  abbrev taken : CoreId → List Item
  taken id = items_of lists id

  abbrev kept : CoreId → List Item
  kept id = items_of (part_lists group lists) id

  either : {A : Type 0} (id : CoreId) → (has_core group id ≡ true → A) → (has_core group id ≡ false → A) → A
  either id inside outside = ⊎_elim inside outside (cases_Bool (has_core group id))

  items-inside : (id : CoreId) → has_core group id ≡ true → kept id ≡ taken id
  items-inside id inside = rw (items-part group id lists, inside) refl

  items-outside : (id : CoreId) → has_core group id ≡ false → kept id ≡ filter is_bare_item (taken id)
  items-outside id outside = rw (items-part group id lists, outside) refl

  -- ---- no letter comes from outside

  sparing : (id : CoreId) → has_core group id ≡ false → nat_lt id.number CORES ≡ true → asks_inside plan group (Partner.Core id) ≡ false
  sparing id outside low = grind (arith, outside, low)

  none-received : (from to : CoreId) → has_core group from ≡ false → has_core group to ≡ true → received from (history_by plan to (taken to)) ≡ []
  none-received from to outside inside =
      ⊎_elim
      (λ low.
      let replies = begins-all_pass is_reply _ _ (fits.streams to from)
      (posts-replies from (view_of plan to) (asks_inside plan group) (sparing from outside low) (inside-allow plan group keeps to inside) (taken to) (fits.cores to).alone) in
      let silent = posts-nothing to (view_of plan from) (asks_outside plan group) (ap not inside) (outside-allow plan group keeps from outside) (taken from) (fits.cores from).alone
      (none-asked to (view_of plan from) (taken from) [] replies) in
      nil-front _ _ ((fits.streams from to).1 ∙ silent))
      (λ high. high-silent from (view_of plan to) high (taken to) [] (fits.cores to).alone)
      (cases_Bool (nat_lt from.number CORES))

  streams : (from to : CoreId) → IsPrefix (received from (history_by part to (kept to))) (posted to (history_by part from (kept from)))
  streams from to =
      either to
      (λ inside.
      either from
      (λ both. rw (sees-same plan group to inside, items-inside to inside, sees-same plan group from both, items-inside from both) (fits.streams from to))
      (λ other. rw (sees-same plan group to inside, items-inside to inside, none-received from to other inside) (_, refl)))
      (λ outside. rw (view-outside plan group to outside, items-outside to outside, received-bare (bare (view_of plan to)) from (taken to) []) (_, refl))

  -- ---- each core

  outside-bare : (id : CoreId) (outside : has_core group id ≡ false) → IsBare (view_of plan id) [] (taken id) (calls_of id calls)
  outside-bare id outside =
      all-bare (view_of plan id) (outside-unhalted plan group keeps id outside) (taken id) [] [] (calls_of id calls) (alike-first (view_of plan id)) refl (fits.cores id).alone (fits.answers id)

  cores : (id : CoreId) → FitsCore part (part_stimuli group stimuli) id (kept id)
  cores id =
      either id
      (λ inside. record {
        alone = rw (sees-same plan group id inside, items-inside id inside) (fits.cores id).alone;
        begins = rw (items-inside id inside, stimuli-inside group id inside stimuli) (fits.cores id).begins;
        drains = rw (sees-same plan group id inside, items-inside id inside, stimuli-inside group id inside stimuli) (fits.cores id).drains;
      })
      (λ outside. record {
        alone = rw (view-outside plan group id outside, items-outside id outside) (outside-bare id outside).each;
        begins = rw (items-outside id outside, stimuli-bare (taken id)) (_, refl);
        drains = λ drained going. rw (items-outside id outside, stimuli-outside group id outside stimuli) (stimuli-bare (taken id));
      })

  answers : (id : CoreId) → AreAnswered (view_of part id) [] (kept id) (calls_of id made)
  answers id =
      either id
      (λ inside. rw (sees-same plan group id inside, items-inside id inside, calls-inside group id inside calls.spins) (fits.answers id))
      (λ outside. rw (view-outside plan group id outside, items-outside id outside, calls-outside group id outside calls.spins) (outside-bare id outside).answers)

  -- Each call is of a spinlock on its core's side.
  sided : are_of_sides (has_core group) (is_taken_in plan group) calls.spins ≡ true
  sided =
      sides-together (has_core group) (is_taken_in plan group) calls.spins (λ id.
      either id
      (λ inside. rw inside (calls-asked (view_of plan id) (asks_inside plan group) (inside-allow plan group keeps id inside) (taken id) [] (calls_of id calls) refl refl (fits.cores id).alone (fits.answers id)))
      (λ outside. rw outside (calls-asked (view_of plan id) (asks_outside plan group) (outside-allow plan group keeps id outside) (taken id) [] (calls_of id calls) refl refl (fits.cores id).alone (fits.answers id))))

  pub group-fits : Fits part (part_stimuli group stimuli) (part_lists group lists)
  group-fits = (made, record { cores = cores; streams = streams; board = fits.board; spins = legal-apart (has_core group) (is_taken_in plan group) calls.spins sided fits.spins; answers = answers })

-- ---- what the group's cores print

-- A core of the group has the same report by both configurations.
same-report : (plan : Plan) (group : CoreSet) (lists : List (CoreId × List Item)) (id : CoreId) → has_core group id ≡ true → report_by (group_of plan group) id (items_of (part_lists group lists) id) ≡ report_by plan id (items_of lists id)
same-report plan group lists id inside = rw (sees-same plan group id inside, items-part group id lists, inside) refl

-- The core is in the group, or its number is that of no core.
abbrev is_near : CoreSet → CoreId → Bool
is_near group id = has_core group id || same_core id NOBODY

-- Such a core has the same objects in both configurations.
core-near : (plan : Plan) (group : CoreSet) → IsTrue (is_within_limits plan) → (id : CoreId) → is_near group id ≡ true → core_of (group_of plan group) id ≡ core_of plan id
core-near plan group limits id near = core-part plan group id ∙ by (core_of plan id) refl
  where
    by : (o : Option Core) → core_of plan id ≡ o → option_map (part_of group) o ≡ o
    by None found = refl
    by (Some c) found = grind (arith, near, found-id plan id c found, configured-low plan id limits (ap is_some found))

-- What a core of the group prints names objects of the group alone, which have the same names in both configurations.
module _ (plan : Plan) (group : CoreSet) (limits : IsTrue (is_within_limits plan)) (keeps : list_all (keeps_apart plan group) plan.cores ≡ true) (id : CoreId) (inside : has_core group id ≡ true) where
  own-near : is_near group (view_of plan id).own.id ≡ true
  own-near = own-by plan id (λ (c : Core). is_near group c.id ≡ true) (grind (arith, inside)) (λ c found. grind (arith, inside, found-id plan id c found))

  within-near : (core : CoreId) → is_within (view_of plan id) (asks_inside plan group) core ≡ true → is_near group core ≡ true
  within-near core within = grind (arith, inside, within, same_core-true core id)

  lines-apart : (items : List Item) → solo (view_of plan id) items ≡ Some (history_by plan id items) → lines_of (group_of plan group) (marks_of (history_by plan id items)) ≡ lines_of plan (marks_of (history_by plan id items))
  lines-apart items each =
      lines-same (group_of plan group) plan (is_near group) (core-near plan group limits) (marks_of (history_by plan id items))
      (inside-items (view_of plan id) (asks_inside plan group) (is_near group) (inside-allow plan group keeps id inside) within-near own-near items [] each (record { own = refl; caller = refl })).own

-- Where the items of all cores fit, each group is apart.
pub fits-apart : (plan : Plan) (stimuli : List CoreStimuli) (lists : List (CoreId × List Item)) → Fits plan stimuli lists → IsTrue (is_within_limits plan) → AreApart plan stimuli lists
fits-apart plan stimuli lists fits limits group some there is = record {
  fit = group-fits plan stimuli lists group fits.0 fits.1 keeps;
  same = λ id inside. same-report plan group lists id inside;
  block = λ id inside. ap (λ (lines : List ℕ). (title_of id ++ line_end) ++ lines) (lines-apart plan group limits keeps id inside (items_of lists id) (fits.1.cores id).alone);
}
  where
    keeps : list_all (keeps_apart plan group) plan.cores ≡ true
    keeps = kept-apart plan group some limits is there
