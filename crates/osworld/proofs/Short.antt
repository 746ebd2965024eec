-- No core takes more than 2 ^ 48 items, so a world's items are bounded.
use Rattle.std.proofs.Common.{◌≡◌, ℕ, ◌+◌, ◌*◌, ◌^◌, ◌<◌, ◌≤◌, Some, is_some, List, [], ◌∷◌, length, map, refl, ap, sym, ◌∙◌, arith, nat_lt, sum_by, length-append}
use Rattle.std.proofs.{lemmas.Bool.and_parts, lemmas.Bool.ltb-true, lemmas.List.length-map, lemmas.List.Sums.sum_by-cons}
use Rattle.osbase.specs.{declared.references.CoreId.CoreId, declared.items.Item.Item, declared.turns.Choice.Choice, declared.turns.CoreStimuli.CoreStimuli, History.History, History.item_count, Sets.core_ids}
use Rattle.osplan.specs.{declared.plans.Plan.Plan, View.View, View.core_of, View.view_of}
use Rattle.osplan.proofs.Tests.{length-filter-le}
use Rattle.osstate.specs.State.{state_of}
use Rattle.osadmit.specs.Admission.{admits}
use Rattle.oskernel.specs.Step.{after, history_from, outbox_size}
use Rattle.osrun.specs.{Fits.ids_of, declared.requests.Request.Request}
use Rattle.osworld.specs.World.{World, with_turn, first_world, history_in, turn, with_item, world, item_total}
use Rattle.oskernel.proofs.Holding.{quiet_after}
use Rattle.osworld.proofs.{Listed.Lists, Listed.list_of, Reported.ids-world, Turns.Appends, Turns.turns-keep}

-- Each list has at most 2 ^ 48 items.
abbrev are_short : Lists → Type 0
are_short [] = Unit {0}
are_short (p ∷ ps) = (length p.1 ≤ 2 ^ 48) × are_short ps

abbrev size : CoreId × List Item → ℕ
size p = length p.1

total-bounded : (ls : Lists) → are_short ls → sum_by size ls ≤ length ls * 2 ^ 48
total-bounded [] short = omega arith
total-bounded (p ∷ ps) short =
    let rest = total-bounded ps short.1 in let first = short.0 in let all = sum_by-cons size p ps in
    omega arith

-- every item of a list is counted in its history
counted : (v : View) (h : History) (items : List Item) → item_count (history_from v h items) ≡ item_count h + length items
counted v h [] = omega arith
counted v h (i ∷ items) =
    let rest = counted v (after v h i) items in
    let one = quiet_after item_count (λ m k. refl) (λ n k. refl) v h i in
    omega arith

short-push : (id : CoreId) (item : Item) (ls : Lists) (p : CoreId × List Item) → list_of id ls ≡ Some p → length p.1 < 2 ^ 48 → are_short ls → are_short (with_item id item ls)
short-push id item [] p e lt short = cc
short-push id item (q ∷ qs) p e lt short = grind (arith, short.0, short.1, length-append q.1 (item ∷ []), short-push id item qs p)

short-on : (plan : Plan) (stimuli : List CoreStimuli) (w : World) (core : CoreId) (request : Request) (item : Item) (p : CoreId × List Item) → Appends plan stimuli w core request item p → are_short w.items → are_short (with_turn plan w core request item).items
short-on plan stimuli w core request item p turn short =
    let few = ltb-true (item_count (history_in plan w core)) (2 ^ 48) (and_parts (nat_lt (item_count (history_in plan w core)) (2 ^ 48)) (admits outbox_size (state_of (view_of plan core) (history_in plan w core)) item) turn.taken).0 in
    let all : item_count (history_in plan w core) ≡ item_count [] + length p.1 = rw turn.listed (counted (view_of plan core) [] p.1) in
    short-push core item w.items p turn.listed (omega (arith, few, all)) short

empty-short : (ids : List CoreId) → are_short (map (λ (id : CoreId). (id, [])) ids)
empty-short [] = tt
empty-short (i ∷ is) = (omega arith, empty-short is)

-- a world has at most 2 ^ 52 items
pub world-bounded : (plan : Plan) (stimuli : List CoreStimuli) (ts : List (CoreId × Choice)) → item_total (world plan stimuli ts) ≤ 2 ^ 52
world-bounded plan stimuli ts =
    let lists = (world plan stimuli ts).items in
    let total = total-bounded lists (turns-keep plan stimuli (λ (w : World). are_short w.items) (short-on plan stimuli) (first_world plan) ts (empty-short (ids_of plan))) in
    let cores = sym (length-map lists (λ (p : CoreId × List Item). p.0)) ∙ ap length (ids-world plan stimuli ts) in
    let few = length-filter-le (λ (id : CoreId). is_some (core_of plan id)) core_ids in
    omega (arith, total, cores, few)
