-- The item lists of a world, and those of the seats of a run.
use Rattle.std.proofs.Common.{◌≡◌, ℕ, zero, suc, ◌<◌, ◌≤◌, Bool, true, false, Option, Some, None, List, [], ◌∷◌, ◌++◌, length, get_or, set, refl, arith, sum_by, length-append}
use Rattle.std.specs.{Option.option_map_or, List.find, List.position, List.position_or_len}
use Rattle.std.proofs.{lemmas.Bool.Decides.nat_tests, lemmas.List.Sums.passes_at_first, lemmas.List.Sums.sum_by-cons}
use Rattle.osbase.specs.{declared.references.CoreId.CoreId, declared.items.Item.Item, History.same_core}
use Rattle.osrun.specs.declared.core_runs.CoreRun.{CoreRun}
use Rattle.osworld.specs.{World.with_item, Playing.lists_of}

abbrev pub Lists : Type 0
Lists = List (CoreId × List Item)

abbrev pub is_of : CoreId → CoreId × List Item → Bool
is_of id p = same_core p.0 id

abbrev pub list_of : CoreId → Lists → Option (CoreId × List Item)
list_of id lists = find (is_of id) lists

abbrev pub items_by : Option (CoreId × List Item) → List Item
items_by o = option_map_or (λ (p : CoreId × List Item). p.1) o []

abbrev pub is_seat_of : CoreId → CoreRun → Bool
is_seat_of id core_run = same_core core_run.id id

-- the list that an item is appended to
pub list_of-same : (id : CoreId) (item : Item) (lists : Lists) (p : CoreId × List Item) → list_of id lists ≡ Some p → list_of id (with_item id item lists) ≡ Some (p.0, p.1 ++ item ∷ [])
list_of-same id item [] p e = cc
list_of-same id item (q ∷ qs) p e = grind (arith, list_of-same id item qs p)

-- every other list is as it was
pub list_of-other : (id other : CoreId) (item : Item) (lists : Lists) → same_core id other ≡ false → list_of other (with_item id item lists) ≡ list_of other lists
list_of-other id other item [] e = refl
list_of-other id other item (q ∷ qs) e = grind (arith, nat_tests, list_of-other id other item qs e)

-- the lists of the seats, if one seat takes an item
pub lists_of-set : (id : CoreId) (item : Item) (core_runs : List CoreRun) (at : ℕ) (core_run d : CoreRun) → at ≡ position_or_len (is_seat_of id) core_runs → at < length core_runs → core_run.id ≡ (get_or core_runs at d).id → core_run.items.items ≡ (get_or core_runs at d).items.items ++ item ∷ [] → with_item id item (lists_of core_runs) ≡ lists_of (set core_runs at core_run)
lists_of-set id item [] at core_run d e lt same_id taken = absurd (omega arith)
lists_of-set id item (s ∷ ss) zero core_run d e lt same_id taken = grind arith
lists_of-set id item (s ∷ ss) (suc at) core_run d e lt same_id taken = grind (arith, lists_of-set id item ss at core_run d)

-- the list of the first seat of this core
pub list_of-core_run : (id : CoreId) (core_runs : List CoreRun) (at : ℕ) (d : CoreRun) → at ≡ position_or_len (is_seat_of id) core_runs → at < length core_runs → list_of id (lists_of core_runs) ≡ Some ((get_or core_runs at d).id, (get_or core_runs at d).items.items)
list_of-core_run id [] at d e lt = absurd (omega arith)
list_of-core_run id (s ∷ ss) zero d e lt = grind arith
list_of-core_run id (s ∷ ss) (suc at) d e lt = grind (arith, list_of-core_run id ss at d)

pub seat_is_of : (id : CoreId) (core_runs : List CoreRun) (at : ℕ) (d : CoreRun) → at ≡ position_or_len (is_seat_of id) core_runs → at < length core_runs → same_core (get_or core_runs at d).id id ≡ true
seat_is_of id core_runs at d e lt = rw e (passes_at_first (is_seat_of id) core_runs d (omega arith))

-- a core without a seat has no list
pub list_of-nobody : (id : CoreId) (core_runs : List CoreRun) → length core_runs ≤ position_or_len (is_seat_of id) core_runs → list_of id (lists_of core_runs) ≡ None
list_of-nobody id [] le = refl
list_of-nobody id (s ∷ ss) le = grind (arith, list_of-nobody id ss)

-- the place of a core's seat
pub core_run_place : (id : CoreId) (core_runs : List CoreRun) (at : ℕ) → position (is_seat_of id) core_runs ≡ Some at → (at ≡ position_or_len (is_seat_of id) core_runs) × (at < length core_runs)
core_run_place id core_runs at e = grind (arith, nat_tests)

pub seat_nowhere : (id : CoreId) (core_runs : List CoreRun) → position (is_seat_of id) core_runs ≡ None → length core_runs ≤ position_or_len (is_seat_of id) core_runs
seat_nowhere id core_runs e = grind (arith, nat_tests)

-- an item appended to a list adds one to the total
pub total-push : (id : CoreId) (item : Item) (lists : Lists) (p : CoreId × List Item) → list_of id lists ≡ Some p → sum_by (λ (q : CoreId × List Item). length q.1) (with_item id item lists) ≡ suc (sum_by (λ (q : CoreId × List Item). length q.1) lists)
total-push id item [] p e = cc
total-push id item (q ∷ qs) p e =
    let size = λ (r : CoreId × List Item). length r.1 in
    let more = sum_by-cons size (q.0, q.1 ++ item ∷ []) qs in
    grind (arith, more, sum_by-cons size q qs, sum_by-cons size q (with_item id item qs), length-append q.1 (item ∷ []), total-push id item qs p)
