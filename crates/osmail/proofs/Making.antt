-- How the rings of all ordered pairs of ends are made, one after another.
use native.Mathlib.Omega.{arith}
use Rattle.std.proofs.Common.{◌≡◌, ◌<◌, ◌+◌, ◌==◌, ◌&&◌, ℕ, zero, suc, Option, Some, None, List, [], ◌∷◌, length, map, take, get_or, set, replicate, refl, sym, ap, subst, ◌∙◌, length-set, get_or-set_other}
use Rattle.std.proofs.lemmas.Bool.Decides.{nat_tests}
use Rattle.std.proofs.lemmas.Grind.{get_or-set_at}
use Rattle.std.proofs.lemmas.List.{get_or_default, length-map, map-set, take_more}
use Rattle.std.proofs.lemmas.List.Elements.{All-from_get_or, All-from_recursion, All-map, All-replicate, All-set, recursion_from_All}
use Rattle.std.specs.{List.AllByRecursion, Global.Vec, Option.option_map, Prelude.if◌then◌else◌}
use Rattle.rtrb.specs.Ring.{IsPair, known_free, received, sent}
use Rattle.osbase.specs.{declared.limits.TheConstants.CORES, declared.references.CoreId.CoreId, declared.messages.Letter.Letter}
use Rattle.osmail.specs.{declared.rings.RingEnd.RingEnd, Ends.letters_of}
use Rattle.osmail.specs.Rings.{AreApart, AreCores, AreLinked, AreMade, EndId, HasFreshRings, HasPlaces, HasRoom, IsApart, IsBare, IsInRange, IsLinked, IsUnsent, IsUntaken, IsUnused, RingId, Sender, Taker, core_at, core_of_end, end_id, free_at, free_of, free_to, ring_from, ring_to, sent_by, taken_by}
use Rattle.osmail.proofs.Through.{all-at, all-get, all-map, all-snoc, read_at, read_same}

-- ---- all of a list

all-set : {A : Type 0} (P : A → Type 0) (xs : List A) (i : ℕ) (x : A) → AllByRecursion P xs → P x → AllByRecursion P (set xs i x)
all-set P xs i x all one = recursion_from_All P (set xs i x) (All-set P xs i x one (All-from_recursion P xs all))

-- An element is replaced by one of which `P` holds, too.
all-kept : {A : Type 0} (P : A → Type 0) (xs : List A) (i : ℕ) (old new : A) → i < length xs → old ≡ get_or xs i old → (P old → P new) → AllByRecursion P xs → AllByRecursion P (set xs i new)
all-kept P xs i old new within is keeps all = all-set P xs i new all (keeps (subst P (sym is) (all-get P xs i old within all)))

all-make : {A : Type 0} (P : A → Type 0) (xs : List A) (d : A) → ((k : ℕ) → k < length xs → P (get_or xs k d)) → AllByRecursion P xs
all-make P xs d each = recursion_from_All P xs (All-from_get_or P xs d each)

all-mapped : {A B : Type 0} (P : A → Type 0) (Q : B → Type 0) (f : A → B) (xs : List A) → ((x : A) → P x → Q (f x)) → AllByRecursion P xs → AllByRecursion Q (map f xs)
all-mapped P Q f xs each all = recursion_from_All Q (map f xs) (All-map Q f xs (λ k d within. each (get_or xs k d) (all-get P xs k d within all)))

-- ---- a table: a row for each end, with a place for each core number

abbrev nobody : CoreId
nobody = record { number = 0 }

abbrev number_at : List CoreId → ℕ → ℕ
number_at cores k = (get_or cores k nobody).number

abbrev entry : {B : Type 0} → List (List B) → ℕ → ℕ → B → B
entry rows k n d = get_or (get_or rows k []) n d

abbrev put : {B : Type 0} → List (List B) → ℕ → ℕ → B → List (List B)
put rows i n v = set rows i (set (get_or rows i []) n v)

abbrev HasPlace : {B : Type 0} → List (List B) → ℕ → ℕ → Type 0
HasPlace rows i n = (i < length rows) × (n < length (get_or rows i []))

put-at : {B : Type 0} (rows : List (List B)) (i n : ℕ) (v d : B) → HasPlace rows i n → (k m : ℕ) → entry (put rows i n v) k m d ≡ (if i == k && n == m then v else entry rows k m d)
put-at rows i n v d has k m = grind (arith, nat_tests, get_or-set_at, get_or-set_other)

apart-at : (cores : List CoreId) → AreApart cores → (k l : ℕ) → k < length cores → l < length cores → number_at cores k ≡ number_at cores l → k ≡ l
apart-at [] apart k l within within' same = absurd (omega (arith, within))
apart-at (c ∷ cs) apart zero zero within within' same = refl
apart-at (c ∷ cs) apart zero (suc l) within within' same = absurd (all-get (IsApart c) cs l nobody (omega (arith, within')) apart.0 same)
apart-at (c ∷ cs) apart (suc k) zero within within' same = absurd (all-get (IsApart c) cs k nobody (omega (arith, within)) apart.0 (sym same))
apart-at (c ∷ cs) apart (suc k) (suc l) within within' same = ap suc (apart-at cs apart.1 k l (omega (arith, within)) (omega (arith, within')) same)

-- Two tables, of the rings by which each end sends, and by which each takes. For each pair of ends, both have the same
-- ring.
abbrev AreCrossed : List CoreId → List (List (Option RingId)) → List (List (Option RingId)) → Type 0
AreCrossed cores tos froms = (k l : ℕ) → k < length cores → l < length cores → entry tos k (number_at cores l) None ≡ entry froms l (number_at cores k) None

-- The two tables still have the same ring for each pair, if one ring more is put into both.
crossed : (cores : List CoreId) (tos froms : List (List (Option RingId))) (i j : ℕ) (ring : Option RingId) → AreApart cores → i < length cores → j < length cores → HasPlace tos i (number_at cores j) → HasPlace froms j (number_at cores i) → AreCrossed cores tos froms
    → AreCrossed cores (put tos i (number_at cores j) ring) (put froms j (number_at cores i) ring)
crossed cores tos froms i j ring apart within within' has has' all k l below below' =
    let to = put-at tos i (number_at cores j) ring None has k (number_at cores l) in
    let from = put-at froms j (number_at cores i) ring None has' l (number_at cores k) in
    let sender = apart-at cores apart i k within below in
    let taker = apart-at cores apart j l within' below' in
    grind (arith, nat_tests, to, from, sender, taker, all k l below below')

-- ---- the tables of ends

abbrev to_rows : {B : Type 0} → (Option Sender → B) → List RingEnd → List (List B)
to_rows f ends = map (λ (end : RingEnd). map f end.to.items) ends

abbrev from_rows : {B : Type 0} → (Option Taker → B) → List RingEnd → List (List B)
from_rows f ends = map (λ (end : RingEnd). map f end.from.items) ends

abbrev cores_of : List RingEnd → List CoreId
cores_of ends = map core_of_end ends

abbrev no_end : EndId
no_end = record { core = nobody; to = []; from = [] }

id-at : (ends : List RingEnd) (k : ℕ) → get_or (map end_id ends) k no_end ≡ record { core = get_or (cores_of ends) k nobody; to = get_or (to_rows (option_map ring_to) ends) k []; from = get_or (from_rows (option_map ring_from) ends) k [] }
id-at [] k = refl
id-at (end ∷ ends) zero = refl
id-at (end ∷ ends) (suc k) = id-at ends k

free-entry : (ends : List RingEnd) (k : ℕ) (d : CoreId) → free_at ends k d ≡ entry (to_rows free_of ends) k d.number 0
free-entry [] k d = refl
free-entry (end ∷ ends) zero d = refl
free-entry (end ∷ ends) (suc k) d = free-entry ends k d

module _ (ends : List RingEnd) where
  abbrev AreCrossedEnds : Type 0
  AreCrossedEnds = AreCrossed (cores_of ends) (to_rows (option_map ring_to) ends) (from_rows (option_map ring_from) ends)

  linked-crossed : AreLinked (map end_id ends) → AreCrossedEnds
  linked-crossed linked k l below below' =
      let ids = map end_id ends in
      let lengths = length-map ends end_id in
      let cores = length-map ends core_of_end in
      let row = all-get (λ (a : EndId). AllByRecursion (IsLinked a) ids) ids k no_end (omega (arith, below, lengths, cores)) linked in
      rw (id-at ends k, id-at ends l) at (all-get (IsLinked (get_or ids k no_end)) ids l no_end (omega (arith, below', lengths, cores)) row)

  crossed-linked : AreCrossedEnds → AreLinked (map end_id ends)
  crossed-linked all =
      let ids = map end_id ends in
      let lengths = length-map ends end_id in
      let cores = length-map ends core_of_end in
      all-make (λ (a : EndId). AllByRecursion (IsLinked a) ids) ids no_end
      (λ k within. all-make (IsLinked (get_or ids k no_end)) ids no_end
      (λ l within'. rw (id-at ends k, id-at ends l) (all k l (omega (arith, within, lengths, cores)) (omega (arith, within', lengths, cores)))))

-- Each end has a place for the core of each end.
has-place : {B : Type 0} (row : RingEnd → List B) (ends : List RingEnd) (i j : ℕ) → ((end : RingEnd) → HasPlaces end → length (row end) ≡ CORES) → AreMade ends → i < length ends → j < length ends → HasPlace (map row ends) i (core_at ends j).number
has-place row ends i j wide made within within' =
    let below = all-get IsInRange (cores_of ends) j nobody (omega (arith, length-map ends core_of_end)) made.cores.0 in
    let places = all-get (λ row. length row ≡ CORES) (map row ends) i [] (omega (arith, length-map ends row)) (all-mapped HasPlaces (λ row. length row ≡ CORES) row ends wide made.places) in
    (omega (arith, length-map ends row), omega (arith, below, places))

pub place_for : (ends : List RingEnd) (i j : ℕ) (e g : RingEnd) → i < length ends → j < length ends → AreMade ends → e ≡ get_or ends i e → g ≡ get_or ends j g → g.core.number < length e.to.items
place_for ends i j e g within within' made is is' =
    let places : HasPlaces e = subst HasPlaces (sym is) (all-get HasPlaces ends i e within made.places) in
    let below : IsInRange g.core = all-at IsInRange core_of_end ends j g within' is' made.cores.0 in
    omega (arith, places.0, below)

-- ---- one ring more between two ends

one-ring : (p : Sender) (c : Taker) → IsPair p c → ring_from c ≡ ring_to p
one-ring p c pair = λ s. record { words = pair.0 s; slots = pair.1 s; names = pair.2 s; heap = pair.3 s }

module _ (ends : List RingEnd) (i j : ℕ) (e e' : RingEnd) (p : Sender) (within : i < length ends) (within' : j < length ends) (made : AreMade ends)
    (is : e ≡ get_or ends i e) (core : e'.core ≡ e.core) (to : e'.to.items ≡ set e.to.items (core_at ends j).number (Some p)) (from : e'.from ≡ e.from) where
  abbrev between : List RingEnd
  between = set ends i e'

  beyond : j < length between
  beyond = omega (arith, within', length-set ends i e')

  places-between : AllByRecursion HasPlaces between
  places-between = all-kept HasPlaces ends i e e' within is (λ has. rw (to, from, length-set) has) made.places

  -- the second end has a place for the first one's core
  pub place_after : (g s : RingEnd) → g ≡ get_or between j g → s ≡ get_or ends i s → s.core.number < length g.from.items
  place_after g s is' there =
      let places : HasPlaces g = subst HasPlaces (sym is') (all-get HasPlaces between j g beyond places-between) in
      let below : IsInRange s.core = all-at IsInRange core_of_end ends i s within there made.cores.0 in
      omega (arith, places.1, below)

  module _ (g g' : RingEnd) (c : Taker)
      (is' : g ≡ get_or between j g) (core' : g'.core ≡ g.core) (to' : g'.to ≡ g.to) (from' : g'.from.items ≡ set g.from.items (core_at ends i).number (Some c))
      (pair : IsPair p c) (unsent : sent p ≡ []) (untaken : received c ≡ []) where
    abbrev after : List RingEnd
    after = set between j g'

    cores_kept : cores_of after ≡ cores_of ends
    cores_kept = read_same core_of_end between j g g' beyond is' core' ∙ read_same core_of_end ends i e e' within is core

    -- each table has one value more, which is read off the ring
    to-after : {B : Type 0} (f : Option Sender → B) → to_rows f after ≡ put (to_rows f ends) i (core_at ends j).number (f (Some p))
    to-after f =
        let row = λ (end : RingEnd). map f end.to.items in
        read_same row between j g g' beyond is' (ap (λ (v : Vec (Option Sender)). map f v.items) to')
        ∙ map-set row ends i e'
        ∙ ap (set (to_rows f ends) i) (ap (map f) to ∙ map-set f e.to.items (core_at ends j).number (Some p) ∙ ap (λ r. set r (core_at ends j).number (f (Some p))) (sym (read_at row ends i e [] within is)))

    from-after : {B : Type 0} (f : Option Taker → B) → from_rows f after ≡ put (from_rows f ends) j (core_at ends i).number (f (Some c))
    from-after f =
        let row = λ (end : RingEnd). map f end.from.items in
        map-set row between j g'
        ∙ ap (set (from_rows f between) j) (ap (map f) from' ∙ map-set f g.from.items (core_at ends i).number (Some c) ∙ ap (λ r. set r (core_at ends i).number (f (Some c))) (sym (read_at row between j g [] beyond is')))
        ∙ ap (λ rows. put rows j (core_at ends i).number (f (Some c))) (read_same row ends i e e' within is (ap (λ (v : Vec (Option Taker)). map f v.items) from))

    crossed-after : AreCrossedEnds after
    crossed-after =
        let count = length-map ends core_of_end in
        let ring_row = option_map ring_to in let ring_row' = option_map ring_from in
        rw (to-after ring_row, from-after ring_row', cores_kept, one-ring p c pair)
        (crossed (cores_of ends) (to_rows ring_row ends) (from_rows ring_row' ends) i j (Some (ring_to p)) made.cores.1 (omega (arith, within, count)) (omega (arith, within', count))
        (has-place (λ (end : RingEnd). map ring_row end.to.items) ends i j (λ end has. length-map end.to.items ring_row ∙ has.0) made within within')
        (has-place (λ (end : RingEnd). map ring_row' end.from.items) ends j i (λ end has. length-map end.from.items ring_row' ∙ has.1) made within' within)
        (linked-crossed ends made.linked))

    fresh-after : AllByRecursion HasFreshRings after
    fresh-after =
        all-kept HasFreshRings between j g g' beyond is' (λ fresh. rw (to', from') (fresh.0, all-set IsUntaken g.from.items (core_at ends i).number (Some c) fresh.1 (ap letters_of untaken)))
        (all-kept HasFreshRings ends i e e' within is (λ fresh. rw (to, from) (all-set IsUnsent e.to.items (core_at ends j).number (Some p) fresh.0 (ap letters_of unsent), fresh.1)) made.fresh)

    -- towards each core, the slots that are known to be free
    free-after : (k : ℕ) (d : CoreId) → free_at after k d ≡ (if i == k && (core_at ends j).number == d.number then known_free p else free_at ends k d)
    free-after k d =
        rw (free-entry after k d, free-entry ends k d, to-after free_of)
        (put-at (to_rows free_of ends) i (core_at ends j).number (known_free p) 0 (has-place (λ (end : RingEnd). map free_of end.to.items) ends i j (λ end has. length-map end.to.items free_of ∙ has.0) made within within') k d.number)

    pub one_ring_more : AreMade after × (cores_of after ≡ cores_of ends) × ((cap : ℕ) → known_free p ≡ cap → ((k : ℕ) (d : CoreId) → free_at ends k d ≡ cap → free_at after k d ≡ cap) × (free_at after i (core_at ends j) ≡ cap))
    one_ring_more = (
      record {
        cores = subst AreCores (sym cores_kept) made.cores;
        places = all-kept HasPlaces between j g g' beyond is' (λ has. rw (to', from', length-set) has) places-between;
        linked = crossed-linked after crossed-after;
        fresh = fresh-after;
      },
      cores_kept,
      λ cap free. (λ k d was. grind (arith, nat_tests, free-after k d), grind (arith, nat_tests, free-after i (core_at ends j))),
    )

-- ---- ends without rings

none-there : {A B : Type 0} (f : A → B) (n k : ℕ) → get_or (map (option_map f) (replicate n None)) k None ≡ None
none-there f zero k = refl
none-there f (suc n) zero = refl
none-there f (suc n) (suc k) = none-there f n k

pub bare_made : (ends : List RingEnd) → AreCores (map core_of_end ends) → AllByRecursion IsBare ends → AreMade ends
bare_made ends cores bare = record {
  cores = cores;
  places = all-map IsBare HasPlaces ends (λ end is. rw (is.to, is.from) (refl, refl)) bare;
  linked = all-mapped IsBare (λ (a : EndId). AllByRecursion (IsLinked a) (map end_id ends)) end_id ends (λ a is. all-mapped IsBare (IsLinked (end_id a)) end_id ends (λ b is'. rw (is.to, is'.from) (none-there ring_to CORES b.core.number ∙ sym (none-there ring_from CORES a.core.number))) bare) bare;
  fresh = all-map IsBare HasFreshRings ends (λ end is. rw (is.to, is.from) (recursion_from_All IsUnsent (replicate CORES None) (All-replicate IsUnsent CORES None refl), recursion_from_All IsUntaken (replicate CORES None) (All-replicate IsUntaken CORES None refl))) bare;
}

-- ---- ends that were not used

nothing-through : {A : Type 0} (past : A → List Letter) (xs : List A) (n : ℕ) → AllByRecursion (λ x. past x ≡ []) xs → get_or (map past xs) n [] ≡ []
nothing-through past [] n none = refl
nothing-through past (x ∷ xs) zero none = none.0
nothing-through past (x ∷ xs) (suc n) none = nothing-through past xs n none.1

pub all_unused : (ends : List RingEnd) → AreMade ends → AllByRecursion IsUnused ends
all_unused ends made = all-map HasFreshRings IsUnused ends (λ end fresh c. (nothing-through sent_by end.to.items c.number fresh.0, nothing-through taken_by end.from.items c.number fresh.1)) made.fresh

-- ---- room, end by end

-- One more core has room.
pub room_more : (P : CoreId → Type 0) (cores : List CoreId) (j : ℕ) → j < length cores → AllByRecursion P (take j cores) → P (get_or cores j (record { number = 0 })) → AllByRecursion P (take (j + 1) cores)
room_more P cores j within all one = subst (AllByRecursion P) (sym (take_more cores j nobody within)) (all-snoc P (take j cores) (get_or cores j nobody) all one)

-- All ends have room, if the end at each place has.
pub room_all : (ends : List RingEnd) (cores : List CoreId) (cap : ℕ) → ((k : ℕ) → k < length ends → AllByRecursion (λ d. free_at ends k d ≡ cap) cores) → AllByRecursion (HasRoom cores cap) ends
room_all ends cores cap each = recursion_from_All (HasRoom cores cap) ends (λ k d within. all-map (λ c. free_at ends k c ≡ cap) (λ c. free_to c (get_or ends k d) ≡ cap) cores (λ c free. sym (read_at (free_to c) ends k (get_or ends k d) 0 within (get_or_default ends k d (get_or ends k d) within)) ∙ free) (each k within))
