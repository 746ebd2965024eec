-- What went through rings, if one of them changed; and what both ends of a ring show together.
use native.Mathlib.Omega.{arith}
use Rattle.std.proofs.Common.{◌≡◌, ◌==◌, ◌<◌, ◌≤◌, ◌+◌, ℕ, zero, suc, Option, Some, None, List, [], ◌∷◌, ◌++◌, length, map, take, get_or, set, refl, sym, ap, subst, ◌∙◌, get_or-set_other}
use Rattle.std.proofs.lemmas.{Bool.Decides.nat_tests, Grind.get_or-set_at, List.get_or-map, List.length-map, List.map-append, List.map-set}
use Rattle.std.proofs.lemmas.List.Elements.{All-from_recursion, All-more, All-push, recursion_from_All}
use Rattle.std.specs.{List.AllByRecursion, Option.option_map, Prelude.if◌then◌else◌}
use Rattle.rtrb.specs.Ring.{IsPair, known_items, received, sent}
use Rattle.osbase.specs.{declared.messages.Envelope.Envelope, declared.messages.Letter.Letter}
use Rattle.osmail.specs.{declared.rings.RingEnd.RingEnd, Ends.letters_of}
use Rattle.osmail.specs.Rings.{AreBothDelivered, AreBothLinked, AreDelivered, AreLinked, EndId, EndPast, IsDelivered, IsLinked, IsRingDelivered, RingId, Sender, Taker, end_id, past_of, ring_from, ring_to, sent_by, taken_by}

-- ---- what is read off a list, if one element was replaced

-- If an element is replaced by one that reads the same, what is read off each is as it was.
pub read_same : {A B : Type 0} (f : A → B) (xs : List A) (i : ℕ) (old new : A) → i < length xs → old ≡ get_or xs i old → f new ≡ f old → map f (set xs i new) ≡ map f xs
read_same f [] i old new within is same = refl
read_same f (x ∷ xs) zero old new within is same = ap (λ r. r ∷ map f xs) (same ∙ ap f is)
read_same f (x ∷ xs) (suc i) old new within is same = ap (λ rs. f x ∷ rs) (read_same f xs i old new (omega arith) is same)

-- One more letter went through one of the elements.
pub one_more : {A : Type 0} (past : A → List Letter) (xs : List A) (i : ℕ) (old new : A) (l : Letter) → i < length xs → old ≡ get_or xs i old → past new ≡ past old ++ l ∷ [] → (n : ℕ) → get_or (map past (set xs i new)) n [] ≡ (if i == n then get_or (map past xs) n [] ++ l ∷ [] else get_or (map past xs) n [])
one_more past xs i old new l within is more n = grind (arith, nat_tests, map-set past xs i new, get_or-set_at (map past xs) i n (past new) [], get_or-set_other (map past xs) i n (past new) [], get_or-map past xs i old [], length-map xs past)

-- What is read off the element at a place.
pub read_at : {A B : Type 0} (f : A → B) (xs : List A) (i : ℕ) (x : A) (d : B) → i < length xs → x ≡ get_or xs i x → get_or (map f xs) i d ≡ f x
read_at f [] i x d within is = absurd (omega arith)
read_at f (y ∷ ys) zero x d within is = ap f (sym is)
read_at f (y ∷ ys) (suc i) x d within is = read_at f ys i x d (omega arith) is

pub read_set : {A B : Type 0} (f : A → B) (xs : List A) (i : ℕ) (x : A) (d : B) → i < length xs → get_or (map f (set xs i x)) i d ≡ f x
read_set f [] i x d within = absurd (omega arith)
read_set f (y ∷ ys) zero x d within = refl
read_set f (y ∷ ys) (suc i) x d within = read_set f ys i x d (omega arith)

pub read_past : {A B : Type 0} (f : A → B) (xs : List A) (i : ℕ) (d : B) → length xs ≤ i → get_or (map f xs) i d ≡ d
read_past f [] i d past = refl
read_past f (x ∷ xs) zero d past = absurd (omega arith)
read_past f (x ∷ xs) (suc i) d past = read_past f xs i d (omega arith)

-- The letters of one envelope more.
pub letters_more : (es es' : List Envelope) (e : Envelope) → es' ≡ es ++ e ∷ [] → letters_of es' ≡ letters_of es ++ e.letter ∷ []
letters_more es es' e is = ap letters_of is ∙ map-append (λ (x : Envelope). x.letter) es (e ∷ [])

-- ---- one ring, by which one core sends to another

-- The two ends of a ring are a pair.
pub is_pair : (x : Option Sender) (y : Option Taker) (p : Sender) (c : Taker) → x ≡ Some p → y ≡ Some c → option_map ring_to x ≡ option_map ring_from y → IsPair p c
is_pair x y p c is is' linked =
    let same : ring_from c ≡ ring_to p = cc in
    (ap (λ (r : RingId). r.words) same, ap (λ (r : RingId). r.slots) same, ap (λ (r : RingId). r.names) same, ap (λ (r : RingId). r.heap) same)

-- What was taken, and then what is known to be there, is what was sent.
pub ring_settled : (x : Option Sender) (y : Option Taker) (p p' : Sender) (c c' : Taker) → x ≡ Some p → y ≡ Some c → sent p' ≡ sent p → received c' ≡ received c → received c' ++ known_items c' ≡ sent p' → IsRingDelivered x y
ring_settled x y p p' c c' is is' same_sent same_received fifo =
    (letters_of (known_items c'), cc (map-append (λ (e : Envelope). e.letter) (received c') (known_items c')))

-- Where there is no ring, nothing was sent or taken.
none_sent : (x : Option Sender) → option_map ring_to x ≡ None → sent_by x ≡ []
none_sent x none = grind arith

none_taken : (y : Option Taker) → option_map ring_from y ≡ None → taken_by y ≡ []
none_taken y none = grind arith

pub no_sender : (x : Option Sender) (y : Option Taker) → option_map ring_to x ≡ option_map ring_from y → x ≡ None → IsRingDelivered x y
no_sender x y linked none = ([], cc (none_taken y (cc)))

pub no_taker : (x : Option Sender) (y : Option Taker) → option_map ring_to x ≡ option_map ring_from y → y ≡ None → IsRingDelivered x y
no_taker x y linked none = ([], cc (none_sent x (cc)))

-- ---- the places of two ends

-- What was sent at the place of the one list begins with what was taken at the place of the other one.
abbrev pub IsThrough : List (Option Sender) → ℕ → List (Option Taker) → ℕ → Type 0
IsThrough tos i froms j = (left : List Letter) × (get_or (map taken_by froms) j [] ++ left ≡ get_or (map sent_by tos) i [])

-- If there is no ring, nothing went through.
nothing_there : {A : Type 0} (ring : A → Option RingId) (past : A → List Letter) (xs : List A) (i : ℕ) → ((x : A) → ring x ≡ None → past x ≡ []) → get_or (map ring xs) i None ≡ None → get_or (map past xs) i [] ≡ []
nothing_there ring past [] i each none = refl
nothing_there ring past (x ∷ xs) zero each none = each x none
nothing_there ring past (x ∷ xs) (suc i) each none = nothing_there ring past xs i each none

module _ (tos : List (Option Sender)) (froms : List (Option Taker)) (i j : ℕ) (linked : get_or (map (option_map ring_to) tos) i None ≡ get_or (map (option_map ring_from) froms) j None) where
  pub linked_places : (x : Option Sender) (y : Option Taker) → i < length tos → x ≡ get_or tos i x → j < length froms → y ≡ get_or froms j y → option_map ring_to x ≡ option_map ring_from y
  linked_places x y below is below' is' = sym (read_at (option_map ring_to) tos i x None below is) ∙ linked ∙ read_at (option_map ring_from) froms j y None below' is'

  pub settled_at : (x : Option Sender) (y : Option Taker) → i < length tos → x ≡ get_or tos i x → j < length froms → y ≡ get_or froms j y → IsRingDelivered x y → IsThrough tos i froms j
  settled_at x y below is below' is' delivered =
      (delivered.0, ap (λ (ls : List Letter). ls ++ delivered.0) (read_at taken_by froms j y [] below' is') ∙ delivered.1 ∙ sym (read_at sent_by tos i x [] below is))

  no_ring : get_or (map (option_map ring_to) tos) i None ≡ None → IsThrough tos i froms j
  no_ring none =
      ([], cc (nothing_there (option_map ring_from) taken_by froms j none_taken (cc), nothing_there (option_map ring_to) sent_by tos i none_sent none))

  pub nothing_sent_by : length tos ≤ i → IsThrough tos i froms j
  nothing_sent_by past = no_ring (read_past (option_map ring_to) tos i None past)

  pub nothing_taken_by : length froms ≤ j → IsThrough tos i froms j
  nothing_taken_by past = no_ring (linked ∙ read_past (option_map ring_from) froms j None past)

-- ---- all of a list

-- What holds of what is read off each element holds of what is read off one of them.
pub all-at : {A B : Type 0} (P : B → Type 0) (f : A → B) (xs : List A) (i : ℕ) (x : A) → i < length xs → x ≡ get_or xs i x → AllByRecursion P (map f xs) → P (f x)
all-at P f xs i x within is all = subst P (read_at f xs i x (f x) within is) (All-from_recursion P (map f xs) all i (f x) (omega (arith, length-map xs f)))

module _ {A : Type 0} where
  pub all-get : (P : A → Type 0) (xs : List A) (i : ℕ) (d : A) → i < length xs → AllByRecursion P xs → P (get_or xs i d)
  all-get P xs i d within all = All-from_recursion P xs all i d within

  -- If two statements hold of each element, what follows from both holds of each.
  all-both : (P Q R : A → Type 0) (xs : List A) → ((x : A) → P x → Q x → R x) → AllByRecursion P xs → AllByRecursion Q xs → AllByRecursion R xs
  all-both P Q R [] each all all' = tt
  all-both P Q R (x ∷ xs) each all all' = (each x all.0 all'.0, all-both P Q R xs each all.1 all'.1)

  pub all-map : (P Q : A → Type 0) (xs : List A) → ((x : A) → P x → Q x) → AllByRecursion P xs → AllByRecursion Q xs
  all-map P Q xs each all = all-both P P Q xs (λ x one same. each x one) all all

  pub all-snoc : (P : A → Type 0) (xs : List A) (x : A) → AllByRecursion P xs → P x → AllByRecursion P (xs ++ x ∷ [])
  all-snoc P xs x all one = recursion_from_All P (xs ++ x ∷ []) (All-push P xs x (All-from_recursion P xs all) one)

  all-last : (P : A → Type 0) (xs : List A) (x : A) → AllByRecursion P (xs ++ x ∷ []) → AllByRecursion P xs × P x
  all-last P [] x all = (tt, all.0)
  all-last P (y ∷ ys) x all = let rest = all-last P ys x all.1 in ((all.0, rest.0), rest.1)

  -- A relation holds of all pairs, also if one more element is behind the others.
  all-pairs : (R : A → A → Type 0) (xs : List A) (x : A) → AllByRecursion (λ a. AllByRecursion (R a) xs) xs → AllByRecursion (λ a. R x a × R a x) xs → R x x → AllByRecursion (λ a. AllByRecursion (R a) (xs ++ x ∷ [])) (xs ++ x ∷ [])
  all-pairs R xs x rows each own =
      all-snoc (λ a. AllByRecursion (R a) (xs ++ x ∷ [])) xs x
      (all-both (λ a. AllByRecursion (R a) xs) (λ a. R x a × R a x) (λ a. AllByRecursion (R a) (xs ++ x ∷ [])) xs (λ a row both. all-snoc (R a) xs x row both.1) rows each)
      (all-snoc (R x) xs x (all-map (λ a. R x a × R a x) (R x) xs (λ a both. both.0) each) own)

  -- If a relation holds of all pairs, it holds of those without the last element, and of those with it.
  pairs-all : (R : A → A → Type 0) (xs : List A) (x : A) → AllByRecursion (λ a. AllByRecursion (R a) (xs ++ x ∷ [])) (xs ++ x ∷ []) → AllByRecursion (λ a. AllByRecursion (R a) xs) xs × AllByRecursion (λ a. R x a × R a x) xs × R x x
  pairs-all R xs x all =
      let rows = all-last (λ a. AllByRecursion (R a) (xs ++ x ∷ [])) xs x all in
      let last = all-last (R x) xs x rows.1 in (
        all-map (λ a. AllByRecursion (R a) (xs ++ x ∷ [])) (λ a. AllByRecursion (R a) xs) xs (λ a row. (all-last (R a) xs x row).0) rows.0,
        all-both (λ a. AllByRecursion (R a) (xs ++ x ∷ [])) (R x) (λ a. R x a × R a x) xs (λ a row here. (here, (all-last (R a) xs x row).1)) rows.0 last.0,
        last.1,
      )

pub map-snoc : {A B : Type 0} (f : A → B) (xs : List A) (x : A) → map f (xs ++ x ∷ []) ≡ map f xs ++ f x ∷ []
map-snoc f xs x = map-append f xs (x ∷ [])

-- ---- all ends

-- If all ends are linked, all but the last are, and the last is linked with each of them and itself.
pub last_linked : (ends rest : List RingEnd) (last : RingEnd) → ends ≡ rest ++ last ∷ [] → AreLinked (map end_id ends) → AreLinked (map end_id rest) × AllByRecursion (AreBothLinked (end_id last)) (map end_id rest) × IsLinked (end_id last) (end_id last)
last_linked ends rest last is linked = pairs-all IsLinked (map end_id rest) (end_id last) (subst AreLinked (ap (map end_id) is ∙ map-snoc end_id rest last) linked)

-- The last one was looked at with each of the others.
pub last_gathered : (ends rest rest' : List RingEnd) (last last' : RingEnd) → ends ≡ rest ++ last ∷ [] → past_of last' ≡ past_of last → map past_of rest' ≡ map past_of rest → IsDelivered (past_of last) (past_of last) → AllByRecursion (AreBothDelivered (past_of last')) (map past_of rest) → AreDelivered (map past_of rest') → AreDelivered (map past_of ends)
last_gathered ends rest rest' last last' is same_last same_rest own each others =
    subst AreDelivered (sym (ap (map past_of) is ∙ map-snoc past_of rest last))
    (all-pairs IsDelivered (map past_of rest) (past_of last) (subst AreDelivered same_rest others) (subst (λ (p : EndPast). AllByRecursion (AreBothDelivered p) (map past_of rest)) same_last each) own)

-- The end is linked with one of the others. Their vector may have changed, but not which ends are in it.
pub other_linked : (one : EndId) (others now : List RingEnd) (i : ℕ) (other : RingEnd) → i < length now → other ≡ get_or now i other → map end_id now ≡ map end_id others → AllByRecursion (AreBothLinked one) (map end_id others) → AreBothLinked one (end_id other)
other_linked one others now i other within is same linked = all-at (AreBothLinked one) end_id now i other within is (subst (AllByRecursion (AreBothLinked one)) (sym same) linked)

-- One more of the others was looked at.
pub each_more : (one : EndPast) (others now : List RingEnd) (i : ℕ) (other : RingEnd) → i < length now → other ≡ get_or now i other → map past_of now ≡ map past_of others → AllByRecursion (AreBothDelivered one) (take i (map past_of others)) → AreBothDelivered one (past_of other) → AllByRecursion (AreBothDelivered one) (take (i + 1) (map past_of others))
each_more one others now i other within is same each both =
    let there = subst (AreBothDelivered one) (sym (read_at past_of now i other (past_of other) within is)) both in
    let all = All-from_recursion (AreBothDelivered one) (take i (map past_of now)) (subst (λ ps. AllByRecursion (AreBothDelivered one) (take i ps)) (sym same) each) in
    subst (λ ps. AllByRecursion (AreBothDelivered one) (take (i + 1) ps)) same
    (recursion_from_All (AreBothDelivered one) (take (i + 1) (map past_of now)) (All-more (AreBothDelivered one) (map past_of now) i (past_of other) (omega (arith, within, length-map now past_of)) all there))
