-- The tables of a counter, in a list.
use Rattle.std.proofs.Common.{◌≡◌, ℕ, zero, suc, ◌+◌, ◌<◌, ◌≤◌, true, Option, Some, None, filter_map, get_or, List, [], ◌∷◌, drop, length, take, ◌++◌, refl, ap, sym, ◌∙◌, arith, add-one}
use Rattle.std.specs.List.{slice_get}
use Rattle.std.proofs.{lemmas.List.Elements.filter_map-append, lemmas.List.take_more, lemmas.Option.slice_get-get_or}
use Rattle.osbase.specs.{declared.references.CounterRef.CounterRef, declared.references.TableRef.TableRef, Objects.table_object}
use Rattle.osbase.proofs.Tables.{table-at}
use Rattle.osplan.specs.{declared.plans.Core.Core, Objects.is_own_object}
use Rattle.osattached.proofs.{Own.goes-own, Ranges.length-table}
use Rattle.ostable.specs.Tables.{is_timed_by, table_ref, table_refs}
use Rattle.ostable.proofs.Places.{placed}

pub table-refs-length : (core : Core) → length (table_refs core) ≡ length core.tables
table-refs-length core = length-table (table_ref core) (length core.tables)

-- each table of a counter is the core's own
pub timed-own : (core : Core) (c : CounterRef) (s : TableRef) → is_timed_by core c s ≡ true → is_own_object core (table_object s) ≡ true
timed-own core c s on = goes-own (placed core) c s on

-- ---- from a place on

pub drop-there : {X : Type 0} (xs : List X) (i : ℕ) (x : X) → slice_get xs i ≡ Some x → drop i xs ≡ x ∷ drop (i + 1) xs
drop-there xs i x e = go xs i e ∙ ap (λ n. x ∷ drop n xs) (sym (add-one i))
  where
    go : (ys : List _) (j : ℕ) → slice_get ys j ≡ Some x → drop j ys ≡ x ∷ drop (suc j) ys
    go [] j f = cc
    go (y ∷ ys) zero f = let same : y ≡ x = cc in ap (λ z. z ∷ ys) same
    go (y ∷ ys) (suc j) f = go ys j f

pub past : {X : Type 0} (xs : List X) (i : ℕ) → length xs ≤ i → drop i xs ≡ []
past [] zero h = refl
past [] (suc i) h = refl
past (x ∷ xs) zero h = absurd (omega (arith, h))
past (x ∷ xs) (suc i) h = past xs i (omega (arith, h))

-- a table of the core from its place on
pub refs-at : (core : Core) (i : ℕ) → i < length core.tables → drop i (table_refs core) ≡ table_ref core i ∷ drop (i + 1) (table_refs core)
refs-at core i inside =
    let within : i < length (table_refs core) = omega (arith, inside, table-refs-length core) in
    drop-there (table_refs core) i (table_ref core i)
    (slice_get-get_or (table_refs core) i (table_ref core i) within ∙ ap (λ (s : TableRef). Some s) (table-at (table_ref core) 0 (length core.tables) i i (table_ref core i) (omega arith) inside))

-- what is kept of one element more
pub filter_map-more : {X Y : Type 0} (f : X → Option Y) (xs : List X) (i : ℕ) (d : X) → i < length xs → filter_map f (take (i + 1) xs) ≡ filter_map f (take i xs) ++ filter_map f (get_or xs i d ∷ [])
filter_map-more f xs i d inside = ap (filter_map f) (take_more xs i d inside) ∙ filter_map-append f (take i xs) (get_or xs i d ∷ [])

pub one-kept : {X Y : Type 0} (f : X → Option Y) (x : X) (y : Y) → f x ≡ Some y → filter_map f (x ∷ []) ≡ y ∷ []
one-kept f x y e = rw e refl

pub none-kept : {X Y : Type 0} (f : X → Option Y) (x : X) → f x ≡ None → filter_map f (x ∷ []) ≡ []
none-kept f x e = rw e refl
