-- The data of a configuration has no float, and does not nest deeply.
use Rattle.std.proofs.Common.{◌≡◌, ℕ, ◌-◌, ◌≤◌, ◌&&◌, Bool, true, false, not, nat_lt, Option, List, [], ◌∷◌, map, refl, ap, arith}
use Rattle.std.specs.{List.list_all, Option.option_map_or}
use Rattle.std.proofs.lemmas.Bool.{and_parts, ltb-true, not-true}
use Rattle.serde_json.specs.Data.{Data, Items, Members, array, object, no_items, item, no_members, member, depth, items_depth, members_depth}
use Rattle.serde_json.specs.{View.items_of, Written.has_float, Written.items_have_float, Written.members_have_float}
use Rattle.osvalidate.specs.Words.{Plan}
use Rattle.osload.proofs.Loops.{always}
use Rattle.osvalues.specs.Data.{or_null_data}
use Rattle.oswrite.specs.Writing.{config_data}

-- ---- data without floats that nests to at most a given depth

abbrev mutual
  pub is_plain : ℕ → Data → Bool
  is_plain n (array ds) = nat_lt 0 n && are_plain (n - 1) ds
  is_plain n (object ms) = nat_lt 0 n && has_plain (n - 1) ms
  is_plain n d = not (has_float d)

  pub are_plain : ℕ → Items → Bool
  are_plain n no_items = true
  are_plain n (item d ds) = is_plain n d && are_plain n ds

  pub has_plain : ℕ → Members → Bool
  has_plain n no_members = true
  has_plain n (member k d ms) = is_plain n d && has_plain n ms

mutual
  plain-fits : (n : ℕ) (d : Data) → is_plain n d ≡ true → (has_float d ≡ false) × (depth d ≤ n)
  plain-fits n (array ds) h = let parts = and_parts (nat_lt 0 n) (are_plain (n - 1) ds) h in let fit = items-fit (n - 1) ds parts.1 in (fit.0, omega (arith, ltb-true 0 n parts.0, fit.1))
  plain-fits n (object ms) h = let parts = and_parts (nat_lt 0 n) (has_plain (n - 1) ms) h in let fit = members-fit (n - 1) ms parts.1 in (fit.0, omega (arith, ltb-true 0 n parts.0, fit.1))
  plain-fits n d h = (not-true _ h, omega arith)

  items-fit : (n : ℕ) (ds : Items) → are_plain n ds ≡ true → (items_have_float ds ≡ false) × (items_depth ds ≤ n)
  items-fit n no_items h = (refl, omega arith)
  items-fit n (item d ds) h =
      let first = plain-fits n d (and_parts (is_plain n d) _ h).0 in
      let rest = items-fit n ds (and_parts (is_plain n d) _ h).1 in
      (rw first.0 rest.0, omega (arith, first.1, rest.1))

  members-fit : (n : ℕ) (ms : Members) → has_plain n ms ≡ true → (members_have_float ms ≡ false) × (members_depth ms ≤ n)
  members-fit n no_members h = (refl, omega arith)
  members-fit n (member k d ms) h =
      let first = plain-fits n d (and_parts (is_plain n d) _ h).0 in
      let rest = members-fit n ms (and_parts (is_plain n d) _ h).1 in
      (rw first.0 rest.0, omega (arith, first.1, rest.1))

-- ---- what data is made of

list-plain : {X : Type 0} (n : ℕ) (f : X → Data) (xs : List X) → are_plain n (items_of (map f xs)) ≡ list_all (λ (x : X). is_plain n (f x)) xs
list-plain n f [] = refl
list-plain n f (x ∷ xs) = ap (λ b. is_plain n (f x) && b) (list-plain n f xs)

null-plain : {X : Type 0} (n : ℕ) (f : X → Data) (o : Option X) → is_plain n (or_null_data f o) ≡ option_map_or (λ (x : X). is_plain n (f x)) o true
null-plain n f o = grind arith

either : {X : Type 0} (o : Option X) → option_map_or (λ (x : X). true) o true ≡ true
either o = grind arith

pub config-fits : (plan : Plan) → (has_float (config_data plan) ≡ false) × (depth (config_data plan) ≤ 127)
config-fits plan = plain-fits 127 (config_data plan) (simp (list-plain, null-plain, always, either))
