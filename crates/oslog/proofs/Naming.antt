-- The list of all named objects, and its index, which is made from the last object to the first.
use Rattle.std.proofs.Common.{◌≡◌, ℕ, zero, suc, ◌+◌, ◌<◌, cond, List, [], ◌∷◌, ◌++◌, length, map, drop, get_or, Some, sym, ap, subst, ◌∙◌, add-one, append_assoc, arith}
use Rattle.std.specs.{Borrow.Bor, HashMap.HashMap, Map.update, Str.bytes_eq}
use Rattle.std.proofs.lemmas.List.{get_or_default}
use Rattle.osbase.specs.{Sets.numbers_from, declared.objects.Object.Object}
use Rattle.osjson.proofs.Each.{drop-here}
use Rattle.osplan.specs.declared.plans.Plan.{Plan}
use Rattle.oslog.specs.Naming.{Indexes, index_in, name_of_object}

-- one more object in front of those that are indexed
pub one-more : {S : Type 0} (plan : Plan) (all : List Object) (d : Object) (place : ℕ) (old new : HashMap (Bor (List ℕ)) Object S) → place < length all → Indexes plan old (drop (place + 1) all)
    → ((name : List ℕ) → index_in new name ≡ update bytes_eq (index_in old) (name_of_object plan (get_or all place d)) (Some (get_or all place d)) name) → Indexes plan new (drop place all)
one-more plan all d place old new within so_far updates =
    let n = get_or all place d in
    subst (Indexes plan new) (sym (drop-here all place n within (get_or_default all place d n within)))
    (λ name. updates name ∙ ap (cond (bytes_eq (name_of_object plan n) name) (Some n)) (so_far name))

-- the list for one more place
pub place-more : {A : Type 0} (at : ℕ → A) (count : ℕ) → map at (numbers_from 0 (count + 1)) ≡ map at (numbers_from 0 count) ++ at count ∷ []
place-more {A} at count = ap (λ n. map at (numbers_from 0 n)) (add-one count) ∙ from 0 count count (omega arith)
  where
    from : (first many last : ℕ) → last ≡ first + many → map at (numbers_from first (suc many)) ≡ map at (numbers_from first many) ++ at last ∷ []
    from first zero last is = ap (λ n. at n ∷ []) (let here : first ≡ last = omega (arith, is) in here)
    from first (suc many) last is = ap (λ xs. at first ∷ xs) (from (first + 1) many last (omega (arith, is)))

pub one-pushed : {A : Type 0} (at : ℕ → A) (count : ℕ) (initial old : List A) → old ≡ initial ++ map at (numbers_from 0 count) → old ++ at count ∷ [] ≡ initial ++ map at (numbers_from 0 (count + 1))
one-pushed at count initial old is = rw (is, place-more at count, append_assoc)
