-- What is proved of every operation. The checker makes a case of each operation, so a new operation needs no line here.
-- All else is proved of the rows at once.
use native.Mathlib.Omega.{arith}
use Rattle.std.proofs.Common.{◌≡◌, ℕ, ◌<◌, ◌≤◌, ◌==◌, ◌&&◌, nat_le, not, Bool, true, false, Some, List, [], ◌∷◌, length, map, refl, ap}
use Rattle.std.specs.List.{list_all}
use Rattle.std.proofs.lemmas.Bool.{and_parts, false≢true, leb-true}
use Rattle.osbase.specs.{declared.objects.Place.Place, Names.is_name_part}
use Rattle.osbase.proofs.StatusNumbers.{number_back}
use Rattle.oscript.specs.{declared.Op.Op, declared.rows.Verb.Verb, declared.rows.Arg.Arg, declared.rows.Arg.TheVariants.Number, declared.rows.TheConstants.STATUS}
use Rattle.oscript.specs.Rows.{are_of, parsed_op_of, is_of, kinds_of, op_of, status_argument, status_at, word_of}
use Rattle.oscript.proofs.Homes.{at_home}
use Rattle.ossyntax.specs.ParsedOp.{verb_of}
use Rattle.ossyntax.proofs.KindTexts.{is_kind}

-- a word that is not empty and has only bytes of names
abbrev pub is_plain : List ℕ → Bool
is_plain word = not (length word == 0) && list_all is_name_part word

-- A row's word is plain and no other row's, and its limits fit. If a form's arguments are of their kinds, the form of
-- its operation is that form, with each object where its references are.
abbrev pub IsRow : Verb → Type 0
IsRow v = (verb_of (word_of v) ≡ Some v) × (is_plain (word_of v) ≡ true) × (list_all is_kind (kinds_of v) ≡ true)
    × ((args : List (Arg Place)) → (parsed_op_of (op_of (v, args))).0 ≡ v) × ((args : List (Arg Place)) → are_of (kinds_of v) args ≡ true → (parsed_op_of (op_of (v, args))).1 ≡ map at_home args)

-- A status is read back from its number.
status-number : (n : ℕ) → nat_le n 16 ≡ true → n < 17
status-number n fit = let most : n ≤ 16 = leb-true n 16 fit in omega arith

status-kept : (args : List (Arg Place)) → are_of (STATUS ∷ []) args ≡ true → status_argument (status_at args 0) ∷ [] ≡ map at_home args
status-kept (Number n ∷ []) fit = ap (λ (m : ℕ). Number m ∷ []) (number_back n (status-number n (and_parts (nat_le 0 n) _ (and_parts (nat_le 0 n && nat_le n 16) true fit).0).1))
status-kept (arg ∷ more ∷ args) fit = absurd (false≢true (and_parts (is_of STATUS arg) false fit).1)
status-kept args fit = cc

-- The first clause is only there to make a case of each verb.
form-kept : (v : Verb) (args : List (Arg Place)) → are_of (kinds_of v) args ≡ true → (parsed_op_of (op_of (v, args))).1 ≡ map at_home args
form-kept Verb.Work args fit = grind arith
form-kept Verb.ShutdownOs args fit = status-kept args fit
form-kept Verb.ShutdownAllCores args fit = status-kept args fit
form-kept v args fit = grind arith

pub is-row : (v : Verb) → IsRow v
is-row Verb.Work = (refl, refl, refl, λ args. refl, form-kept Verb.Work)
is-row v = (refl, refl, refl, λ args. refl, form-kept v)

-- The operation of an operation's form is that operation.
pub is-op : (op : Op) → op_of (parsed_op_of op) ≡ op
is-op op = grind arith
