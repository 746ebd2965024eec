-- One row more.
use Rattle.std.proofs.Common.{◌≡◌, ◌≢◌, ℕ, ◌+◌, ◌<◌, false, Option, List, length, get_or, set, sym, ap, ◌∙◌, below_more, arith}
use Rattle.std.specs.Option.{option_map_or}
use Rattle.std.proofs.{lemmas.Option.slice_get-get_or, lemmas.List.length-set, lemmas.List.get_or-set_other, lemmas.List.get_or-set_same}
use Rattle.osbase.specs.{declared.references.CoreId.CoreId, declared.items.CoreSet.CoreSet, Sets.has_core}
use Rattle.osplan.specs.declared.plans.Plan.{Plan}
use Rattle.osgroup.specs.Least.{IsRow, is_in_row, has_say_at}
use Rattle.osgroup.proofs.Members.{id_of}

-- The rows below a number.
abbrev pub AreRowsBelow : Plan → ℕ → List CoreSet → Type 0
AreRowsBelow plan n rows = (k : ℕ) → k < n → (id : CoreId) → id.number < 16 → is_in_row rows (id_of k) id ≡ has_say_at plan (id_of k) id

in-row : (rows : List CoreSet) (row : CoreSet) (k : ℕ) (id : CoreId) → k < length rows → is_in_row rows (id_of k) id ≡ has_core (get_or rows k row) id
in-row rows row k id lt = ap (λ (o : Option CoreSet). option_map_or (λ (r : CoreSet). has_core r id) o false) (slice_get-get_or rows k row lt)

pub rows-more : (plan : Plan) (rows : List CoreSet) (n : ℕ) (row : CoreSet) → length rows ≡ 16 → n < 16 → IsRow plan (id_of n) row → AreRowsBelow plan n rows → AreRowsBelow plan (n + 1) (set rows n row)
rows-more plan rows n row len lt here below =
    below_more (λ k. (id : CoreId) → id.number < 16 → is_in_row (set rows n row) (id_of k) id ≡ has_say_at plan (id_of k) id) n
    (λ k h id low.
    let ne : k ≢ n = omega arith in
    let stays = ap (λ (r : CoreSet). has_core r id) (get_or-set_other rows n k row row ne) in
    in-set k id (omega arith) ∙ stays ∙ sym (in-row rows row k id (omega arith)) ∙ below k h id low)
    (λ id low. in-set n id (omega arith) ∙ ap (λ (r : CoreSet). has_core r id) (get_or-set_same rows n row row (omega arith)) ∙ here id low)
  where
    in-set : (k : ℕ) (id : CoreId) → k < 16 → is_in_row (set rows n row) (id_of k) id ≡ has_core (get_or (set rows n row) k row) id
    in-set k id lt = in-row (set rows n row) row k id (omega (arith, length-set rows n row))
