-- A row that changes twice, and one of a job that holds nothing.
use Rattle.std.proofs.Common.{◌≡◌, ℕ, zero, suc, List, [], ◌∷◌, length, drop, nat_eq, false, ◌<◌, refl, ap, arith}
use Rattle.std.proofs.lemmas.Bool.{true≢false}
use Rattle.osbase.specs.declared.histories.HeldResource.{HeldResource}
use Rattle.oscript.specs.{Frames.rewound, Runners.Row, Runners.ended}
use Rattle.osrunner.specs.Rows.{row_at, with_row_at}

-- a change that overrides an earlier one
pub change-again : (f g : Row → Row) (place : ℕ) (all : List Row) → ((row : Row) → f (g row) ≡ f row) → with_row_at place f (with_row_at place g all) ≡ with_row_at place f all
change-again f g place [] same = refl
change-again f g zero (row ∷ all) same = ap (λ new. new ∷ all) (same row)
change-again f g (suc place) (row ∷ all) same = ap (λ rest. row ∷ rest) (change-again f g place all same)

-- if a job holds no resource, its end is the same as the return to its first operation
pub free-end : (place : ℕ) (all : List Row) → length (row_at place all).held ≡ 0 → with_row_at place (λ (row : Row). record row { frame = rewound row.frame; depth = 0; used = 0 }) all ≡ with_row_at place ended all
free-end place [] free = refl
free-end zero (row ∷ all) free = ap (λ (held : List HeldResource). (let new : Row = record row { held = held; frame = rewound row.frame; depth = 0; used = 0 } in new) ∷ all) (none row.held free)
  where
    none : (xs : List HeldResource) → length xs ≡ 0 → xs ≡ []
    none [] e = refl
    none (x ∷ xs) e = absurd (omega (arith, e))
free-end (suc place) (row ∷ all) free = ap (λ rest. row ∷ rest) (free-end place all free)

-- a job that gave a resource back holds fewer
pub lowered-smaller : (place : ℕ) (all : List Row) → nat_eq (length (row_at place all).held) 0 ≡ false → length (row_at place (with_row_at place (λ (row : Row). record row { held = drop 1 row.held }) all)).held < length (row_at place all).held
lowered-smaller place [] some = absurd (true≢false some)
lowered-smaller zero (row ∷ all) some = fewer row.held some
  where
    fewer : (xs : List HeldResource) → nat_eq (length xs) 0 ≡ false → length (drop 1 xs) < length xs
    fewer [] e = absurd (true≢false e)
    fewer (x ∷ xs) e = omega arith
lowered-smaller (suc place) (row ∷ all) some = lowered-smaller place all some
