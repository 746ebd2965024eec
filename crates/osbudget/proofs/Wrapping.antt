-- A count of ticks that wraps.
use Rattle.std.proofs.Common.{◌≡◌, ◌∙◌, ℕ, suc, ◌+◌, ◌%◌, ◌^◌, ◌<◌, List, [], ◌∷◌, map, refl, ap, arith}
use Rattle.std.specs.List.{All}
use Rattle.std.proofs.lemmas.List.Elements.{All-head, All-tail}
use Rattle.osbudget.specs.Budget.{ticks_since}

more-since : (now then : ℕ) → ticks_since now then < 2 ^ 63 → ticks_since ((now + 1) % 2 ^ 64) then ≡ suc (ticks_since now then)
more-since now then few = omega (arith, few)

abbrev pub IsFew : ℕ → Type 0
IsFew ticks = ticks < 2 ^ 63

-- After one more tick, each time is one tick longer ago.
pub all-more : (now : ℕ) (taken : List ℕ) → All IsFew (map (ticks_since now) taken)
    → map (ticks_since ((now + 1) % 2 ^ 64)) taken ≡ map suc (map (ticks_since now) taken)
all-more now [] few = refl
all-more now (then ∷ taken) few =
    ap (λ (n : ℕ). n ∷ map (ticks_since ((now + 1) % 2 ^ 64)) taken) (more-since now then (All-head IsFew (ticks_since now then) (map (ticks_since now) taken) few))
    ∙ ap (λ (rest : List ℕ). suc (ticks_since now then) ∷ rest) (all-more now taken (All-tail IsFew (ticks_since now then) (map (ticks_since now) taken) few))

-- No tick has passed since now.
pub none-since : (now : ℕ) → now < 2 ^ 64 → ticks_since now now ≡ 0
none-since now low = omega (arith, low)
