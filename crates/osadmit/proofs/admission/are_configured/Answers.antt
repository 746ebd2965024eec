use Rattle.std.proofs.Common.{◌≡◌, ◌||◌, ◌&&◌, ◌-◌, ◌+◌, ◌<◌, ℕ, Bool, true, false, List, not, map, refl, sym, ap, ◌∙◌, arith}
use Rattle.std.specs.List.{list_all}
use Rattle.osbase.specs.{declared.references.CoreId.CoreId, declared.items.CoreSet.CoreSet, declared.limits.TheConstants.CORES, Sets.has_core, Sets.numbers_from}
use Rattle.osbase.proofs.Tables.{numbers-next}
use Rattle.osplan.specs.View.{View, is_configured}
use Rattle.osadmit.proofs.admission.are_configured.Goals as goal

abbrev core_at : ℕ → CoreId
core_at n = record { number = n }

abbrev is_fine : CoreSet → View → CoreId → Bool
is_fine cores v id = not (has_core cores id) || is_configured v id

-- the next core number, and the later ones
next : (cores : CoreSet) (v : View) (n : ℕ) → n < CORES → list_all (is_fine cores v) (map core_at (numbers_from n (CORES - n))) ≡ (is_fine cores v (core_at n) && list_all (is_fine cores v) (map core_at (numbers_from (n + 1) (CORES - (n + 1)))))
next cores v n below = ap (λ (ns : List ℕ). list_all (is_fine cores v) (map core_at ns)) (numbers-next n CORES below)

and-next : (a b : Bool) → a ≡ true → (a && b) ≡ b
and-next a b e = rw e refl

and-none : (a b : Bool) → a ≡ false → (a && b) ≡ false
and-none a b e = rw e refl

pub returns-then-not-is_absent_or_configured : goal.returns-then-not-is_absent_or_configured
returns-then-not-is_absent_or_configured g c =
    sym (c.loop-number.invariant ∙ next c.args.cores.now c.args.state.now.view c.loop-number.number (omega arith) ∙ and-none _ _ (sym c.is_absent_or_configured.ensures ∙ c.if-not-is_absent_or_configured.true))

pub loop-number-preserved : goal.loop-number-preserved
loop-number-preserved g c =
    c.loop-number.invariant ∙ next c.args.cores.now c.args.state.now.view c.loop-number.number (omega arith) ∙ and-next _ _ (sym c.is_absent_or_configured.ensures ∙ c.if-not-is_absent_or_configured.false)

pub returns : goal.returns
returns g c =
    let past : CORES - c.loop-number.number ≡ 0 = omega arith in
    sym (c.loop-number.invariant ∙ ap (λ (n : ℕ). list_all (is_fine c.args.cores.now c.args.state.now.view) (map core_at (numbers_from c.loop-number.number n))) past)
