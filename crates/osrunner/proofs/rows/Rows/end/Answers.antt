use Rattle.std.proofs.Common.{◌≡◌, ◌==◌, ℕ, true, false, length, refl, rules, ap, ◌∙◌, drop}
use Rattle.std.proofs.lemmas.Bool.{eqb-true}
use Rattle.oscript.specs.{Runners.Row, Runners.ended, Frames.rewound}
use Rattle.osrunner.specs.Rows.{held_in, with_row, with_row_at}
use Rattle.osbase.specs.Sets.{slot_of}
use Rattle.osrunner.proofs.{Counts.kept, Places.change-again, Places.free-end, Places.lowered-smaller}
use Rattle.osrunner.proofs.rows.Rows.end.Goals as goal

pub loop-self-smaller : goal.loop-self-smaller
loop-self-smaller c =
    let some : (length (held_in c.args.runner c.loop-self.self) == 0) ≡ false = search rules in
    rw c.lower.ensures.rest (lowered-smaller (slot_of c.args.runner) c.loop-self.self some)

pub loop-self-preserved : goal.loop-self-preserved
loop-self-preserved c =
    ap (with_row c.args.runner ended) c.lower.ensures.rest
    ∙ change-again ended (λ (row : Row). record row { held = drop 1 row.held }) (slot_of c.args.runner) c.loop-self.self (λ row. refl)
    ∙ c.loop-self.invariant

pub invariant_of-self : goal.invariant_of-self
invariant_of-self c = rw c.rewind_at.ensures (kept _ _ c.slot.result _ c.self.invariant refl)

pub returns : goal.returns
returns c =
    let back = λ (row : Row). record row { frame = rewound row.frame; depth = 0; used = 0 } in
    let free : (length (held_in c.args.runner c.loop-self.self) == 0) ≡ true = search rules in
    c.rewind_at.ensures
    ∙ (ap (λ (place : ℕ). with_row_at place back c.self.inside.rows.items) c.slot.ensures
    ∙ (ap (with_row c.args.runner back) c.self.view_is
    ∙ (free-end (slot_of c.args.runner) c.loop-self.self (eqb-true _ 0 free) ∙ c.loop-self.invariant)))
