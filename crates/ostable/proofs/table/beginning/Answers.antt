use Rattle.std.proofs.Common.{◌≡◌, ℕ, ap, sym, ◌∙◌, arith}
use Rattle.ostable.specs.{declared.table.Ahead.Ahead, Ahead.count_of_next, Ahead.points_until}
use Rattle.ostable.proofs.{Runs.begin-later, Runs.begin-zero, table.beginning.Goals.then-count_of_next-eq0, table.beginning.Goals.else-count_of_next-eq0}
use Rattle.ostable.proofs.table.beginning.Goals as goal

pub returns : goal.returns
returns c =
    let t = c.args.plan.now in
    let next : c.if-count_of_next-eq0.next ≡ points_until t 0 =
    elim c.if-count_of_next-eq0.branch [
      | then-count_of_next-eq0 w ↦ w.next-is ∙ sym (begin-zero t c.requires.timed (sym c.count_of_next.ensures ∙ w.if-count_of_next-eq0.true)).0
      | else-count_of_next-eq0 w ↦ w.next-is ∙ sym (begin-later t c.requires.timed (omega (arith, c.count_of_next.ensures, w.if-count_of_next-eq0.false))).0
    ] in
    ap (λ (n : ℕ). let a : Ahead = record { next = c.if-count_of_next-eq0.next; distance = n } in a) (c.count_of_next-2.ensures)
    ∙ ap (λ (n : ℕ). let a : Ahead = record { next = n; distance = count_of_next t n } in a) next
    ∙ ap (λ (d : ℕ). let a : Ahead = record { next = points_until t 0; distance = d } in a) (omega arith)
