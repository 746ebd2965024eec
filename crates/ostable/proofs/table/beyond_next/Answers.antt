use Rattle.std.proofs.Common.{◌≡◌, false, nat_eq, ap, sym, ◌∙◌, arith, add-one}
use Rattle.std.proofs.lemmas.Bool.{ne_eqb}
use Rattle.ostable.specs.Ahead.{count_of_next}
use Rattle.ostable.proofs.Runs.{next-later}
use Rattle.ostable.proofs.table.beyond_next.Goals as goal

pub overflow_sub-result : goal.overflow_sub-result
overflow_sub-result c =
    let part : nat_eq (count_of_next c.args.plan.now c.args.next) c.args.plan.now.duration ≡ false = ap (λ n. nat_eq n c.args.plan.now.duration) (sym c.count_of_next-count.ensures) ∙ ne_eqb c.count_of_next-count.result c.args.plan.now.duration c.if-count-plan.false in
    omega (arith, c.count_of_next-count.ensures, c.count_of_next.ensures, ap (count_of_next c.args.plan.now) (add-one c.args.next), next-later c.args.plan.now c.requires.timed c.args.next part)
