use Rattle.std.proofs.Common.{◌≡◌, ◌∙◌, below_more, sym, true, arith}
use Rattle.std.proofs.lemmas.Bool.{false_from_ne_true, false≢true, not-false, not-true}
use Rattle.osbase.specs.Sets.{core_ids}
use Rattle.osbase.proofs.Places.{passes-at}
use Rattle.osgroup.proofs.{Among.all-numbers, Among.number-at, Members.id_of, Members.is_known}
use Rattle.osgroup.proofs.groups.are_configured.Goals as goal

pub loop-number-preserved : goal.loop-number-preserved
loop-number-preserved c =
    below_more (λ k. is_known c.args.plan.now c.args.cores.now (id_of k) ≡ true) c.loop-number.number c.loop-number.invariant (not-false _ (sym c.is_missing_member.ensures ∙ c.if-is_missing_member.false))

pub returns-then-is_missing_member : goal.returns-then-is_missing_member
returns-then-is_missing_member c =
    let n = c.loop-number.number in
    sym (false_from_ne_true _ (λ all.
    false≢true (sym (not-true _ (sym c.is_missing_member.ensures ∙ c.if-is_missing_member.true)) ∙ passes-at (is_known c.args.plan.now c.args.cores.now) core_ids n (id_of n) all (number-at id_of 16 n c.loop-number-test.true))))

pub returns : goal.returns
returns c = sym (all-numbers id_of (is_known c.args.plan.now c.args.cores.now) 0 16 (λ n lt. c.loop-number.invariant n (omega (arith, lt))))
