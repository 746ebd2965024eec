use Rattle.std.proofs.{Common.sym, Common.◌∙◌, lemmas.Bool.and_from, lemmas.Result.err_from_is_err_and, lemmas.Simd.map-map}
use Rattle.osvalidate.proofs.Counting.{too_many, within_split}
use Rattle.osload.proofs.Loops.{no_fault, past_numbers, past_scripts}
use Rattle.osload.proofs.configs.plan_if_faultless.Goals as goal

pub returns-then-not-are_objects_few-clause-fault : goal.returns-then-not-are_objects_few-clause-fault
returns-then-not-are_objects_few-clause-fault c = λ _. too_many c.args.text.now (sym c.are_objects_few.ensures ∙ c.if-not-are_objects_few.true)

pub returns-then-not-is_numbered-clause-fault : goal.returns-then-not-is_numbered-clause-fault
returns-then-not-is_numbered-clause-fault c = λ _. past_numbers c.args.text.now (sym c.is_numbered.ensures ∙ c.if-not-is_numbered.true)

pub returns-in_err-value-clause-fault : goal.returns-in_err-value-clause-fault
returns-in_err-value-clause-fault c =
    let p = err_from_is_err_and c.from_residual-in_err-value.result c.from_residual-in_err-value.ensures.1 in
    rw (p.1, p.2) (past_scripts c.args.text.now c.in_err-value.field-0.0 (sym c.is_numbered.ensures ∙ c.if-not-is_numbered.false) c.in_err-value.ensures)

pub fault_of-requires-clause-within : goal.fault_of-requires-clause-within
fault_of-requires-clause-within c = within_split c.args.text.now ∙ and_from _ _ (sym c.is_numbered.ensures ∙ c.if-not-is_numbered.false) c.in_ok-value.ensures.0

pub fault_of-requires-clause-links : goal.fault_of-requires-clause-links
fault_of-requires-clause-links c = rw (c.as_slice.ensures, c.in_ok-value.ensures.1) (simp map-map)

pub returns-clause-ok : goal.returns-clause-ok
returns-clause-ok c = (no_fault _ (sym c.fault_of.ensures ∙ c.in-None.is), c.in_ok-value.ensures.1)
