use Rattle.std.proofs.Common.{rules, slice_index_or}
use Rattle.std.proofs.lemmas.List.{get_or_default}
use Rattle.osbase.specs.declared.references.IsrRef.{IsrRef}
use Rattle.osjobs.proofs.Unlisted.{isr-removed}
use Rattle.osjobs.proofs.entered.place_of.Goals as goal

pub returns-then-eq-clause-found : goal.returns-then-eq-clause-found
returns-then-eq-clause-found c =
    let isrs = c.args.isrs.now in
    let none : IsrRef = record { core = record { number = 0 }; index = 0 } in
    let isr = slice_index_or isrs c.loop-place.place none in
    isr-removed c.args.isr isrs c.loop-place.place isr c.loop-place-test.true (get_or_default isrs c.loop-place.place none isr c.loop-place-test.true) (search rules) c.loop-place.invariant
