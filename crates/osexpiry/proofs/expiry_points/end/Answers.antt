use Rattle.std.proofs.Common.{◌≡◌, true, false, Option, Some, None, refl, rules, ap, sym, ◌∙◌, lit≤}
use Rattle.osbase.specs.declared.references.TableRef.{TableRef}
use Rattle.ostable.specs.Waiting.{repeats}
use Rattle.osacts.proofs.Each.{then, in-words, where-fails, where-holds, wider, looked}
use Rattle.osexpiry.specs.ExpiryPoints.{processes_point, ends}
use Rattle.osacts.specs.Steps.{Steps}
use Rattle.osexpiry.proofs.expiry_points.end.Goals as goal

none-left : (o : Option TableRef) → ((s : TableRef) → o ≡ Some s → ⊥) → o ≡ None
none-left None not = refl
none-left (Some s) not = absurd (not s refl)

pub returns-in-Some : goal.returns-in-Some
returns-in-Some g c =
    let steps : Steps 21 19 (ends c.args.table c.args.next) c.args.state.now c.begin.new.state c.args.marks.now c.begin.new.marks = rw (c.in-Some.is) (then c.stop.ensures.steps c.begin.ensures.steps) in
    search (rules, steps)

pub returns-then-repeats : goal.returns-then-repeats
returns-then-repeats g c =
    let again : repeats c.args.state.now.view.own c.args.table ≡ true = sym c.repeats.ensures ∙ c.if-repeats.true in
    let same = ap (processes_point c.args.table) (sym c.first_point-point.ensures.value) in
    let steps : Steps 21 19 (ends c.args.table c.args.next) c.args.state.now c.process_point.new.state c.args.marks.now c.process_point.new.marks =
    rw (none-left c.args.next c.in_default.not-Some) (wider (lit≤ tt) (lit≤ tt) (looked (where-holds again (looked (in-words same c.process_point.ensures.steps))))) in
    search (rules, steps)

pub returns-else-repeats : goal.returns-else-repeats
returns-else-repeats g c =
    let once : repeats c.args.state.now.view.own c.args.table ≡ false = sym c.repeats.ensures ∙ c.if-repeats.false in
    let steps : Steps 21 19 (ends c.args.table c.args.next) c.args.state.now c.stop-else-repeats.new.state c.args.marks.now c.stop-else-repeats.new.marks =
    rw (none-left c.args.next c.in_default.not-Some) (wider (lit≤ tt) (lit≤ tt) (looked (where-fails once c.stop-else-repeats.ensures.steps))) in
    search (rules, steps)
