use Rattle.std.proofs.Common.{◌≡◌, ◌+◌, true, false, ap, sym, ◌∙◌, lit≤}
use Rattle.osbase.specs.Phases.{is_going}
use Rattle.osacts.specs.Steps.{Steps}
use Rattle.osacts.proofs.Each.{looked, printed, then, unmoved, where-fails, where-holds, wider}
use Rattle.ostick.specs.Ticks.{counted_entries, counted_marks, counts_unless_down}
use Rattle.ostick.proofs.ticks.tick.Goals as goal

pub returns-then-is_going : goal.returns-then-is_going
returns-then-is_going g c =
    let going : is_going c.protect.new.state.progress.course ≡ true = sym (c.is_going.ensures ∙ ap is_going c.course.ensures) ∙ c.if-is_going.true in
    let counted : Steps counted_entries counted_marks counts_unless_down c.protect.new.state c.count_each.new.state c.protect.new.marks c.count_each.new.marks = looked (where-holds going c.count_each.ensures) in
    wider {a = 1 + (3 + counted_entries)} {m = 1 + (2 + counted_marks)} (lit≤ tt) (lit≤ tt)
    (then {a = 1} {b = 3 + counted_entries} {m = 1} {n = 2 + counted_marks} (printed c.tick.ensures.state c.tick.ensures.marks)
    (then {a = 3} {b = counted_entries} {m = 2} {n = counted_marks} c.protect.ensures.steps counted))

pub returns-else-is_going : goal.returns-else-is_going
returns-else-is_going g c =
    let down : is_going c.protect.new.state.progress.course ≡ false = sym (c.is_going.ensures ∙ ap is_going c.course.ensures) ∙ c.if-is_going.false in
    let none : Steps 0 0 counts_unless_down c.protect.new.state c.protect.new.state c.protect.new.marks c.protect.new.marks = looked (where-fails down unmoved) in
    wider {a = 1 + (3 + 0)} {m = 1 + (2 + 0)} (lit≤ tt) (lit≤ tt)
    (then {a = 1} {b = 3 + 0} {m = 1} {n = 2 + 0} (printed c.tick.ensures.state c.tick.ensures.marks)
    (then {a = 3} {b = 0} {m = 2} {n = 0} c.protect.ensures.steps none))
