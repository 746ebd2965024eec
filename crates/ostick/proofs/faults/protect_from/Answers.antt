use Rattle.std.proofs.Common.{Option, refl, rules, ap, sym, arith, lit≤}
use Rattle.osbase.specs.declared.statuses.Status.{Status}
use Rattle.osacts.specs.{Acts.Acts, Acts.look, Runs.runs, Runs.says, Steps.Steps}
use Rattle.osacts.proofs.Each.{as_steps, in-words, looked, printed, then, unmoved, wider}
use Rattle.ostick.specs.Faults.{faults_with, fault_of}
use Rattle.ostick.proofs.faults.protect_from.Goals as goal

pub returns-in-Some : goal.returns-in-Some
returns-in-Some g c =
    let same = ap (λ (o : Option Status). faults_with c.args.state.now.view.own.protection c.args.runner o) (sym c.in-Some.ensures) in
    let steps : Steps 3 2 (look (λ s. faults_with s.core.protection c.args.runner (fault_of s c.args.runner))) c.args.state.now c.answer.new.state c.args.marks.now c.answer.new.marks =
    as_steps (ap (λ (x : Acts). runs x c.args.state.now) same) (ap (λ (x : Acts). says x c.args.state.now) same) (lit≤ tt) (lit≤ tt) (then (printed c.print.ensures.state c.print.ensures.marks) c.answer.ensures.steps) in
    search (rules, steps)

pub returns-in_default : goal.returns-in_default
returns-in_default g c =
    let same = ap (λ (o : Option Status). faults_with c.args.state.now.view.own.protection c.args.runner o) (sym c.in_default.ensures) in
    record { steps = looked (wider (omega arith) (omega arith) (in-words same unmoved)); outbox = refl }
