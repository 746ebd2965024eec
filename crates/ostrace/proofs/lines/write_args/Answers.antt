use Rattle.std.proofs.Common.{List, ℕ, [], ◌∷◌}
use Rattle.osbase.specs.declared.objects.Place.{Place}
use Rattle.oscript.specs.declared.rows.Arg.{Arg}
use Rattle.osplan.specs.{declared.plans.Plan.Plan, Names.name_of}
use Rattle.ossyntax.specs.{ParsedOp.arg_text, Operation.named}
use Rattle.ostrace_text.specs.Trace.{after_spaces}
use Rattle.ostrace.proofs.Gathering.{Gathers-stop, Gathers-then, after_spaces-cons}
use Rattle.ostrace.proofs.lines.write_args.Goals as goal

abbrev text : Plan → Arg Place → List ℕ
text plan arg = arg_text (named (name_of plan) arg)

pub returns-in_err-write_arg-in-Two : goal.returns-in_err-write_arg-in-Two
returns-in_err-write_arg-in-Two g c =
    let a = text c.args.names.now c.in-Two.a in
    let b = text c.args.names.now c.in-Two.b in
    rw c.in-Two.is (Gathers-stop (after_spaces (b ∷ [])) _ c.from_residual.ensures.0 c.in_err-write_arg-in-Two.ensures (after_spaces-cons a (b ∷ [])))

pub returns-in_ok-write_arg-in-Two : goal.returns-in_ok-write_arg-in-Two
returns-in_ok-write_arg-in-Two g c =
    let a = text c.args.names.now c.in-Two.a in
    let b = text c.args.names.now c.in-Two.b in
    rw c.in-Two.is (Gathers-then _ c.in_ok-write_arg-in-Two.ensures c.write_arg-in-Two-2.ensures (after_spaces-cons a (b ∷ [])))

pub returns-in_err-write_arg-in-Three : goal.returns-in_err-write_arg-in-Three
returns-in_err-write_arg-in-Three g c =
    let a = text c.args.names.now c.in-Three.a in
    let b = text c.args.names.now c.in-Three.b in
    let d = text c.args.names.now c.in-Three.c in
    rw c.in-Three.is (Gathers-stop (after_spaces (b ∷ d ∷ [])) _ c.from_residual-in_err-write_arg-in-Three.ensures.0 c.in_err-write_arg-in-Three.ensures (after_spaces-cons a (b ∷ d ∷ [])))

pub returns-in_err-write_arg-in-Three-2 : goal.returns-in_err-write_arg-in-Three-2
returns-in_err-write_arg-in-Three-2 g c =
    let a = text c.args.names.now c.in-Three.a in
    let b = text c.args.names.now c.in-Three.b in
    let d = text c.args.names.now c.in-Three.c in
    let rest = Gathers-stop (after_spaces (d ∷ [])) _ c.from_residual-in_err-write_arg-in-Three-2.ensures.0 c.in_err-write_arg-in-Three-2.ensures (after_spaces-cons b (d ∷ [])) in
    rw c.in-Three.is (Gathers-then _ c.in_ok-write_arg-in-Three.ensures rest (after_spaces-cons a (b ∷ d ∷ [])))

pub returns-in_ok-write_arg-in-Three-2 : goal.returns-in_ok-write_arg-in-Three-2
returns-in_ok-write_arg-in-Three-2 g c =
    let a = text c.args.names.now c.in-Three.a in
    let b = text c.args.names.now c.in-Three.b in
    let d = text c.args.names.now c.in-Three.c in
    let rest = Gathers-then _ c.in_ok-write_arg-in-Three-2.ensures c.write_arg-in-Three-3.ensures (after_spaces-cons b (d ∷ [])) in
    rw c.in-Three.is (Gathers-then _ c.in_ok-write_arg-in-Three.ensures rest (after_spaces-cons a (b ∷ d ∷ [])))
