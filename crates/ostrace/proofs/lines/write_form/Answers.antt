use Rattle.std.proofs.Common.{map}
use Rattle.oscript.specs.Rows.{items, word_of}
use Rattle.ossyntax.specs.{ParsedOp.arg_text, Operation.named}
use Rattle.osplan.specs.Names.{name_of}
use Rattle.ostrace_text.specs.Trace.{after_spaces}
use Rattle.ostrace.proofs.Gathering.{Gathers-stop, Gathers-then, after_spaces-cons}
use Rattle.ostrace.proofs.lines.write_form.Goals as goal

pub returns-in_err-write_verb_after_space : goal.returns-in_err-write_verb_after_space
returns-in_err-write_verb_after_space g c =
    let args = map (λ a. arg_text (named (name_of c.args.names.now) a)) (items c.args.form.args) in
    Gathers-stop (after_spaces args) _ c.from_residual.ensures.0 c.in_err-write_verb_after_space.ensures (after_spaces-cons (word_of c.args.form.verb) args)

pub returns : goal.returns
returns g c =
    let args = map (λ a. arg_text (named (name_of c.args.names.now) a)) (items c.args.form.args) in
    Gathers-then _ c.in_ok-write_verb_after_space.ensures c.write_args.ensures (after_spaces-cons (word_of c.args.form.verb) args)
