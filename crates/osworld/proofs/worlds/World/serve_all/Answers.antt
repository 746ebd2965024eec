use Rattle.std.proofs.Common.{sym, subst, ◌∙◌, List, ap, drop, take, not, filter, false}
use Rattle.std.proofs.lemmas.List.{take-append-drop, take_all}
use Rattle.osbase.specs.{declared.references.CoreId.CoreId, declared.turns.Choice.Choice, History.same_core}
use Rattle.osworld.specs.{Playing.PlaysTurns, Runs.serves_of}
use Rattle.osworld.proofs.{Played.plays-next, Played.plays-on, Played.stops-next, Served.serves-append, Served.unserved-played, Turned.on_err}
use Rattle.osworld.proofs.worlds.World.serve_all.Goals as goal

abbrev serves : CoreId → List CoreId → List (CoreId × Choice)
serves id ids = serves_of ids id

pub returns-then-not-has_mail-clause-ok : goal.returns-then-not-has_mail-clause-ok
returns-then-not-has_mail-clause-ok c =
    let before = take c.loop-other.other-index c.args.ids.now in
    let rest = drop c.loop-other.other-index c.args.ids.now in
    subst (λ (ts : List (CoreId × Choice)). PlaysTurns ts c.args.self.now c.loop-other.changed c.loop-other.self)
    (sym (serves-append before rest c.args.id) ∙ ap (serves c.args.id) (take-append-drop c.loop-other.other-index c.args.ids.now))
    (plays-on c.args.self.now c.loop-other.self c.loop-other.self c.loop-other.invariant.0 (serves c.args.id before) (serves c.args.id rest) c.loop-other.changed c.loop-other.invariant.3 false
    (λ stimuli w plays. unserved-played c.loop-other.self.config.now stimuli w c.loop-other.self.core_runs.items c.loop-other.self.shared plays c.args.id (sym c.has_mail.ensures ∙ c.if-not-has_mail.true) (filter (λ (from : CoreId). not (same_core from c.args.id)) rest)))

pub returns-in_err-changed-clause-err : goal.returns-in_err-changed-clause-err
returns-in_err-changed-clause-err c =
    on_err c.from_residual.result
    (stops-next (serves c.args.id) (λ xs ys. serves-append xs ys c.args.id) c.args.ids.now c.loop-other.other-index _ c.loop-other-test.true c.args.self.now c.loop-other.self c.serve.new.self c.loop-other.invariant.0 c.loop-other.changed c.loop-other.invariant.3 c.in_err-changed.ensures.err)

pub loop-other-preserved : goal.loop-other-preserved
loop-other-preserved c = (
  c.in_ok-changed.ensures.config ∙ c.loop-other.invariant.0,
  c.in_ok-changed.ensures.reports ∙ c.loop-other.invariant.1,
  c.in_ok-changed.ensures.len ∙ c.loop-other.invariant.2,
  (plays-next (serves c.args.id) (λ xs ys. serves-append xs ys c.args.id) c.args.ids.now c.loop-other.other-index _ c.loop-other-test.true c.args.self.now c.loop-other.self c.serve.new.self c.loop-other.invariant.0 c.loop-other.changed c.loop-other.invariant.3 c.in_ok-changed.field-0 c.in_ok-changed.ensures.ok),
)

pub returns-clause-ok : goal.returns-clause-ok
returns-clause-ok c =
    subst (λ (ids : List CoreId). PlaysTurns (serves c.args.id ids) c.args.self.now c.loop-other.changed c.loop-other.self) (take_all c.loop-other.other-index c.args.ids.now c.loop-other-test.false) c.loop-other.invariant.3
