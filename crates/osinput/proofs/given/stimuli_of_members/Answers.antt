use Rattle.std.proofs.Common.{◌≡◌, ◌∙◌, String, Global, Option, ap, rules}
use Rattle.std.proofs.{lemmas.Result.err_from_is_err_and, lemmas.Map.Iter.rest_more, lemmas.Map.Iter.rest_all}
use Rattle.std.specs.Map.Iter.{deref_pair}
use Rattle.serde_json.specs.declared.value.Value.{Value}
use Rattle.osbase.specs.declared.turns.CoreStimuli.{CoreStimuli}
use Rattle.osplan.specs.declared.plans.Plan.{Plan}
use Rattle.osjson.specs.Reading.{each}
use Rattle.osjson.proofs.Each.{with_front-nil, each-more, each-stop, each-end, each-map}
use Rattle.osjson.proofs.Contents.{entry_view, entries-members_view}
use Rattle.osinput.specs.Given.{core_stimuli_of}
use Rattle.osinput.proofs.given.stimuli_of_members.Goals as goal

abbrev read : Plan → String Global × Value → Option CoreStimuli
read plan entry = core_stimuli_of plan (entry_view entry)

pub returns-in_err-core_stimuli_of : goal.returns-in_err-core_stimuli_of
returns-in_err-core_stimuli_of c =
    let p = err_from_is_err_and c.from_residual.result c.from_residual.ensures.1 in
    let is = rest_more deref_pair c.loop-key.key-iterator c.next.new.self c.next.result (c.in-Some.key, c.in-Some.value) c.in-Some.is c.next.ensures.steps in
    let here = rw c.as_str.ensures.value at c.in_err-core_stimuli_of.ensures in
    rw (p.1, p.2, entries-members_view c.args.members.now.entries, each-map (core_stimuli_of c.args.plan.now) entry_view c.args.members.now.entries)
    (each-stop (read c.args.plan.now) c.loop-key.stimuli is c.in_err-core_stimuli_of.field-0.0 here c.loop-key.invariant)

pub loop-key-init : goal.loop-key-init
loop-key-init c =
    let start : c.into_iter-key-iterator.result ≡ c.args.members.now.entries = search rules in
    rw c.new-stimuli.ensures (with_front-nil (each (read c.args.plan.now) c.into_iter-key-iterator.result) ∙ ap (each (read c.args.plan.now)) start)

pub loop-key-preserved : goal.loop-key-preserved
loop-key-preserved c =
    let is = rest_more deref_pair c.loop-key.key-iterator c.next.new.self c.next.result (c.in-Some.key, c.in-Some.value) c.in-Some.is c.next.ensures.steps in
    let here = rw c.as_str.ensures.value at c.in_ok-core_stimuli_of.ensures in
    rw c.in_ok-push.ensures.ok (each-more (read c.args.plan.now) c.loop-key.stimuli is c.in_ok-core_stimuli_of.field-0 here c.loop-key.invariant)

pub returns : goal.returns
returns c =
    let is = rest_all deref_pair c.loop-key.key-iterator c.next.new.self c.next.result c.in-None.is c.next.ensures.steps in
    rw (entries-members_view c.args.members.now.entries, each-map (core_stimuli_of c.args.plan.now) entry_view c.args.members.now.entries)
    (each-end (read c.args.plan.now) is c.loop-key.invariant)
