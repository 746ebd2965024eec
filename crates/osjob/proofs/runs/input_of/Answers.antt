use Rattle.std.proofs.Common.{◌∙◌, arith, refl}
use Rattle.std.specs.Prelude.{IsSome}
use Rattle.oscommand.specs.Jobs.{path_in}
use Rattle.osjob.specs.Performs.{in_config, in_items, in_schedule, in_stimuli}
use Rattle.osinput.specs.Given.{stimuli_of_text}
use Rattle.osload.specs.Meaning.{config_of}
use Rattle.osjob.specs.Runs.{at_schedule}
use Rattle.osjob.proofs.Reading.{Consumes-one, Consumes-three, Consumes-two, IsGiven-kept, IsGiven-read, IsRead-faulty, Means-there, config-kept}
use Rattle.osjob.proofs.runs.input_of.Goals as goal

pub stimuli_in-requires : goal.stimuli_in-requires
stimuli_in-requires g c = Means-there config_of _ 0 c.in_ok-config.config c.in_ok-config.ensures.ok

pub schedule_in-requires : goal.schedule_in-requires
schedule_in-requires g c = Means-there (stimuli_of_text c.in_ok-config.config) _ 1 c.in_ok-stimuli.stimuli c.in_ok-stimuli.ensures.ok

pub returns-in_err-config-clause-input : goal.returns-in_err-config-clause-input
returns-in_err-config-clause-input g c =
    let read = c.in_err-config.ensures in
    Consumes-one _ _ _ _ _ _ (omega arith) read.ahead read.known
    (IsRead-faulty _ _ _ _ _ _ c.from_residual.ensures.1 (λ fault is. rw is ((λ apart. in_config (read.fault apart)), rw read.count at read.asked)))

pub returns-in_err-known_items-clause-input : goal.returns-in_err-known_items-clause-input
returns-in_err-known_items-clause-input g c =
    let config = c.in_ok-config.ensures in
    let unknown = c.in_err-known_items.ensures.fault in
    Consumes-one _ _ _ _ _ _ (omega arith) config.ahead config.known
    (IsRead-faulty _ _ _ _ _ _ c.from_residual-in_err-known_items.ensures.1 (λ fault is. rw is ((λ apart. in_items c.in_ok-config.config config.ok unknown), (λ e. let same = unknown.1 in cc))))

pub returns-in_err-stimuli-clause-input : goal.returns-in_err-stimuli-clause-input
returns-in_err-stimuli-clause-input g c =
    let plan = c.in_ok-config.config in
    let config = c.in_ok-config.ensures in
    let read = c.in_err-stimuli.ensures in
    let kept = config-kept _ _ plan read.keeps config.ok in
    Consumes-two _ _ _ _ _ _ plan kept (omega arith) (omega (arith, config.ahead, read.ahead)) (read.known ∙ config.known)
    (IsRead-faulty _ _ _ _ _ _ c.from_residual-in_err-stimuli.ensures.1
    (λ fault is. rw is ((λ apart. in_stimuli plan kept c.in_ok-known_items.ensures.ok (read.fault apart)), rw (read.count, config.count) at read.asked)))

pub returns-in_err-turns-in-Some-clause-input : goal.returns-in_err-turns-in-Some-clause-input
returns-in_err-turns-in-Some-clause-input g c =
    let plan = c.in_ok-config.config in
    let stimuli = c.in_ok-stimuli.stimuli in
    let config = c.in_ok-config.ensures in
    let read = c.in_err-turns-in-Some.ensures in
    let given = IsGiven-kept _ _ plan stimuli read.keeps (IsGiven-read _ _ plan stimuli c.in_ok-stimuli.ensures.keeps config.ok c.in_ok-stimuli.ensures.ok) in
    let listed : IsSome (path_in c.args.schedule) = rw c.in-Some.is refl in
    Consumes-three _ _ _ _ _ _ plan stimuli given (rw c.in-Some.is (omega arith)) (omega (arith, config.ahead, c.in_ok-stimuli.ensures.ahead, read.ahead)) (read.known ∙ c.in_ok-stimuli.ensures.known ∙ config.known)
    (IsRead-faulty _ _ _ _ _ _ c.from_residual-in_err-turns-in-Some.ensures.1
    (λ fault is. rw is ((λ apart. in_schedule plan stimuli listed given c.in_ok-known_items.ensures.ok (read.fault apart)), rw (read.count, c.in_ok-stimuli.ensures.count, config.count) at read.asked)))

pub returns-in-None-clause-input : goal.returns-in-None-clause-input
returns-in-None-clause-input g c =
    let plan = c.in_ok-config.config in
    let stimuli = c.in_ok-stimuli.stimuli in
    let given = IsGiven-read _ _ plan stimuli c.in_ok-stimuli.ensures.keeps c.in_ok-config.ensures.ok c.in_ok-stimuli.ensures.ok in
    record {
      last = c.stimuli_in.new.source;
      comes = rw c.in-None.is (record { given = given; listed = refl }, c.in_ok-known_items.ensures.ok);
      stops = at_schedule plan stimuli given (omega (arith, c.in_ok-config.ensures.ahead, c.in_ok-stimuli.ensures.ahead));
      named = omega (arith, c.in_ok-config.ensures.ahead, c.in_ok-stimuli.ensures.ahead);
      known_is = c.in_ok-stimuli.ensures.known ∙ c.in_ok-config.ensures.known;
    }

pub returns-clause-input : goal.returns-clause-input
returns-clause-input g c =
    let plan = c.in_ok-config.config in
    let stimuli = c.in_ok-stimuli.stimuli in
    let config = c.in_ok-config.ensures in
    let read = c.in_ok-turns-in-Some.ensures in
    let given = IsGiven-kept _ _ plan stimuli read.keeps (IsGiven-read _ _ plan stimuli c.in_ok-stimuli.ensures.keeps config.ok c.in_ok-stimuli.ensures.ok) in
    Consumes-three _ _ _ _ _ _ plan stimuli given (rw c.in-Some.is (omega arith)) (omega (arith, config.ahead, c.in_ok-stimuli.ensures.ahead, read.ahead)) (read.known ∙ c.in_ok-stimuli.ensures.known ∙ config.known)
    (rw c.in-Some.is (record { given = given; listed = read.ok }, c.in_ok-known_items.ensures.ok))
