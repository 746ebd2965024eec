-- A worker's shift: its beginning, its turns, and what it hands back.
use Rattle.std.proofs.Common.{⊎_elim, ◌≡◌, ℕ, zero, suc, ◌+◌, ◌*◌, ◌/◌, ◌<◌, ◌≤◌, Bool, true, false, None, List, [], length, refl, sym, subst, ◌∙◌, arith}
use Rattle.std.proofs.{lemmas.Bool.cases_eq, lemmas.Bool.cases_lt, lemmas.Bool.false≢true, lemmas.Bool.Decides.nat_tests, Math.Nat.div-lt_iff_lt-mul}
use Rattle.osbase.specs.{declared.references.CoreId.CoreId, declared.turns.CoreStimuli.CoreStimuli, History.first_phase, Runs.stimuli_of}
use Rattle.osplan.specs.{declared.plans.Plan.Plan, View.view_of}
use Rattle.osstate.specs.State.{state_of}
use Rattle.osrun.specs.{Requests.Calls, Requests.no_calls, declared.core_runs.CoreRun.CoreRun, Fits.ids_of, CoreRuns.Keeps, CoreRuns.is_ended_phase, CoreRuns.report_of}
use Rattle.osmail.specs.Ends.{Streams}
use Rattle.osrun.proofs.CoreRunning.{seated-first, seated-own}
use Rattle.osworker.specs.{declared.run.Run.Run, declared.turns.Stop.Stop, declared.turns.Turned.Turned, declared.turns.Turned.TheVariants.Nothing, declared.turns.Turned.TheVariants.Took, declared.turns.Turned.TheVariants.Refused, declared.worker.Shift.Shift, declared.worker.Worker.Worker, declared.worker.Worked.Worked, Seats.made_from}
use Rattle.osworker.specs.Rounds.{IsGoing, IsNext, IsStopped, core_count, loads_at, places_of, since_own}
use Rattle.osworker.specs.Working.{HasDone, HasNoWork, HasWorked, IsFinished, IsTurn, IsWorked, UnlessTook, is_ended_by, is_finished_by, refusal_at}
use Rattle.osworker.proofs.Working.{stuck-by-items}

-- A core has not ended at first.
pub first-running : (is_master : Bool) → is_ended_phase (first_phase is_master) ≡ false
first-running true = refl
first-running false = refl

-- A worker that has done nothing.
pub begun : (plan : Plan) (stimuli : List CoreStimuli) (core : CoreRun) (id : CoreId) (made : Calls) (sent taken : Streams) → core.id ≡ id → core.plan.now ≡ plan → core.kernel ≡ state_of (view_of plan id) [] → core.stimuli.now ≡ stimuli_of stimuli id → core.items.items ≡ [] → core.marks.items ≡ []
    → made ≡ no_calls → ((c : CoreId) → (sent c ≡ []) × (taken c ≡ [])) → HasDone plan stimuli core made sent taken None 0
begun plan stimuli core id made sent taken is_id is_plan is_kernel is_left no_items no_marks none_made no_mail = record {
  work = record {
    seated = seated-first plan stimuli core id is_id is_plan is_kernel is_left no_items no_marks;
    fits = rw (no_items) (record { alone = refl; begins = (stimuli_of stimuli core.id, refl); drains = λ drained. absurd (false≢true drained) });
  };
  calls = rw (no_items, none_made) (record { log = no_calls; answers = refl; before = []; idle = []; calls = refl; logged = refl; looks = tt; enough = omega arith; spins = tt });
  mail = record {
    sent_is = λ to. (no_mail to).0 ∙ rw (no_items) refl;
    taken_is = λ from. (no_mail from).1 ∙ rw (no_items) refl;
    refused = tt;
  };
}

-- At each place of its round, a core serves, does its own work, or looks.
by-place : {A : Type 0} (cores at : ℕ) → (at + 1 < cores → A) → (at + 1 ≡ cores → A) → (cores ≤ at → A) → A
by-place cores at served worked looked = ⊎_elim served (λ late. ⊎_elim worked (λ other. looked (omega (arith, late, other))) (cases_eq (at + 1) cores)) (cases_lt (at + 1) cores)

-- The next place, and the number of turns that changed nothing, after one more turn.
module _ (cores at : ℕ) (turned : Turned) (next : ℕ) (is : IsNext cores at turned next) where
  went-round : at ≤ cores → next ≤ cores
  went-round place = by-place cores at (λ serves. omega (arith, (is.served serves).within)) (λ own. omega (arith, is.worked own)) (λ looks. omega (arith, is.looked looks))

  one-more : (fruitless loads : ℕ) → at ≤ cores → fruitless ≤ places_of cores loads + at → fruitless + 1 ≤ places_of cores ((loads + 0) + loads_at cores at) + next
  one-more fruitless loads place count = by-place cores at
      (λ serves. let past = (is.served serves).past in grind (arith, nat_tests, serves, past, count))
      (λ own. let end = is.worked own in grind (arith, nat_tests, own, end, count))
      (λ looks. let begin = is.looked looks in grind (arith, nat_tests, looks, begin, place, count))

  -- After a turn that changed nothing, the core's own turn is one turn longer ago, unless this was the own turn.
  pub own-next : 0 < cores → at ≤ cores → turned ≡ Nothing → (at + 1 ≡ cores → ⊥) → since_own cores next ≡ since_own cores at + 1
  own-next some place none other = by-place cores at
      (λ serves. let end = (is.served serves).all none in grind (arith, nat_tests, serves, end))
      (λ own. absurd (other own))
      (λ looks. let begin = is.looked looks in grind (arith, nat_tests, looks, begin, some, place))

-- The core's own turn was at most a round ago.
pub own-before : (cores at : ℕ) → 0 < since_own cores at
own-before cores at = grind (arith, nat_tests)

own-within : (cores at : ℕ) → at ≤ cores → since_own cores at ≤ cores + 1
own-within cores at place = grind (arith, nat_tests)

-- Each round has one place more than there are cores, so `n` rounds have `n` times as many.
rounds : (cores n : ℕ) → places_of cores n ≡ n * (cores + 1)
rounds cores zero = omega arith
rounds cores (suc n) = let rest = rounds cores n in omega arith

whole-rounds : (cores turns loads : ℕ) → turns < places_of cores (suc loads) → turns / (cores + 1) ≤ loads
whole-rounds cores turns loads short =
    let product : turns < suc loads * (cores + 1) = omega (arith, short, rounds cores (suc loads)) in
    let quotient : turns / (cores + 1) < suc loads = (div-lt_iff_lt-mul {k = cores + 1} {x = turns} {y = suc loads} (omega arith)).1 product in
    omega arith

-- Which turns look at the board.
pub no-look : (cores at : ℕ) → at < cores → loads_at cores at ≡ 0
no-look cores at before = grind (arith, nat_tests)

pub a-look : (cores at : ℕ) → cores ≤ at → loads_at cores at ≡ 1
a-look cores at last = grind (arith, nat_tests)

-- To do nothing is a turn that changes nothing. If the first of two turns changes nothing, both count as the second.
module _ {M E : Type 0} (sent taken : M → Streams) (which : M → E) where
  no-more : (stimuli : List CoreStimuli) (loads : ℕ) (w : Worker M) → HasWorked sent taken stimuli None (loads + 0) w → HasWorked sent taken stimuli None loads w
  no-more stimuli loads w = subst (λ (n : ℕ). HasWorked sent taken stimuli None n w) (omega arith)

  no-less : (stimuli : List CoreStimuli) (loads : ℕ) (w : Worker M) → HasWorked sent taken stimuli None loads w → HasWorked sent taken stimuli None (loads + 0) w
  no-less stimuli loads w = subst (λ (n : ℕ). HasWorked sent taken stimuli None n w) (omega arith)

  pub no-turn : (w : Worker M) → IsTurn sent taken which 0 Nothing w w
  no-turn w = record { turns = λ stimuli loads done. no-less stimuli loads w done; core = refl; same = record { run = refl; id = refl; end = refl } }

  unless-on : (turned : Turned) (old mid new : CoreRun) → mid ≡ old → UnlessTook turned (new ≡ mid) → UnlessTook turned (new ≡ old)
  unless-on Took old mid new kept keeps = tt
  unless-on Nothing old mid new kept keeps = keeps ∙ kept
  unless-on (Refused from e) old mid new kept keeps = keeps ∙ kept

  pub turn-on : (turned : Turned) (old mid new : Worker M) → IsTurn sent taken which 0 Nothing old mid → IsTurn sent taken which 0 turned mid new → IsTurn sent taken which 0 turned old new
  turn-on turned old mid new first then = record {
    turns = λ stimuli loads done. then.turns stimuli loads (no-more stimuli loads mid (first.turns stimuli loads done));
    core = unless-on turned old.core mid.core new.core first.core then.core;
    same = record { run = then.same.run ∙ first.same.run; id = then.same.id ∙ first.same.id; end = then.same.end ∙ first.same.end };
  }

-- A worker that did nothing in as many turns as were allowed.
pub stopped-stalled : {M : Type 0} (sent taken : M → Streams) (stimuli : List CoreStimuli) (shift : Shift M) → IsGoing sent taken stimuli shift → shift.worker.run.now.turns ≤ shift.fruitless → IsStopped sent taken stimuli Stop.Stalled shift
stopped-stalled sent taken stimuli shift going enough = record {
  loads = going.loads;
  worked = going.worked;
  ended = going.running;
  stalled = λ e. omega (arith, enough, going.count, going.place);
  stuck = λ e some whole. going.stuck some (omega (arith, own-within (core_count shift) shift.at going.place, whole, enough));
}

-- A worker that continues after a turn.
module _ {M : Type 0} (sent taken : M → Streams) (stimuli : List CoreStimuli) (old new : Shift M) (run : new.worker.run ≡ old.worker.run) (turned : Turned) (moved : IsNext (core_count old) old.at turned new.at) (place : old.at ≤ core_count old) where
  placed : new.at ≤ core_count new
  placed = rw run (went-round (core_count old) old.at turned new.at moved place)

  pub went-took : new.fruitless ≡ 0 → is_ended_phase new.worker.core.kernel.progress.phase ≡ false → HasWorked sent taken stimuli None 0 new.worker → IsGoing sent taken stimuli new
  went-took none running worked = record {
    loads = 0;
    worked = worked;
    count = omega (arith, none);
    place = placed;
    running = running;
    stuck = λ some own. absurd (omega (arith, own, none, own-before (core_count new) new.at));
  }

  -- After a turn that changed nothing the core has as little work as before.
  pub went-nothing : turned ≡ Nothing → Keeps old.worker.core new.worker.core → new.fruitless ≡ old.fruitless + 1 → (going : IsGoing sent taken stimuli old) → (old.at + 1 ≡ core_count old → HasNoWork old.worker)
      → HasWorked sent taken stimuli None ((going.loads + 0) + loads_at (core_count old) old.at) new.worker → IsGoing sent taken stimuli new
  went-nothing none keeps one going now worked = record {
    loads = (going.loads + 0) + loads_at (core_count old) old.at;
    worked = worked;
    count = rw (run, one) (one-more (core_count old) old.at turned new.at moved old.fruitless going.loads place going.count);
    place = placed;
    running = rw keeps.kernel going.running;
    stuck = rw (run, one, keeps.id, keeps.kernel, keeps.left)
        (λ some own. ⊎_elim now (λ other. going.stuck some (omega (arith, own, own-next (core_count old) old.at turned new.at moved some place none other))) (cases_eq (old.at + 1) (core_count old)));
  }

-- A worker that stopped since its core had ended, or that stalled.
pub worked-finished : {M : Type 0} (sent taken : M → Streams) (run : Run) (worked : Worked M) → IsWorked sent taken run worked → is_finished_by worked.stop ≡ true → IsFinished run.config.now run.stimuli.now run.turns worked.report (made_from worked.seats)
worked-finished sent taken run worked is finished = record {
  loads = is.loads;
  calls = is.calls;
  stalled = λ going. is.stalled (stalled-by worked.stop finished (sym is.ended ∙ going));
}
  where
    stalled-by : (stop : Stop) → is_finished_by stop ≡ true → is_ended_by stop ≡ false → stop ≡ Stop.Stalled
    stalled-by Stop.Stalled finished going = refl
    stalled-by stop finished going = cc

-- What a worker that stopped hands back, with these clocks.
handed : {M : Type 0} (sent taken : M → Streams) (stop : Stop) (shift : Shift M) (worked : Worked M) (clocks : List ℕ) → shift.worker.run.now.cores.now ≡ ids_of shift.worker.run.now.config.now → IsStopped sent taken shift.worker.run.now.stimuli.now stop shift
    → 0 < length (ids_of shift.worker.run.now.config.now) → worked.report ≡ record (report_of shift.worker.core) { clocks = clocks } → worked.seats ≡ shift.worker.seats → worked.mail ≡ shift.worker.mail → worked.stop ≡ stop → IsWorked sent taken shift.worker.run.now worked
handed sent taken stop shift worked clocks cores stopped some report_is seats_is mail_is stop_is = record {
  own = rw report_is (seated-own run.config.now run.stimuli.now core done.work.seated);
  fits = rw report_is done.work.fits;
  loads = stopped.loads;
  calls = rw (report_is, seats_is) done.calls;
  mail = rw (report_is, mail_is, stop_is) done.mail;
  ended = rw (report_is, stop_is) stopped.ended;
  stalled = λ e. rw report_is (record {
    rounds = rw (← cores) (whole-rounds (core_count shift) run.turns stopped.loads (stopped.stalled (sym stop_is ∙ e)));
    stuck = λ whole. stuck-by-items run.config.now run.stimuli.now core done.work (stopped.stuck (sym stop_is ∙ e) (rw cores some) (rw cores whole));
  });
}
  where
    run : Run
    run = shift.worker.run.now

    core : CoreRun
    core = shift.worker.core

    done : HasWorked sent taken run.stimuli.now (refusal_at stop) stopped.loads shift.worker
    done = stopped.worked

pub handed-back : {M : Type 0} (sent taken : M → Streams) (run : Run) (stop : Stop) (shift : Shift M) (worked : Worked M) (clocks : List ℕ) → shift.worker.run.now ≡ run → run.cores.now ≡ ids_of run.config.now → IsStopped sent taken run.stimuli.now stop shift
    → 0 < length (ids_of run.config.now) → worked.report ≡ record (report_of shift.worker.core) { clocks = clocks } → worked.seats ≡ shift.worker.seats → worked.mail ≡ shift.worker.mail → worked.stop ≡ stop → IsWorked sent taken run worked
handed-back sent taken run stop shift worked clocks same cores stopped some report_is seats_is mail_is stop_is =
    subst (λ (r : Run). r.cores.now ≡ ids_of r.config.now → IsStopped sent taken r.stimuli.now stop shift → 0 < length (ids_of r.config.now) → IsWorked sent taken r worked) same
    (λ cores' stopped' some'. handed sent taken stop shift worked clocks cores' stopped' some' report_is seats_is mail_is stop_is) cores stopped some
