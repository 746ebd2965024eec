-- The state of a core that took no item.
use Rattle.std.proofs.Common.{◌≡◌, ℕ, zero, suc, ◌+◌, ◌≤◌, Bool, true, false, cond, IsTrue, Option, Some, None, is_some, List, [], ◌∷◌, map, refl, ap, sym, subst, ◌∙◌, arith, replicate, nat_le, nat_lt, sum_by, get_or, unwrap_or}
use Rattle.std.specs.{List.find, List.list_all, List.slice_get, Option.option_map_or}
use Rattle.std.proofs.{lemmas.Bool.false≢true, lemmas.Bool.and_parts, lemmas.Bool.Decides.nat_tests, lemmas.List.Elements.All-replicate, lemmas.List.Folds.list_all-map}
use Rattle.osbase.specs.{declared.references.CoreId.CoreId, declared.references.Runner.Runner, declared.histories.GotSpinlock.GotSpinlock, declared.histories.Sent.Sent, declared.limits.TheConstants.CORES, declared.limits.TheConstants.RESOURCES, declared.limits.TheConstants.RUNNERS, History.same_core, Phases.is_past_first_gate, Sets.numbers_from}
use Rattle.oscript.specs.{declared.Op.Op, Rows.objects_of, Runners.Row, Runners.first_row}
use Rattle.osplan.specs.{declared.plans.Plan.Plan, declared.plans.Core.Core, declared.plans.Isr.Isr, declared.plans.Resource.Resource, declared.plans.Task.Task, Representable.is_representable, Objects.core_scripts, Objects.may_name}
use Rattle.osplan.specs.View.{View, core_of, no_core, own_isr, own_task, view_from, view_of}
use Rattle.osplan.specs.Limits.{core_sizes, is_core_within, is_task_within, is_within_limits, is_core_known, is_script_known, is_object, is_op_known, most_activations, task_sizes}
use Rattle.osclock.specs.Clocks.{ClockState, clocks_of}
use Rattle.ostable.proofs.Waiting.{waits-begun}
use Rattle.ostable.specs.Tables.{TableStates, tables_of}
use Rattle.osrunner.specs.Rows.{row_at}
use Rattle.osjobs.specs.Jobs.{JobState, first_jobs}
use Rattle.osprogress.specs.{declared.progress.Progress.Progress, Border.first_border, Progress.first_progress}
use Rattle.osstate.specs.{State.state_of, Steps.state_from, Steps.first_state, Readings.script_of}
use Rattle.osstate.specs.Sound.{IsSound, UsesAtMost, is_agreed, has_objects_of}
use Rattle.osbase.proofs.{Same.same_core-comm, Same.same_core-true, Places.passes-at}
use Rattle.osplan.proofs.{Tests.all-weaker, Tests.find-holds, Tests.find-passes, Alarming.known-actions, Alarming.known-named, Alarming.known-parts, Clocked.clocks_within, Within.FitsKernel, Within.limit-parts, Within.core-fits, Scripts.all_scripts}

-- An operation of a configuration names objects that exist; those of them on this core are the core's own.
known_scripts : (plan : Plan) (core : Core) → is_core_known plan core ≡ true → core_of plan core.id ≡ Some core → list_all (list_all (has_objects_of core)) (core_scripts core) ≡ true
known_scripts plan core known found =
    all-weaker (is_script_known plan) (list_all (has_objects_of core)) (all-weaker (is_op_known plan) (has_objects_of core) known_op) (core_scripts core) (known-parts plan core found known).scripts
  where
    known_op : (op : Op) → is_op_known plan op ≡ true → has_objects_of core op ≡ true
    known_op op h = all-weaker (is_object plan) (may_name core) (known-named plan core found) (objects_of op) h

-- A configured core's number is the one by which it is found.
pub id_is : (plan : Plan) (id : CoreId) (core : Core) → core_of plan id ≡ Some core → core.id ≡ id
id_is plan id core found = same_core-true core.id id (find-holds (λ (c : Core). same_core c.id id) plan.cores core found)

-- What a core sees, read off its own part.
pub view-own : (plan : Plan) (id : CoreId) (core : Core) → core_of plan id ≡ Some core → view_from plan core.id core ≡ view_of plan id
view-own plan id core found =
    ap (λ (i : CoreId). view_from plan i core) (id_is plan id core found) ∙ ap (λ (o : Option Core). view_from plan id (unwrap_or o (no_core id))) (sym found)

all-begun : {X : Type 0} (x : X) (first count : ℕ) → map (λ (n : ℕ). x) (numbers_from first count) ≡ replicate count x
all-begun x first zero = refl
all-begun x first (suc count) = ap (λ xs. x ∷ xs) (all-begun x (first + 1) count)

-- The state before any item stands for the empty history.
pub state-begun : (plan : Plan) (id : CoreId) (core : Core) → core_of plan id ≡ Some core → first_state plan core (same_core core.id plan.master) ≡ state_of (view_of plan id) []
state-begun plan id core found =
    ap (λ (rows : List Row). state_from plan core (first_progress (same_core core.id plan.master)) (record (first_jobs core) { rows = rows }) (clocks_of core []) (tables_of core []) first_border) (sym (all-begun first_row 0 RUNNERS))
    ∙ ap (λ (v : View). state_of v []) (view-own plan id core found)

-- Whatever a runner's script names on this core exists.
scripts-known : (core : Core) → list_all (list_all (has_objects_of core)) (core_scripts core) ≡ true → (r : Runner) → list_all (has_objects_of core) (script_of core r) ≡ true
scripts-known core all r = by r
  where
    parts : (list_all (λ (t : Task). list_all (has_objects_of core) t.script) core.tasks ≡ true) × (list_all (λ (i : Isr). list_all (has_objects_of core) i.script) core.isrs ≡ true)
    parts = and_parts _ _ (sym (all_scripts (list_all (has_objects_of core)) core) ∙ all)

    listed : {X : Type 0} (script : X → List Op) (xs : List X) (n : ℕ) → list_all (λ x. list_all (has_objects_of core) (script x)) xs ≡ true → (b : Bool) (o : Option X) → cond b (slice_get xs n) None ≡ o → list_all (has_objects_of core) (option_map_or script o []) ≡ true
    listed script xs n each b None e = refl
    listed script xs n each true (Some x) e = passes-at (λ x. list_all (has_objects_of core) (script x)) xs n x each e
    listed script xs n each false (Some x) e = cc

    by : (q : Runner) → list_all (has_objects_of core) (script_of core q) ≡ true
    by (Runner.Task t) = listed (λ (u : Task). u.script) core.tasks t.index parts.0 (same_core t.core core.id) (own_task core t) refl
    by (Runner.Isr i) = listed (λ (u : Isr). u.script) core.isrs i.index parts.1 (same_core i.core core.id) (own_isr core i) refl

zeros_low : (n k : ℕ) → get_or (replicate n 0) k 0 ≤ 0
zeros_low zero k = omega arith
zeros_low (suc n) zero = omega arith
zeros_low (suc n) (suc k) = zeros_low n k

none-used : UsesAtMost 0 first_row
none-used = record { ticks = omega arith; locks = All-replicate (λ (n : ℕ). n ≤ 0) RESOURCES 0 (omega arith) }

unused : (n place : ℕ) → UsesAtMost 0 (row_at place (replicate n first_row))
unused zero place = none-used
unused (suc n) zero = none-used
unused (suc n) (suc place) = unused n place

-- A task that can wait for events has one job at a time.
single-task : (task : Task) → is_task_within (task_sizes task) ≡ true → nat_le task.activations (most_activations task.extended) ≡ true
single-task task h = grind (arith, nat_tests)

single-jobs : (plan : Plan) (core : Core) → is_core_within (core_sizes plan core) ≡ true → list_all (λ (t : Task). nat_le t.activations (most_activations t.extended)) core.tasks ≡ true
single-jobs plan core h =
    let told = simp (list_all-map is_task_within) at h in
    let tasks : list_all (λ (t : Task). is_task_within (task_sizes t)) core.tasks ≡ true = grind arith in
    all-weaker _ _ single-task core.tasks tasks

-- The state before any item is sound.
pub sound-begun : (priorities room : ℕ) (plan : Plan) (id : CoreId) (core : Core) (master : Bool) → IsTrue (is_within_limits plan) → IsTrue (is_representable plan) → core_of plan id ≡ Some core
    → list_all (λ (t : Task). nat_lt t.priority priorities) (view_of plan id).own.tasks ≡ true
    → list_all (λ (r : Resource). nat_lt r.ceiling priorities) (view_of plan id).own.resources ≡ true
    → sum_by (λ (t : Task). t.activations) (view_of plan id).own.tasks ≤ room → IsSound priorities room (first_state plan core master)
sound-begun priorities room plan id core master limits text found below ceilings sum = record {
  tasks = record {
    tasks = fits.tasks;
    isrs = fits.isrs;
    bounded = subst (λ (v : View). list_all (λ (t : Task). nat_lt t.priority priorities) v.own.tasks ≡ true) (sym (view-own plan id core found)) below;
    limits = subst (λ (v : View). sum_by (λ (t : Task). t.activations) v.own.tasks ≤ room) (sym (view-own plan id core found)) sum;
    some = fits.some;
    narrow = fits.priorities;
    single = single-jobs plan core within;
  };
  objects = record {
    scripts = scripts-known core (known_scripts plan core known mine);
    actions = known-actions plan core mine known;
    resources = fits.resources;
    ceilings = subst (λ (v : View). list_all (λ (r : Resource). nat_lt r.ceiling priorities) v.own.resources ≡ true) (sym (view-own plan id core found)) ceilings;
  };
  jobs = record { within = (λ r. omega arith); stamps = tt; idle = (λ e. refl); interrupts = (λ r. omega arith); entered = (λ i. omega arith); used = unused RUNNERS; tasks = refl };
  progress = record { agreed = before_gate master; began = omega arith; items = omega arith };
  border = record { caller = tt; awaited = tt; queued = zeros_low CORES; received = zeros_low CORES };
  times = record {
    clocks = record { within = clocks_within plan id core limits found; history = []; is = refl };
    tables = record { within = clocks_within plan id core limits found; history = []; is = refl };
    waiting = waits-begun core;
  };
}
  where
    before_gate : (b : Bool) → is_past_first_gate (first_progress b).phase ≡ true → is_agreed None ≡ true
    before_gate true e = absurd (false≢true e)
    before_gate false e = absurd (false≢true e)

    known : is_core_known plan core ≡ true
    known = find-passes (λ (c : Core). same_core c.id id) (is_core_known plan) plan.cores core (limit-parts plan limits).known found

    mine : core_of plan core.id ≡ Some core
    mine = ap (core_of plan) (id_is plan id core found) ∙ found

    fits : FitsKernel core
    fits = core-fits plan id core limits found

    within : is_core_within (core_sizes plan core) ≡ true
    within = find-passes (λ (c : Core). same_core c.id id) (λ (c : Core). is_core_within (core_sizes plan c)) plan.cores core (limit-parts plan limits).cores found

-- The parts of a state before any item, each with its value.
pub parts-begun : (plan : Plan) (core : Core) (b : Bool) (p : Progress) (jobs : JobState) (clocks : ClockState) (tables : TableStates) (outbox : List Sent) (got : List GotSpinlock) → p ≡ first_progress b → jobs ≡ first_jobs core → clocks ≡ clocks_of core [] → tables ≡ tables_of core [] → outbox ≡ [] → got ≡ []
    → state_from plan core p jobs clocks tables (record first_border { outbox = outbox; spins = got }) ≡ first_state plan core b
parts-begun plan core b p jobs clocks tables outbox got progress no_jobs no_counts none_started no_outbox none_got =
    ap (λ (q : Progress). state_from plan core q jobs clocks tables (record first_border { outbox = outbox; spins = got })) progress
    ∙ ap (λ (js : JobState). state_from plan core (first_progress b) js clocks tables (record first_border { outbox = outbox; spins = got })) no_jobs
    ∙ ap (λ (k : ClockState). state_from plan core (first_progress b) (first_jobs core) k tables (record first_border { outbox = outbox; spins = got })) no_counts
    ∙ ap (λ (x : TableStates). state_from plan core (first_progress b) (first_jobs core) (clocks_of core []) x (record first_border { outbox = outbox; spins = got })) none_started
    ∙ ap (λ (out : List Sent). state_from plan core (first_progress b) (first_jobs core) (clocks_of core []) (tables_of core []) (record first_border { outbox = out; spins = got })) no_outbox
    ∙ ap (λ (xs : List GotSpinlock). state_from plan core (first_progress b) (first_jobs core) (clocks_of core []) (tables_of core []) (record first_border { spins = xs })) none_got

-- A configured core's number is among those that a core sees.
pub is_some-core_of : (id : CoreId) (cores : List Core) → is_some (find (λ (c : Core). same_core c.id id) cores) ≡ is_some (find (same_core id) (map (λ (c : Core). c.id) cores))
is_some-core_of id [] = refl
is_some-core_of id (c ∷ cs) =
    cases (same_core c.id id) (is_some-core_of id cs) ∙ ap (λ (b : Bool). is_some (cond b (Some c.id) (find (same_core id) (map (λ (d : Core). d.id) cs)))) (same_core-comm c.id id)
  where
    cases : (b : Bool) → is_some (find (λ (d : Core). same_core d.id id) cs) ≡ is_some (find (same_core id) (map (λ (d : Core). d.id) cs)) → is_some (cond b (Some c) (find (λ (d : Core). same_core d.id id) cs)) ≡ is_some (cond b (Some c.id) (find (same_core id) (map (λ (d : Core). d.id) cs)))
    cases true rest = refl
    cases false rest = rest
