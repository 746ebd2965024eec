-- What the scripts, alarms and schedule tables of a separate core name, and those of the others.
use Rattle.std.proofs.Common.{List, ◌≡◌, ℕ, Bool, true, false, not, ◌&&◌, cond, Option, Some, None, [], refl, ap, subst, sym, ◌∙◌, unwrap_or}
use Rattle.std.specs.{List.list_all, List.list_any, List.slice_get, Option.option_map_or}
use Rattle.std.proofs.lemmas.Bool.{not-false, not-true, not_from_false, or_from, or_left, or_parts, or_right, true≢false}
use Rattle.osbase.specs.{declared.messages.RemoteCall.RemoteCall, declared.references.CoreId.CoreId, declared.references.Runner.Runner, History.same_core, Objects.object_of_call, declared.objects.Object.Object}
use Rattle.osbase.proofs.Same.{same_core-true}
use Rattle.oscript.specs.{declared.Op.Op, Rows.asks_shared, Rows.halts_all, Rows.objects_of}
use Rattle.osplan.specs.{declared.plans.Plan.Plan, declared.plans.Core.Core, declared.plans.Isr.Isr, declared.plans.Task.Task, Objects.core_actions}
use Rattle.osplan.specs.Naming.{acts_on, has_operation, is_off, is_on, names_object, op_names}
use Rattle.osseparate.specs.Separate.{halts_somewhere, is_named_elsewhere}
use Rattle.osplan.specs.View.{View, core_of, no_core, view_of}
use Rattle.osplan.proofs.Scripts.{no-operation}
use Rattle.osseparate.proofs.Separating.{SeparateParts}
use Rattle.osplan.proofs.Tests.{all-not, all-weaker, fails-at, find-fails, find-holds}
use Rattle.osstate.specs.Readings.{script_of}
use Rattle.osservice.proofs.{Called.locks-any, Called.locks-none, Called.may_lock, Kept.is_within, Kept.nobody, Partners.Partner}
use Rattle.oskernel.proofs.Carried.{NamesAllow, allow-cores}

-- Every core but this one, every spinlock, and what all cores share; but not the shutdown of all cores.
abbrev pub all_but : CoreId → Partner → Bool
all_but id (Partner.Core core) = not (same_core core id)
all_but id (Partner.Spinlock l) = true
all_but id Partner.Shared = true
all_but id Partner.Halt = false

-- Every partner, but not the shutdown of all cores.
abbrev pub but_halt : Partner → Bool
but_halt (Partner.Core core) = true
but_halt (Partner.Spinlock l) = true
but_halt Partner.Shared = true
but_halt Partner.Halt = false

-- If no script of the core has an operation that passes a test, no operation that a runner reaches does.
pub script-fails : (own : Core) (test : Op → Bool) → has_operation test own ≡ false → (r : Runner) (n : ℕ) (op : Op) → slice_get (script_of own r) n ≡ Some op → test op ≡ false
script-fails own test none r n op e = by r e
  where
    parts : (list_any (λ (x : Task). list_any test x.script) own.tasks ≡ false) × (list_any (λ (x : Isr). list_any test x.script) own.isrs ≡ false)
    parts = no-operation test own none

    of : {X : Type 0} (xs : List X) (script : X → List Op) (i : ℕ) (b : Bool) (o : Option X) → list_any (λ (x : X). list_any test (script x)) xs ≡ false → slice_get xs i ≡ o
        → slice_get (option_map_or script (cond b o None) []) n ≡ Some op → test op ≡ false
    of xs script i true (Some x) fails f g = fails-at test (script x) n op (fails-at (λ y. list_any test (script y)) xs i x fails f) g
    of xs script i true None fails f g = cc
    of xs script i false o fails f g = cc

    by : (q : Runner) → slice_get (script_of own q) n ≡ Some op → test op ≡ false
    by (Runner.Task t) g = of own.tasks (λ (task : Task). task.script) t.index (same_core t.core own.id) (slice_get own.tasks t.index) parts.0 refl g
    by (Runner.Isr i) g = of own.isrs (λ (isr : Isr). isr.script) i.index (same_core i.core own.id) (slice_get own.isrs i.index) parts.1 refl g

-- An operation that a runner reaches never passes the test, so anything follows if one does.
pub script-none : (own : Core) (test : Op → Bool) → has_operation test own ≡ false → {A : Type 0} (r : Runner) (n : ℕ) (op : Op) → slice_get (script_of own r) n ≡ Some op → test op ≡ true → A
script-none own test none r n op e passes = absurd (true≢false (sym passes ∙ script-fails own test none r n op e))

-- If each object that fails one test passes another, objects that all fail the first all pass the other.
pub none-all : (p q : Object → Bool) → ((object : Object) → p object ≡ false → q object ≡ true) → (objects : List Object) → list_any p objects ≡ false → list_all q objects ≡ true
none-all p q then objects none = all-weaker (λ object. not (p object)) q (λ object fails. then object (not-true (p object) fails)) objects (all-not p objects none)

-- If a core's scripts, alarms and tables name no object that passes a test, and each object that fails it is on the own
-- core or on one that may be asked, it names only objects there. It asks for spinlocks, for what all share, and for a
-- shutdown, only if it may.
pub names-allow : (v : View) (may : Partner → Bool) (test : Object → Bool) → names_object test v.own ≡ false → ((object : Object) → test object ≡ false → is_within v may object.place.core ≡ true)
    → ((r : Runner) (n : ℕ) (op : Op) → slice_get (script_of v.own r) n ≡ Some op → list_all (may_lock may) (objects_of op) ≡ true)
    → ((r : Runner) (n : ℕ) (op : Op) → slice_get (script_of v.own r) n ≡ Some op → asks_shared op ≡ true → may Partner.Shared ≡ true)
    → ((r : Runner) (n : ℕ) (op : Op) → slice_get (script_of v.own r) n ≡ Some op → halts_all op ≡ true → may Partner.Halt ≡ true) → NamesAllow v may
names-allow v may test none then locks shared halt =
    let parts = or_parts (has_operation (op_names test) v.own) (acts_on test v.own) none in
    record {
      scripts = λ r n op e. record {
        objects = none-all test (λ (object : Object). is_within v may object.place.core) then (objects_of op) (script-fails v.own (op_names test) parts.0 r n op e);
        locks = locks r n op e;
        shared = shared r n op e;
        halt = halt r n op e;
      };
      actions = all-weaker (λ (action : RemoteCall). not (test (object_of_call action))) _ (λ action fails. then (object_of_call action) (not-true (test (object_of_call action)) fails)) (core_actions v.own)
          (all-not (λ (action : RemoteCall). test (object_of_call action)) (core_actions v.own) parts.1);
    }

-- If no script of a configuration shuts all cores down, no script of a core of it does.
unhalted-own : (plan : Plan) (id : CoreId) → halts_somewhere plan ≡ false → has_operation halts_all (view_of plan id).own ≡ false
unhalted-own plan id unhalted = by (core_of plan id) refl
  where
    by : (o : Option Core) → core_of plan id ≡ o → has_operation halts_all (unwrap_or o (no_core id)) ≡ false
    by None found = refl
    by (Some core) found = find-fails (λ (x : Core). same_core x.id id) (has_operation halts_all) plan.cores core unhalted found

-- Such a core may ask for anything else.
pub halt-allow : (plan : Plan) (id : CoreId) → halts_somewhere plan ≡ false → NamesAllow (view_of plan id) but_halt
halt-allow plan id unhalted =
    allow-cores (view_of plan id) but_halt (λ core. refl) (λ l. refl) (λ r n op e asks. refl) (script-none (view_of plan id).own halts_all (unhalted-own plan id unhalted))

-- A separate core's scripts and alarms name none but its own objects, and ask for nothing that all cores share.
pub own-allow : (plan : Plan) (core : Core) (id : CoreId) → core_of plan id ≡ Some core → core.id ≡ id → SeparateParts plan core → NamesAllow (view_of plan id) nobody
own-allow plan core id found same parts =
    names-allow (view_of plan id) nobody (is_off id)
    (own (names_object (is_off id)) (subst (λ (other : CoreId). names_object (is_off other) core ≡ false) same (or_from _ _ parts.inward parts.acting)))
    (λ object at_home. or_left _ false (not-false (is_on id object) at_home))
    (λ r n op e. locks-none nobody op (script-fails (view_of plan id).own asks_shared (own (has_operation asks_shared) parts.unshared) r n op e))
    (script-none (view_of plan id).own asks_shared (own (has_operation asks_shared) parts.unshared))
    (script-none (view_of plan id).own halts_all (unhalted-own plan id parts.unhalted))
  where
    own : (test : Core → Bool) → test core ≡ false → test (view_of plan id).own ≡ false
    own test none = ap (λ (o : Option Core). test (unwrap_or o (no_core id))) found ∙ none

-- If a core is not named elsewhere and no script shuts all cores down, all other cores' scripts and alarms name none of
-- its objects.
pub other-allow : (plan : Plan) (id other : CoreId) → is_named_elsewhere plan id ≡ false → halts_somewhere plan ≡ false → same_core other id ≡ false → NamesAllow (view_of plan other) (all_but id)
other-allow plan id other unnamed unhalted differs =
    names-allow (view_of plan other) (all_but id) (is_on id) (by (core_of plan other) refl)
    (λ object apart. or_right _ _ (not_from_false (is_on id object) apart))
    (λ r n op e. locks-any (all_but id) (λ l. refl) (objects_of op))
    (λ r n op e asks. refl)
    (script-none (view_of plan other).own halts_all (unhalted-own plan other unhalted))
  where
    by : (o : Option Core) → core_of plan other ≡ o → names_object (is_on id) (unwrap_or o (no_core other)) ≡ false
    by None found = refl
    by (Some core) found =
        let same = same_core-true core.id other (find-holds (λ (x : Core). same_core x.id other) plan.cores core found) in
        let unnamed_here = find-fails (λ (x : Core). same_core x.id other) (λ (x : Core). not (same_core x.id id) && names_object (is_on id) x) plan.cores core unnamed found in
        subst (λ (b : Bool). (not b && names_object (is_on id) core) ≡ false) (ap (λ (i : CoreId). same_core i id) same ∙ differs) unnamed_here
