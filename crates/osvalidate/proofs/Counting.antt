-- A text's limits, without the lengths of its scripts (counted where they are read), and how many objects it has.
use Rattle.std.proofs.Common.{◌≡◌, ℕ, ◌-◌, ◌&&◌, nat_le, Bool, true, List, Some, length, map, refl, sym, ap, ◌∙◌, arith, false}
use Rattle.std.specs.List.{list_all}
use Rattle.std.proofs.{lemmas.List.length-map, lemmas.List.Folds.list_all-append, lemmas.List.Folds.list_all-map}
use Rattle.osplan.specs.Limits.{CoreSizes, cores_by, is_between, is_within_by, is_versioned, are_alarms_within, are_counters_within, are_tables_within, most_cores, most_posted, is_core_numbered, is_core_within, is_short, count_in, most_of}
use Rattle.osvalidate.specs.Words.{ConfigText, CoreText, Declaration, IsrText, ObjectKind, SpinlockText, TaskText}
use Rattle.osvalidate.specs.Check.{are_scripts_short, alarm_sizes, bare_sizes, core_scripts, core_sizes, counter_sizes, is_core_short, is_script_short, is_text_numbered, is_text_within, sizes_of, table_sizes, tests_of}
use Rattle.osschema.specs.{Declarations.declarations, Shape.objects_in, Shape.unnumbered}
use Rattle.osschema.proofs.Lists.{all-split, list_all-every}
use Rattle.osvalidate.specs.{Operation.operations_of, Posted.most_posts_per_tick, Few.are_objects_few, Few.is_core_few}
use Rattle.std.proofs.lemmas.Bool.{and_from, and_parts}
use Rattle.osplan.specs.{declared.faults.ConfFault.TheVariants.Limit, declared.plans.TheConstants.KINDS, Fault.failing, Fault.first_fault}
use Rattle.osplan.proofs.{Tests.all-weaker, Within.few-of}

pub all_true : (b : Bool) → (b && true && true && true && true) ≡ b
all_true b = grind arith

pub bare_split : (objects : List Declaration) (core : CoreText)
    → is_core_numbered (core_sizes objects core)
    ≡ (is_core_numbered (bare_sizes core) && are_counters_within (map counter_sizes core.counters) && are_alarms_within (map (alarm_sizes objects) core.alarms)
    && are_tables_within (map (table_sizes objects) core.tables) && nat_le (most_posts_per_tick objects core) most_posted)
bare_split objects core = grind arith

core-split : (objects : List Declaration) (core : CoreText) → is_core_within (core_sizes objects core) ≡ (is_core_numbered (core_sizes objects core) && is_core_short core)
core-split objects core =
    ap (λ b. is_core_numbered (core_sizes objects core) && b) (list_all-map is_short (λ (script : List ℕ). length (operations_of script)) (core_scripts core))

-- none of a core's scripts is too long: none of a task, and none of an ISR
pub core_shorts : (core : CoreText) → is_core_short core ≡ (list_all (λ (task : TaskText). is_script_short task.script) core.tasks && list_all (λ (isr : IsrText). is_script_short isr.script) core.isrs)
core_shorts core = simp (list_all-append, list_all-map)

cores-split : (objects : List Declaration) (cores : List CoreText) → list_all is_core_within (map (core_sizes objects) cores) ≡ (list_all is_core_numbered (map (core_sizes objects) cores) && list_all is_core_short cores)
cores-split objects cores =
    rw (list_all-map is_core_within (core_sizes objects) cores, list_all-map is_core_numbered (core_sizes objects) cores)
    (all-split (λ core. is_core_within (core_sizes objects core)) (λ core. is_core_numbered (core_sizes objects core)) is_core_short (core-split objects) cores)

-- the last of several tests can be taken apart from the others
last-apart : (versioned others numbered short : Bool) → (versioned && (others && (numbered && short))) ≡ ((versioned && (others && numbered)) && short)
last-apart versioned others numbered short = grind arith

pub within_split : (t : ConfigText) → is_text_within t ≡ (is_text_numbered t && are_scripts_short t)
within_split t =
    let others : Bool = is_between 1 (most_of ObjectKind.Mode) (Some (length t.modes)) && nat_le (length t.spinlocks) (most_of ObjectKind.Spinlock) && is_between 1 16 t.cap && is_between 1 most_cores (Some (length (sizes_of t).cores)) in
    rw (cores-split (declarations t) t.cores) (last-apart (is_versioned (sizes_of t)) others (list_all is_core_numbered (sizes_of t).cores) (list_all is_core_short t.cores))

-- if the version exists, only the number of cores and their numbers are left to judge
pub cores-versioned : (t : ConfigText) → is_between 1 2 t.version ≡ true
    → (is_between 1 (cores_by t.version) (Some (length t.cores)) && list_all (λ (core : CoreText). is_between 0 (cores_by t.version - 1) core.id) t.cores) ≡ is_versioned (sizes_of t)
cores-versioned t version =
    rw (version, length-map t.cores (core_sizes (declarations t)), list_all-map (λ (core : CoreSizes). is_between 0 (cores_by t.version - 1) core.number) (core_sizes (declarations t)) t.cores) refl

-- if all numbers outside the cores are within their limits, only those of the cores are left to judge
pub cores-left : (t : ConfigText) → is_versioned (sizes_of t) ≡ true → is_between 1 (most_of ObjectKind.Mode) (Some (length t.modes)) ≡ true → nat_le (length t.spinlocks) (most_of ObjectKind.Spinlock) ≡ true → is_between 1 16 t.cap ≡ true
    → (is_between 1 most_cores (Some (length t.cores)) && list_all (λ (core : CoreText). is_core_numbered (core_sizes (declarations t) core)) t.cores) ≡ is_text_numbered t
cores-left t version modes spinlocks cap =
    let numbered : (is_between 1 most_cores (Some (length t.cores)) && list_all (λ (core : CoreText). is_core_numbered (core_sizes (declarations t) core)) t.cores) ≡ is_within_by is_core_numbered (sizes_of t) =
    rw (modes, spinlocks, cap, length-map t.cores (core_sizes (declarations t)), list_all-map is_core_numbered (core_sizes (declarations t)) t.cores) refl in
    numbered ∙ ap (λ (versioned : Bool). versioned && is_within_by is_core_numbered (sizes_of t)) (sym version)

-- ---- a text with more objects than a configuration may have is past its limits

-- a core's sizes have as many entries of a kind as its text has objects of that kind
sizes-counted : (objects : List Declaration) (core : CoreText) (kind : ObjectKind) → count_in kind (core_sizes objects core) ≡ length (objects_in kind core)
sizes-counted objects core ObjectKind.Mode = refl
sizes-counted objects core ObjectKind.Spinlock = refl
sizes-counted objects core kind = simp length-map

core-few : (objects : List Declaration) (core : CoreText) → is_core_numbered (core_sizes objects core) ≡ true → is_core_few core ≡ true
core-few objects core h = list_all-every (λ (kind : ObjectKind). nat_le (length (objects_in kind core)) (most_of kind)) (λ kind. ap (λ n. nat_le n (most_of kind)) (sym (sizes-counted objects core kind)) ∙ few-of (core_sizes objects core) h kind) KINDS

by-few : (t : ConfigText) → is_within_by is_core_numbered (sizes_of t) ≡ true → are_objects_few t ≡ true
by-few t h =
    let objects = declarations t in
    let modes = ap (λ n. nat_le n (most_of ObjectKind.Mode)) (length-map t.modes unnumbered) ∙ grind arith in
    let spinlocks = ap (λ n. nat_le n (most_of ObjectKind.Spinlock)) (length-map t.spinlocks (λ (spinlock : SpinlockText). unnumbered spinlock.name)) ∙ grind arith in
    and_from _ _ (and_from _ _ (and_from _ _ modes (and_from _ true spinlocks refl)) (ap (λ n. nat_le n 16) (sym (length-map t.cores (core_sizes objects))) ∙ grind arith))
    (all-weaker (λ core. is_core_numbered (core_sizes objects core)) is_core_few (core-few objects) t.cores (sym (list_all-map is_core_numbered (core_sizes objects) t.cores) ∙ grind arith))

-- If the numbers are within their limits, there are few objects. So a text with many objects is not within them.
past-limits : (within numbered short few : Bool) → within ≡ (numbered && short) → (numbered ≡ true → few ≡ true) → few ≡ false → within ≡ false
past-limits within numbered short few split imply many = grind arith

pub too_many : (t : ConfigText) → are_objects_few t ≡ false → first_fault (failing (tests_of t)) ≡ Some Limit
too_many t many =
    let few = λ (h : is_text_numbered t ≡ true). by-few t (and_parts (is_versioned (sizes_of t)) (is_within_by is_core_numbered (sizes_of t)) h).1 in
    rw (past-limits (is_text_within t) (is_text_numbered t) (are_scripts_short t) (are_objects_few t) (within_split t) few many) refl
