-- What is autostarted: a task has a place for its first job, and the times of alarms and tables are within their
-- counters' values.
use Rattle.std.proofs.Common.{◌≡◌, ℕ, suc, ◌+◌, ◌≤◌, ◌<◌, Bool, true, false, cond, Some, [], ◌∷◌, ◌++◌, length, ap, sym, subst, ◌∙◌, arith, nat_le}
use Rattle.std.specs.List.{slice_get, list_all}
use Rattle.std.proofs.{lemmas.Bool.leb-true, lemmas.Bool.Decides.nat_tests, lemmas.Option.slice_get_cases}
use Rattle.osbase.specs.{declared.references.TableRef.TableRef, declared.references.Runner.Runner, History.job_count, History.same_runner}
use Rattle.osbase.proofs.{Same.same_core-refl, Places.passes-at}
use Rattle.osplan.specs.{declared.plans.Core.Core, declared.plans.Table.Table, declared.plans.TableStart.TableStart, declared.plans.Task.Task, Clocked.are_clocks_within, View.own_table}
use Rattle.osplan.proofs.Timing.{own-counter-there, own-table-attached, own-table-within, table-start-bounds}
use Rattle.osstate.specs.{Readings.task_ref, Sound.activation_limit, State.KernelState}
use Rattle.osstate.proofs.JobLists.{job_count-append}
use Rattle.oskernel.specs.Taking.{have_places}

-- If there is no job yet, each task may have one.
pub first-places : (s : KernelState) → list_all (λ (t : Task). nat_le 1 t.activations) s.view.own.tasks ≡ true → s.tasks.jobs ≡ [] → have_places 0 s
first-places s some none k from within =
    let own = s.view.own in
    let t : (x : Task) × (slice_get own.tasks k ≡ Some x) = grind (arith, slice_get_cases own.tasks k, within) in
    let limit : activation_limit own (Runner.Task (task_ref own k)) ≡ t.0.activations = rw (same_core-refl own.id, t.1) in
    omega (arith, limit, ap (job_count (Runner.Task (task_ref own k))) none, leb-true 1 t.0.activations (passes-at (λ (t : Task). nat_le 1 t.activations) own.tasks k t.0 some t.1))

-- A job of an earlier task takes no place of a later one.
pub later-places : (old new : KernelState) (index stamp : ℕ) → new.view ≡ old.view → new.tasks.jobs ≡ old.tasks.jobs ++ record { runner = Runner.Task (task_ref old.view.own index); stamp = stamp } ∷ [] → have_places index old → have_places (index + 1) new
later-places old new index stamp view jobs places k from within =
    let own = old.view.own in
    let inside : k < length own.tasks = omega (arith, within, ap (λ v. length v.own.tasks) view) in
    let other : same_runner (Runner.Task (task_ref own index)) (Runner.Task (task_ref own k)) ≡ false = grind (arith, nat_tests, from) in
    let here : job_count (Runner.Task (task_ref own k)) new.tasks.jobs ≡ job_count (Runner.Task (task_ref own k)) old.tasks.jobs =
    ap (job_count (Runner.Task (task_ref own k))) jobs
    ∙ job_count-append (Runner.Task (task_ref own k)) old.tasks.jobs _
    ∙ ap (λ (b : Bool). cond b (suc (job_count (Runner.Task (task_ref own k)) old.tasks.jobs)) (job_count (Runner.Task (task_ref own k)) old.tasks.jobs)) other in
    subst (λ v. job_count (Runner.Task (task_ref v.own k)) new.tasks.jobs < activation_limit v.own (Runner.Task (task_ref v.own k))) (sym view)
    (omega (arith, here, places k (omega (arith, from)) inside))

-- The offset of an autostarted table is at most 1000000001.
pub offset-within : (core : Core) (s : TableRef) (x : Table) (auto : TableStart) → are_clocks_within core ≡ true → own_table core s ≡ Some x → x.auto ≡ Some auto → auto.offset ≤ 1000000001
offset-within core s x auto within own is =
    let counter = own-counter-there core x.counter within (own-table-attached core s x within own) in
    let bounds = table-start-bounds core x counter.counter counter.found auto (own-table-within core s x within own) is in
    omega (arith, bounds.1, counter.most)
