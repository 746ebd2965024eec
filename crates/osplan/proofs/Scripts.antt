-- What holds of all scripts of a core holds of those of its tasks and of those of its ISRs.
use Rattle.std.proofs.Common.{◌≡◌, ◌&&◌, ◌||◌, Bool, false, List, map, refl, sym, ◌∙◌}
use Rattle.std.specs.List.{list_all, list_any}
use Rattle.std.proofs.{lemmas.Bool.or_parts, lemmas.List.Folds.list_all-append, lemmas.List.Folds.list_all-map, lemmas.List.Folds.list_any-append}
use Rattle.oscript.specs.declared.Op.{Op}
use Rattle.osplan.specs.{declared.plans.Core.Core, declared.plans.Isr.Isr, declared.plans.Task.Task, Naming.has_operation, Objects.core_scripts}
use Rattle.osplan.proofs.Tests.{any-mapped}

pub all_scripts : (p : List Op → Bool) (core : Core) → list_all p (core_scripts core) ≡ (list_all (λ (task : Task). p task.script) core.tasks && list_all (λ (isr : Isr). p isr.script) core.isrs)
all_scripts p core =
    list_all-append p (map (λ (task : Task). task.script) core.tasks) (map (λ (isr : Isr). isr.script) core.isrs)
    ∙ rw (list_all-map p (λ (task : Task). task.script) core.tasks, list_all-map p (λ (isr : Isr). isr.script) core.isrs) refl

pub any_script : (p : List Op → Bool) (core : Core) → list_any p (core_scripts core) ≡ (list_any (λ (task : Task). p task.script) core.tasks || list_any (λ (isr : Isr). p isr.script) core.isrs)
any_script p core =
    list_any-append p (map (λ (task : Task). task.script) core.tasks) (map (λ (isr : Isr). isr.script) core.isrs)
    ∙ rw (any-mapped p (λ (task : Task). task.script) core.tasks, any-mapped p (λ (isr : Isr). isr.script) core.isrs) refl

-- No script has an operation that passes the test: none of a task, and none of an ISR.
pub no-operation : (test : Op → Bool) (core : Core) → has_operation test core ≡ false
    → (list_any (λ (task : Task). list_any test task.script) core.tasks ≡ false) × (list_any (λ (isr : Isr). list_any test isr.script) core.isrs ≡ false)
no-operation test core none = or_parts _ _ (sym (any_script (list_any test) core) ∙ none)
