-- The first job of a runner, and the list without it.
use Rattle.std.proofs.Common.{◌≡◌, ℕ, suc, ◌<◌, true, Option, Some, None, IfSome, IfNone, List, ◌∷◌, ◌++◌, ap, sym, subst, ◌∙◌, arith, length, take, drop, get_or, drop-cons}
use Rattle.std.specs.List.{remove, slice_get}
use Rattle.std.proofs.{lemmas.Option.slice_get-get_or, lemmas.List.get_or_default}
use Rattle.osbase.specs.{declared.references.Runner.Runner, declared.histories.Job.Job}
use Rattle.osbase.specs.History.{job_count, oldest, same_runner, without_oldest}
use Rattle.osjobs.proofs.Counting.{count-parts, no-job, none-oldest, oldest-behind, rest-behind}

-- the first job of the runner taken out by its place
pub remove_first : (r : Runner) (js : List Job) (i : ℕ) (x : Job) → i < length js → x ≡ get_or js i x → same_runner x.runner r ≡ true → without_oldest r js ≡ take i js ++ without_oldest r (drop i js) → remove js i ≡ without_oldest r js
remove_first r js i x h e same first =
    let rest : drop i js ≡ x ∷ drop (suc i) js = drop-cons js i x h ∙ ap (λ (y : Job). y ∷ drop (suc i) js) (sym e) in
    sym (first ∙ ap (λ (ds : List Job). take i js ++ without_oldest r ds) rest ∙ rw same)

-- the runner's first job is the one at this place, if it is the first one from there on
pub first-there : (r : Runner) (js : List Job) (i : ℕ) (x : Job) → i < length js → x ≡ get_or js i x → same_runner x.runner r ≡ true → oldest r js ≡ oldest r (drop i js) → slice_get js i ≡ oldest r js
first-there r js i x h e same first =
    let rest : drop i js ≡ x ∷ drop (suc i) js = drop-cons js i x h ∙ ap (λ (y : Job). y ∷ drop (suc i) js) (sym e) in
    slice_get-get_or js i x h ∙ ap (λ (y : Job). Some y) (sym e) ∙ sym (first ∙ ap (oldest r) rest ∙ rw same)

-- so the job that is taken out is the oldest
pub oldest-at : (r : Runner) (js seen : List Job) (i : ℕ) (x : Job) → seen ≡ js → slice_get seen i ≡ oldest r seen → i < length seen → x ≡ get_or js i x → oldest r js ≡ Some x
oldest-at r js seen i x same is inside at =
    sym (subst (λ (l : List Job). slice_get l i ≡ oldest r l) same is) ∙ (slice_get-get_or js i x (subst (λ (l : List Job). i < length l) same inside) ∙ sym (ap (λ (y : Job). Some y) at))

-- ---- the place that was found from the newest end on

module _ (r : Runner) (js : List Job) (place : ℕ) (all : job_count r js ≡ job_count r (drop place js)) where
  none-before : (at : ℕ) → job_count r (drop place js) ≡ job_count r (drop at js) → job_count r (take at js) ≡ 0
  none-before at first = omega (arith, all, first, count-parts r js at)

  there : (at : ℕ) → at < length js → get_or js at no-job ≡ get_or js at (get_or js at no-job)
  there at inside = get_or_default js at no-job (get_or js at no-job) inside

  pub found-removed : (o : Option ℕ) → IfSome o (λ at. at < length js) → IfSome o (λ at. job_count r (drop place js) ≡ job_count r (drop at js)) → IfSome o (λ at. same_runner (get_or js at no-job).runner r ≡ true)
      → IfSome o (λ at. remove js at ≡ without_oldest r js)
  found-removed None inside first same = tt
  found-removed (Some at) inside first same = remove_first r js at (get_or js at no-job) inside (there at inside) same (rest-behind r js at (none-before at first))

  pub found-oldest : (o : Option ℕ) → IfSome o (λ at. at < length js) → IfSome o (λ at. job_count r (drop place js) ≡ job_count r (drop at js)) → IfSome o (λ at. same_runner (get_or js at no-job).runner r ≡ true)
      → IfSome o (λ at. slice_get js at ≡ oldest r js)
  found-oldest None inside first same = tt
  found-oldest (Some at) inside first same = first-there r js at (get_or js at no-job) inside (there at inside) same (oldest-behind r js at (none-before at first))

  pub none-removed : (o : Option ℕ) → IfNone o (job_count r (drop place js) ≡ 0) → IfNone o (without_oldest r js ≡ js)
  none-removed None none = (none-oldest r js (all ∙ none)).1
  none-removed (Some at) none = tt

  pub none-there : (o : Option ℕ) → IfNone o (job_count r (drop place js) ≡ 0) → IfNone o (oldest r js ≡ None)
  none-there None none = (none-oldest r js (all ∙ none)).0
  none-there (Some at) none = tt
