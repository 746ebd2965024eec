-- What the ready queue of some jobs is after one was added or taken out.
use Rattle.std.proofs.Common.{◌≡◌, suc, ◌≤◌, ◌<◌, Bool, true, false, cond, Some, List, [], ◌∷◌, ◌++◌, length, refl, ap, sym, subst, ◌∙◌, arith}
use Rattle.std.specs.List.{All}
use Rattle.std.proofs.lemmas.List.Elements.{All-nil}
use Rattle.osbase.specs.{declared.references.Runner.Runner, declared.histories.Job.Job, History.oldest, History.same_runner, History.without_oldest}
use Rattle.osqueue.specs.{declared.ready.Ready.Ready, Ordered.is_same, Ordered.placed}
use Rattle.osqueue.proofs.Ordering.{crossed, is-apart, length-placed, placed-all}
use Rattle.osjobs.specs.{Jobs.Ascending, Jobs.Each, OwnTasks.OwnTasks, Queue.entry_of, Queue.queued}

apart : (tasks : OwnTasks) (j k : Job) → k.stamp < j.stamp → is_same (entry_of tasks j) (entry_of tasks k) ≡ false
apart tasks j k older = is-apart (entry_of tasks j) (entry_of tasks k) (λ p s. omega (arith, s, older))

apart' : (tasks : OwnTasks) (j k : Job) → j.stamp < k.stamp → is_same (entry_of tasks j) (entry_of tasks k) ≡ false
apart' tasks j k newer = is-apart (entry_of tasks j) (entry_of tasks k) (λ p s. omega (arith, s, newer))

module _ (tasks : OwnTasks) (able : Job → Bool) where
  -- no more jobs are ready than live
  pub length-queued : (js : List Job) → length (queued tasks able js) ≤ length js
  length-queued [] = omega arith
  length-queued (j ∷ js) = by (able j) (length-queued js)
    where
      by : (b : Bool) → length (queued tasks able js) ≤ length js → length (cond b (placed (entry_of tasks j) (queued tasks able js)) (queued tasks able js)) ≤ suc (length js)
      by true rest = omega (arith, rest, length-placed (entry_of tasks j) (queued tasks able js))
      by false rest = omega (arith, rest)

  pub queued-all : (P : Ready → Type 0) (js : List Job) → Each (λ (k : Job). P (entry_of tasks k)) js → All P (queued tasks able js)
  queued-all P [] all = All-nil P
  queued-all P (k ∷ js) all = by (able k) (queued-all P js all.1)
    where
      by : (b : Bool) → All P (queued tasks able js) → All P (cond b (placed (entry_of tasks k) (queued tasks able js)) (queued tasks able js))
      by true rest = placed-all P (entry_of tasks k) (queued tasks able js) all.0 rest
      by false rest = rest

  -- a newer job at the end
  pub queued-more : (js : List Job) (j : Job) → Each (λ (k : Job). k.stamp < j.stamp) js → queued tasks able (js ++ j ∷ []) ≡ cond (able j) (placed (entry_of tasks j) (queued tasks able js)) (queued tasks able js)
  queued-more [] j older = refl
  queued-more (k ∷ js) j older = by (able k) (able j) (queued-more js j older.1)
    where
      by : (a b : Bool) → queued tasks able (js ++ j ∷ []) ≡ cond b (placed (entry_of tasks j) (queued tasks able js)) (queued tasks able js)
          → cond a (placed (entry_of tasks k) (queued tasks able (js ++ j ∷ []))) (queued tasks able (js ++ j ∷ [])) ≡ cond b (placed (entry_of tasks j) (cond a (placed (entry_of tasks k) (queued tasks able js)) (queued tasks able js))) (cond a (placed (entry_of tasks k) (queued tasks able js)) (queued tasks able js))
      by true true rest = ap (placed (entry_of tasks k)) rest ∙ sym (crossed (entry_of tasks j) (entry_of tasks k) (queued tasks able js) (apart tasks j k older.0))
      by true false rest = ap (placed (entry_of tasks k)) rest
      by false true rest = rest
      by false false rest = rest

  -- the oldest job of a runner taken out
  pub queued-less : (r : Runner) (js : List Job) (j : Job) → Ascending js → oldest r js ≡ Some j → queued tasks able js ≡ cond (able j) (placed (entry_of tasks j) (queued tasks able (without_oldest r js))) (queued tasks able (without_oldest r js))
  queued-less r [] j up e = cc
  queued-less r (x ∷ js) j up e = by (same_runner x.runner r) e (λ later. queued-less r js j up.1 later) (λ later. one r js j up.0 later)
    where
      one : (r : Runner) (ks : List Job) (j : Job) → Each (λ (k : Job). x.stamp < k.stamp) ks → oldest r ks ≡ Some j → x.stamp < j.stamp
      one r [] j all e = cc
      one r (k ∷ ks) j all e = found (same_runner k.runner r) e (λ later. one r ks j all.1 later)
        where
          found : (b : Bool) → cond b (Some k) (oldest r ks) ≡ Some j → (oldest r ks ≡ Some j → x.stamp < j.stamp) → x.stamp < j.stamp
          found true f rest = let same : k ≡ j = cc in subst (λ (m : Job). x.stamp < m.stamp) same all.0
          found false f rest = rest f

      both : (a b : Bool) → queued tasks able js ≡ cond b (placed (entry_of tasks j) (queued tasks able (without_oldest r js))) (queued tasks able (without_oldest r js)) → x.stamp < j.stamp
          → cond a (placed (entry_of tasks x) (queued tasks able js)) (queued tasks able js) ≡ cond b (placed (entry_of tasks j) (cond a (placed (entry_of tasks x) (queued tasks able (without_oldest r js))) (queued tasks able (without_oldest r js)))) (cond a (placed (entry_of tasks x) (queued tasks able (without_oldest r js))) (queued tasks able (without_oldest r js)))
      both true true rest newer = ap (placed (entry_of tasks x)) rest ∙ crossed (entry_of tasks x) (entry_of tasks j) (queued tasks able (without_oldest r js)) (apart' tasks x j newer)
      both true false rest newer = ap (placed (entry_of tasks x)) rest
      both false true rest newer = rest
      both false false rest newer = rest

      by : (t : Bool) → cond t (Some x) (oldest r js) ≡ Some j → (oldest r js ≡ Some j → queued tasks able js ≡ cond (able j) (placed (entry_of tasks j) (queued tasks able (without_oldest r js))) (queued tasks able (without_oldest r js))) → (oldest r js ≡ Some j → x.stamp < j.stamp)
          → queued tasks able (x ∷ js) ≡ cond (able j) (placed (entry_of tasks j) (queued tasks able (cond t js (x ∷ without_oldest r js)))) (queued tasks able (cond t js (x ∷ without_oldest r js)))
      by true f rest newer = let same : x ≡ j = cc in ap (λ (m : Job). cond (able m) (placed (entry_of tasks m) (queued tasks able js)) (queued tasks able js)) same
      by false f rest newer = both (able x) (able j) (rest f) (newer f)
