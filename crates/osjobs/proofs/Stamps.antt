-- The stamps of the live jobs ascend, since each new stamp is greater than all of theirs.
use Rattle.std.proofs.Common.{ℕ, ◌<◌, Bool, true, false, cond, Option, Some, None, List, [], ◌∷◌, ◌++◌}
use Rattle.std.specs.Option.{option_map_or}
use Rattle.osbase.specs.{declared.references.Runner.Runner, declared.histories.Job.Job}
use Rattle.osbase.specs.History.{oldest, same_runner, stamped_anew, without_oldest}
use Rattle.osjobs.specs.Jobs.{Ascending, Each}

-- ---- every job of a list

pub each-weaker : (P Q : Job → Type 0) (js : List Job) → ((j : Job) → P j → Q j) → Each P js → Each Q js
each-weaker P Q [] f all = tt
each-weaker P Q (j ∷ js) f all = (f j all.0, each-weaker P Q js f all.1)

pub each-push : (P : Job → Type 0) (js : List Job) (j : Job) → Each P js → P j → Each P (js ++ j ∷ [])
each-push P [] j all mine = (mine, tt)
each-push P (x ∷ js) j all mine = (all.0, each-push P js j all.1 mine)

pub each-less : (P : Job → Type 0) (r : Runner) (js : List Job) → Each P js → Each P (without_oldest r js)
each-less P r [] all = tt
each-less P r (x ∷ js) all = by (same_runner x.runner r) (each-less P r js all.1)
  where
    by : (b : Bool) → Each P (without_oldest r js) → Each P (cond b js (x ∷ without_oldest r js))
    by true rest = all.1
    by false rest = (all.0, rest)

pub each-anew : (P : Job → Type 0) (r : Runner) (stamp : ℕ) (js : List Job) → Each P js → ((j : Job) → P (record j { stamp = stamp })) → Each P (stamped_anew r stamp js)
each-anew P r stamp js all mine = by (oldest r js)
  where
    by : (o : Option Job) → Each P (option_map_or (λ (j : Job). without_oldest r js ++ record j { stamp = stamp } ∷ []) o js)
    by None = all
    by (Some j) = each-push P (without_oldest r js) (record j { stamp = stamp }) (each-less P r js all) (mine j)

-- ---- stamps

pub ascending-push : (js : List Job) (j : Job) → Ascending js → Each (λ (k : Job). k.stamp < j.stamp) js → Ascending (js ++ j ∷ [])
ascending-push [] j up older = (tt, tt)
ascending-push (x ∷ js) j up older = (each-push (λ (k : Job). x.stamp < k.stamp) js j up.0 older.0, ascending-push js j up.1 older.1)

pub ascending-less : (r : Runner) (js : List Job) → Ascending js → Ascending (without_oldest r js)
ascending-less r [] up = tt
ascending-less r (x ∷ js) up = by (same_runner x.runner r) (ascending-less r js up.1)
  where
    by : (b : Bool) → Ascending (without_oldest r js) → Ascending (cond b js (x ∷ without_oldest r js))
    by true rest = up.1
    by false rest = (each-less (λ (k : Job). x.stamp < k.stamp) r js up.0, rest)

pub ascending-anew : (r : Runner) (stamp : ℕ) (js : List Job) → Ascending js → Each (λ (k : Job). k.stamp < stamp) js → Ascending (stamped_anew r stamp js)
ascending-anew r stamp js up older = by (oldest r js)
  where
    by : (o : Option Job) → Ascending (option_map_or (λ (j : Job). without_oldest r js ++ record j { stamp = stamp } ∷ []) o js)
    by None = up
    by (Some j) = ascending-push (without_oldest r js) (record j { stamp = stamp }) (ascending-less r js up) (each-less (λ (k : Job). k.stamp < stamp) r js older)
