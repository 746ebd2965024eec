-- Who runs if no ISR has a live job: the current job.
use Rattle.std.proofs.Common.{◌≡◌, ℕ, Option, None, List, [], ◌∷◌, refl, ap, ◌∙◌}
use Rattle.std.specs.Option.{option_or}
use Rattle.osbase.specs.{declared.references.IsrRef.IsrRef, declared.histories.Job.Job, History.first_greatest, Interrupts.oldest_entered}
use Rattle.osjobs.specs.Jobs.{JobState, current_among, running_among}

-- if no job is chosen, there is none
pub none-chosen : (priority : Job → ℕ) (jobs : List Job) → first_greatest priority jobs ≡ None → jobs ≡ []
none-chosen priority [] e = refl
none-chosen priority (j ∷ jobs) e = cc

pub no-entered : (isrs : List IsrRef) → oldest_entered isrs [] ≡ None
no-entered [] = refl
no-entered (i ∷ isrs) = refl

pub current-runs : (s : JobState) (running : Option Job) → running ≡ running_among s → (priority : Job → ℕ) → first_greatest priority s.isrs.live ≡ None → running ≡ current_among s
current-runs s running is priority none =
    is ∙ ap (λ (jobs : List Job). option_or (oldest_entered s.isrs.entered jobs) (current_among s)) (none-chosen priority s.isrs.live none)
    ∙ ap (λ (o : Option Job). option_or o (current_among s)) (no-entered s.isrs.entered)
