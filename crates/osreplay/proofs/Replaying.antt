-- The run of a core that took the first of some items.
use Rattle.std.proofs.Common.{◌≡◌, ◌<◌, ◌+◌, ℕ, Bool, true, false, Some, List, [], length, take, sym, ap, ◌∙◌}
use Rattle.std.specs.List.{slice_get}
use Rattle.std.proofs.{lemmas.List.take_more, lemmas.Option.get_or_from_slice_get, lemmas.Option.slice_get_within}
use Rattle.osbase.specs.{declared.items.Item.Item, declared.references.CoreId.CoreId, declared.turns.Report.Report}
use Rattle.osplan.specs.{declared.plans.Plan.Plan, View.view_of}
use Rattle.osstate.specs.Does.{Reads}
use Rattle.oskernel.specs.Step.{outbox_size, takes}
use Rattle.osrun.specs.{declared.core_runs.CoreRun.CoreRun, Fits.history_by, CoreRuns.IsCoreRun, CoreRuns.report_of, Sound.report_by, CoreRuns.Keeps, CoreRuns.Took}
use Rattle.osrun.proofs.CoreRunning.{seated-kept, seated-on, seated-own, took-kept}
use Rattle.osreplay.specs.Replays.{IsCutShort, IsRefused, IsReplayed}

pub record HasTaken (plan : Plan) (id : CoreId) (items : List Item) (core_run : CoreRun) : Type 0 where
  pub seated : IsCoreRun plan [] core_run
  pub id_is : core_run.id ≡ id
  pub items_are : core_run.items.items ≡ items

-- The report of such a core run is the report of those items.
pub reports : (plan : Plan) (id : CoreId) (items : List Item) (core_run : CoreRun) (report : Report) → HasTaken plan id items core_run → report ≡ report_of core_run → IsReplayed plan id items report
reports plan id items core_run report taken is = record {
  alone = rw (taken.id_is, taken.items_are) at taken.seated.alone;
  report_is = is ∙ seated-own plan [] core_run taken.seated ∙ (λ i. report_by plan (taken.id_is i) (taken.items_are i));
}

-- There is no room for the next item.
pub cut-short : (plan : Plan) (id : CoreId) (items : List Item) (n : ℕ) → n < length items → (core_run roomy : CoreRun) → HasTaken plan id (take n items) core_run → Keeps core_run roomy → (report : Report) → report ≡ report_of roomy → IsCutShort plan id items report
cut-short plan id items n within core_run roomy taken keeps report is = record {
  before = n;
  within = within;
  replayed = reports plan id (take n items) roomy report (record {
    seated = seated-kept plan [] core_run roomy keeps taken.seated;
    id_is = keeps.id ∙ taken.id_is;
    items_are = keeps.items ∙ taken.items_are;
  }) is;
}

-- The core run before the next item.
module _ (plan : Plan) (id : CoreId) (items : List Item) (n : ℕ) (core_run : CoreRun) (taken : HasTaken plan id (take n items) core_run) (item : Item) (next : slice_get items n ≡ Some item)
    (may : Bool) (reads : Reads (λ v h. takes outbox_size v h item) core_run.kernel may) where
  is-read : takes outbox_size (view_of plan core_run.id) (history_by plan core_run.id core_run.items.items) item ≡ may
  is-read = sym (reads (view_of plan core_run.id) (history_by plan core_run.id core_run.items.items) taken.seated.tracks.stands)

  -- the core run may not take the next item
  pub refuses : may ≡ false → (number : ℕ) → number ≡ n → (report : Report) → report ≡ report_of core_run → IsRefused plan id items (number + 1) report
  refuses may_not number counted report is = record {
    before = n;
    item = item;
    number_is = ap (λ (k : ℕ). k + 1) counted;
    item_is = next;
    replayed = reports plan id (take n items) core_run report taken is;
    refused = rw (← taken.id_is, ← taken.items_are) (is-read ∙ may_not);
  }

  -- the core run takes the next item
  pub takes-on : may ≡ true → (roomy new : CoreRun) → Keeps core_run roomy → Took roomy new item → HasTaken plan id (take (n + 1) items) new
  takes-on may_take roomy new keeps took =
      let on : Took core_run new item = took-kept core_run roomy new item keeps took in
      record {
        seated = seated-on plan [] core_run new item taken.seated (is-read ∙ may_take) on;
        id_is = on.id ∙ taken.id_is;
        items_are = rw (on.items, taken.items_are, take_more items n item (slice_get_within items n item next), get_or_from_slice_get items n item item next);
      }
