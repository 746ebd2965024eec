-- The runs of all cores, whoever ran them: their reports are sound.
use mathlib.Core.List.{IsPrefix}
use Rattle.std.proofs.Common.{◌≡◌, ◌==◌, Bool, true, false, cond, Some, IsTrue, List, [], ◌∷◌, ◌++◌, map, refl, sym, ap, subst, ◌∙◌}
use Rattle.std.specs.{List.AllByRecursion, List.find, Option.option_map_or}
use Rattle.std.proofs.lemmas.Bool.{eq-eqb, false≢true, ne_eqb}
use Rattle.osbase.specs.{declared.references.CoreId.CoreId, declared.messages.Letter.Letter, declared.items.Item.Item, declared.turns.CoreStimuli.CoreStimuli, declared.turns.Report.Report, History.posted, History.received, History.same_core, Runs.stimuli_of}
use Rattle.osbase.proofs.Same.{same_core-true}
use Rattle.osmail.proofs.Through.{all-map}
use Rattle.osplan.specs.{declared.plans.Plan.Plan, Limits.is_within_limits, Stimuli.AreKnown, View.view_of}
use Rattle.osshared.specs.{Runs.HasLogs, Seats.has}
use Rattle.osboard.specs.Boards.{BoardEntry}
use Rattle.osspin.specs.Spins.{SpinEntry}
use Rattle.osrun.specs.{Requests.Calls, Requests.calls_of, Requests.no_calls, Sound.AreSound, Sound.IsOwn, Sound.lists_in}
use Rattle.osrun.specs.Fits.{AreAnswered, Fits, FitsCore, history_by, ids_of, items_of}
use Rattle.osrun.proofs.{Alone.fits-alone, Grouped.fits-apart}
use Rattle.osthreads.specs.Runs.{AreDelivered, AreOneSpins, AreRuns, IsDelivered, IsOneBoard, IsOneCore}
use Rattle.osthreads.proofs.Senders.{none-received}
use Rattle.osworker.proofs.Listed.{unlisted-unseen}

abbrev cores_in : List Report → List CoreId
cores_in reports = map (λ (r : Report). r.core) reports

-- If `P` holds of each report's items, and of the empty list for a core without a report, it holds of each core's
-- items.
items-have : (P : CoreId → List Item → Type 0) (reports : List Report) (id : CoreId) → AllByRecursion (λ (r : Report). P r.core r.items) reports → (has (cores_in reports) id ≡ false → P id []) → P id (items_of (lists_in reports) id)
items-have P [] id each none = none refl
items-have P (r ∷ rs) id each none = by (same_core r.core id) refl (items-have P rs id each.1)
  where
    by : (b : Bool) → same_core r.core id ≡ b → ((has (cores_in rs) id ≡ false → P id []) → P id (items_of (lists_in rs) id)) → P id (option_map_or (λ (p : CoreId × List Item). p.1) (cond b (Some (r.core, r.items)) (find (λ (p : CoreId × List Item). same_core p.0 id) (lists_in rs))) [])
    by true e later = subst (λ (c : CoreId). P c r.items) (same_core-true r.core id e) each.0
    by false e later =
        let other : (id.number == r.core.number) ≡ false = ne_eqb id.number r.core.number (λ q. false≢true (sym e ∙ eq-eqb r.core.number id.number (sym q))) in
        later (λ out. none (rw other out))

abbrev boards_in : List Calls → List (List BoardEntry)
boards_in logs = map (λ (log : Calls). log.board) logs

abbrev spins_in : List Calls → List (List SpinEntry)
spins_in logs = map (λ (log : Calls). log.spins) logs

pub both : (a b : Calls) → a.board ≡ b.board → a.spins ≡ b.spins → a ≡ b
both a b board spins = (λ i. record { board = board i; spins = spins i })

module _ (plan : Plan) (stimuli : List CoreStimuli) where
  -- Each report says what its own items say.
  pub each-alone : (reports : List Report) (logs : List Calls) → AreRuns plan stimuli reports logs → AllByRecursion (IsOneCore plan stimuli) reports
  each-alone [] [] runs = tt
  each-alone (r ∷ rs) (l ∷ ls) runs = (runs.0.alone, each-alone rs ls runs.1)
  each-alone reports logs runs = absurd runs

  each-answered : (history : Calls) (reports : List Report) (logs : List Calls) → AreRuns plan stimuli reports logs → HasLogs history.board (cores_in reports) (boards_in logs) → HasLogs history.spins (cores_in reports) (spins_in logs) → AllByRecursion (λ (r : Report). AreAnswered (view_of plan r.core) [] r.items (calls_of r.core history)) reports
  each-answered history [] [] runs board spins = tt
  each-answered history (r ∷ rs) (l ∷ ls) runs board spins = (
    subst (AreAnswered (view_of plan r.core) [] r.items) (sym (both (calls_of r.core history) l board.0 spins.0)) runs.0.answers,
    each-answered history rs ls runs.1 board.1 spins.1,
  )
  each-answered history reports logs runs board spins = absurd runs

  module _ (limits : IsTrue (is_within_limits plan)) (known : AreKnown plan stimuli) (reports : List Report) (logs : List Calls) (cores : cores_in reports ≡ ids_of plan) (runs : AreRuns plan stimuli reports logs) where
    cores-fit : (id : CoreId) → FitsCore plan stimuli id (items_of (lists_in reports) id)
    cores-fit id =
        items-have (FitsCore plan stimuli) reports id (all-map (IsOneCore plan stimuli) (λ (r : Report). FitsCore plan stimuli r.core r.items) reports (λ r alone. alone.fits) (each-alone reports logs runs))
        (λ out. record { alone = refl; begins = (stimuli_of stimuli id, refl); drains = λ drained. absurd (false≢true drained) })

    abbrev Flows : CoreId → List Item → CoreId → List Item → Type 0
    Flows from sent to got = IsPrefix (received from (history_by plan to got)) (posted to (history_by plan from sent))

    -- a core without a report posted nothing, so nothing was received from it
    from-nobody : (from to : CoreId) → has (cores_in reports) from ≡ false → Flows from [] to (items_of (lists_in reports) to)
    from-nobody from to out =
        ([], ap (λ (xs : List Letter). xs ++ []) (none-received (view_of plan to) (items_of (lists_in reports) to) (cores-fit to).alone from (unlisted-unseen plan limits from to (rw cores at out))))

    streams-fit : AreDelivered plan reports → (from to : CoreId) → Flows from (items_of (lists_in reports) from) to (items_of (lists_in reports) to)
    streams-fit delivered from to =
        items-have (λ (id : CoreId) (items : List Item). Flows id items to (items_of (lists_in reports) to)) reports from
        (all-map (λ (a : Report). AllByRecursion (IsDelivered plan a) reports) (λ (a : Report). Flows a.core a.items to (items_of (lists_in reports) to)) reports
        (λ a row. items-have (λ (id : CoreId) (items : List Item). Flows a.core a.items id items) reports to row (λ out. (posted to (history_by plan a.core a.items), refl))) delivered)
        (λ out. from-nobody from to out)

    fit : AreDelivered plan reports → IsOneBoard plan logs → AreOneSpins plan logs → Fits plan stimuli (lists_in reports)
    fit delivered board spins =
        let history : Calls = record { board = board.history; spins = spins.history } in (
          history,
          record {
            cores = cores-fit;
            streams = streams-fit delivered;
            board = board.legal;
            spins = spins.legal;
            answers = λ id.
                items-have (λ (c : CoreId) (items : List Item). AreAnswered (view_of plan c) [] items (calls_of c history)) reports id
                (each-answered history reports logs runs (rw cores board.logs_are) (rw cores spins.logs_are))
                (λ out. both (calls_of id history) no_calls (board.others id (rw cores at out)) (spins.others id (rw cores at out)));
          },
        )

    -- The reports of the configured cores' runs, with one history of the board, one of the spinlocks and what was
    -- received from each, are sound.
    pub runs-sound : AreDelivered plan reports → IsOneBoard plan logs → AreOneSpins plan logs → AreSound plan stimuli reports
    runs-sound delivered board spins = let fits = fit delivered board spins in record {
      cores = cores;
      own = all-map (IsOneCore plan stimuli) (IsOwn plan) reports (λ r alone. alone.own) (each-alone reports logs runs);
      fit = fits;
      separate = fits-alone plan stimuli (lists_in reports) fits limits known;
      groups = fits-apart plan stimuli (lists_in reports) fits limits;
    }
