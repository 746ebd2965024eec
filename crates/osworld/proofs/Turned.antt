-- One turn of a run, as its contract describes it.
use Rattle.std.proofs.Common.{◌≡◌, ℕ, suc, ◌<◌, Bool, true, false, not, Option, Some, None, is_none, option_map, slice_get, List, [], ◌∷◌, length, get_or, set, refl, sym, ap, subst, ◌∙◌, arith, nat_eq, Result, Ok, Err}
use Rattle.std.specs.{Result.OnErr, List.position, List.position_or_len}
use Rattle.std.proofs.{lemmas.Bool.not-true, lemmas.Bool.Decides.nat_tests, lemmas.List.Elements.All-set, Math.Seq.map-set_same}
use Rattle.osbase.specs.{declared.references.CoreId.CoreId, declared.messages.Envelope.Envelope, declared.items.Item.Item, declared.items.Stimulus.Stimulus, declared.turns.Choice.Choice, declared.turns.CoreStimuli.CoreStimuli, History.same_core, declared.statuses.Status.TheVariants.EOsId}
use Rattle.osplan.specs.{declared.plans.Plan.Plan, View.view_of}
use Rattle.osstate.specs.{Does.Reads, State.KernelState}
use Rattle.osbase.proofs.Same.{same_core-true}
use Rattle.oskernel.specs.{Step.outbox_size, Step.takes, declared.wants.Watch.Watch, Wants.front_of, Wants.want_in, Wants.watch_in}
use Rattle.osrun.specs.{declared.core_runs.CoreRun.CoreRun, declared.requests.Request.Request, Fits.history_by, CoreRuns.IsCoreRun, Requests.item_by, Requests.look_request, Requests.next_item, Requests.request_by, Requests.spin_call_of, CoreRuns.Keeps, CoreRuns.Took}
use Rattle.osrun.specs.declared.requests.Request.TheVariants.{OfBoard, OfSpins, Room, Oldest, StartUnknown, TakeStimulus}
use Rattle.osspin.specs.Spins.{spin_reply}
use Rattle.osworld.specs.declared.answering.Shared.{Shared}
use Rattle.osworld.specs.World.{World, turn, is_unchanged, item_total}
use Rattle.osworld.specs.Answering.{reply_by, is_idle_look, is_undisturbed, mail_after, IsPlaced, next_by, after_turn, after_call}
use Rattle.osworld.specs.Playing.{IsCutShort, IsPlayed, Plays}
use Rattle.osrun.proofs.Resulting.{is-item, spinlock-item}
use Rattle.osworld.proofs.Listed.{is_seat_of, seat_is_of, seat_nowhere, core_run_place}
use Rattle.osworld.proofs.Turning.{turn-nobody, turn-nothing, turn-refused, turn-taken, turn-with_turn}
use Rattle.osrun.proofs.CoreRunning.{seated-kept, took-kept}

-- The look of a core that nothing disturbs results in nothing.
nobody-asked : {A : Type 0} (o : Option A) → is_none o ≡ true → o ≡ None
nobody-asked None e = refl
nobody-asked (Some x) e = cc

pub idle-look : (plan : Plan) (shared : Shared) (id : CoreId) (stimuli : List Stimulus) (s : KernelState) (choice : Choice) → is_idle_look choice (watch_in s) shared.board ≡ true → next_by plan shared id stimuli s choice ≡ None
idle-look plan shared id stimuli s Choice.Look idle = by (watch_in s) idle
  where
    by : (watch : Watch) → is_undisturbed watch shared.board ≡ true → next_item id watch (reply_by shared id) (Some (look_request watch)) ≡ None
    by Watch.Nothing none = refl
    by Watch.Halt none = rw (nobody-asked shared.board.halt none) refl
    by watch none = cc
idle-look plan shared id stimuli s choice idle = cc

one_more-differs : (n : ℕ) → true ≡ not (nat_eq n (suc n))
one_more-differs n = grind (arith, nat_tests)

module _ (plan : Plan) (stimuli : List CoreStimuli) (w : World) (core_runs : List CoreRun) (shared : Shared) (plays : Plays plan stimuli w core_runs shared) (core : CoreId) (choice : Choice) where
  -- the turn changes nothing
  idle : (now : List CoreRun) → Plays plan stimuli w now shared → turn plan stimuli w (core, choice) ≡ w → IsPlayed plan stimuli w ((core, choice) ∷ []) false now shared
  idle now still same = record { plays = rw same still; tells = rw same (grind (arith, nat_tests)) }

  -- the core has no seat
  pub turn-nowhere : position (is_seat_of core) core_runs ≡ None → turn plan stimuli w (core, choice) ≡ w
  turn-nowhere nowhere = turn-nobody plan stimuli w core_runs core choice plays.lists (seat_nowhere core core_runs nowhere)

  pub nobody-played : position (is_seat_of core) core_runs ≡ None → IsPlayed plan stimuli w ((core, choice) ∷ []) false core_runs shared
  nobody-played nowhere = idle core_runs plays (turn-nowhere nowhere)

  module _ (at : ℕ) (core_run : CoreRun) (place : position (is_seat_of core) core_runs ≡ Some at) (is : core_run ≡ get_or core_runs at core_run) where
    within : at < length core_runs
    within = (core_run_place core core_runs at place).1

    pub at_core : core_run.id ≡ core
    at_core = same_core-true core_run.id core (subst (λ (s : CoreRun). same_core s.id core ≡ true) (sym is) (seat_is_of core core_runs at core_run (core_run_place core core_runs at place).0 within))

    here : at ≡ position_or_len (is_seat_of core_run.id) core_runs
    here = rw at_core (core_run_place core core_runs at place).0

    seated : IsCoreRun plan stimuli core_run
    seated = subst (λ (s : CoreRun). IsCoreRun plan stimuli s) (sym is) (plays.seated at core_run within)

    abbrev named_here : Option (Request × Item)
    named_here = next_by core_run.plan.now shared core_run.id core_run.stimuli.now core_run.kernel choice

    -- the plan of the core is that of the world
    by_plan : (o : Option (Request × Item)) → named_here ≡ o → next_by plan shared core_run.id core_run.stimuli.now core_run.kernel choice ≡ o
    by_plan o is = ap (λ (p : Plan). next_by p shared core_run.id core_run.stimuli.now core_run.kernel choice) (sym seated.planned) ∙ is

    -- the seat as it was, with more room
    pub kept : (new : CoreRun) → Keeps core_run new → Plays plan stimuli w (set core_runs at new) shared
    kept new keeps = record {
      seated = All-set (IsCoreRun plan stimuli) core_runs at new (seated-kept plan stimuli core_run new keeps seated) plays.seated;
      lists = plays.lists ∙ sym (map-set_same (λ (s : CoreRun). (s.id, s.items.items)) core_runs at new core_run (rw (keeps.id, keeps.items) (ap (λ (s : CoreRun). (s.id, s.items.items)) is)));
      carries = plays.carries;
      shown = plays.shown;
      held = plays.held;
    }

    -- the turn results in no item, so the world stays the same
    pub turn-unanswered : named_here ≡ None → turn plan stimuli w (core, choice) ≡ w
    turn-unanswered nothing = subst (λ (c : CoreId). turn plan stimuli w (c, choice) ≡ w) at_core (turn-nothing plan stimuli w core_runs shared plays choice at core_run here within (sym is) (by_plan None nothing))

    pub unanswered-played : named_here ≡ None → IsPlayed plan stimuli w ((core, choice) ∷ []) false core_runs shared
    unanswered-played nothing = idle core_runs plays (turn-unanswered nothing)

    -- the turn results in no item
    pub nothing-played : named_here ≡ None → (new : CoreRun) → Keeps core_run new → IsPlayed plan stimuli w ((core, choice) ∷ []) false (set core_runs at new) shared
    nothing-played nothing new keeps = idle (set core_runs at new) (kept new keeps) (turn-unanswered nothing)

    module _ (request : Request) (item : Item) (names : named_here ≡ Some (request, item)) (may : Bool) (reads : Reads (λ v h. takes outbox_size v h item) core_run.kernel may) where
      admitted : may ≡ takes outbox_size (view_of plan core_run.id) (history_by plan core_run.id core_run.items.items) item
      admitted = reads (view_of plan core_run.id) (history_by plan core_run.id core_run.items.items) seated.tracks.stands

      -- the core does not take the item that results from the turn
      pub refused-played : may ≡ false → (new : CoreRun) → Keeps core_run new → IsPlayed plan stimuli w ((core, choice) ∷ []) false (set core_runs at new) shared
      refused-played refused new keeps =
          idle (set core_runs at new) (kept new keeps) (subst (λ (c : CoreId). turn plan stimuli w (c, choice) ≡ w) at_core (turn-refused plan stimuli w core_runs shared plays choice at core_run here within (sym is) request item (by_plan (Some (request, item)) names) (sym admitted ∙ refused)))

      changes : takes outbox_size (view_of plan core_run.id) (history_by plan core_run.id core_run.items.items) item ≡ true → true ≡ not (is_unchanged w (turn plan stimuli w (core, choice)))
      changes takes_it = subst (λ (c : CoreId). true ≡ not (is_unchanged w (turn plan stimuli w (c, choice)))) at_core
          (one_more-differs (item_total w) ∙ ap (λ (n : ℕ). not (nat_eq (item_total w) n)) (sym (turn-with_turn plan stimuli w core_runs shared plays choice at core_run here within (sym is) request item (by_plan (Some (request, item)) names) takes_it)))

      -- there is no room for the item
      pub stopped-short : may ≡ true → (new : CoreRun) → Keeps core_run new → IsCutShort plan stimuli w ((core, choice) ∷ []) (set core_runs at new) shared
      stopped-short taken new keeps = record {
        before = 0;
        within = omega arith;
        with_turn = not-true (is_unchanged w (turn plan stimuli w (core, choice))) (sym (changes (sym admitted ∙ taken)));
        plays = kept new keeps;
      }

      -- the core takes the item, once there is room
      pub taken-played : may ≡ true → (roomy new : CoreRun) → Keeps core_run roomy → Took roomy new item → IsPlaced shared.mail core_run.id item → (front : Option (CoreId × Envelope)) (telling next : Shared) → front ≡ front_of roomy.kernel.border.outbox → telling ≡ after_call roomy.id request shared → next ≡ record telling { mail = mail_after roomy.id front item telling.mail }
          → IsPlayed plan stimuli w ((core, choice) ∷ []) true (set core_runs at new) next
      taken-played taken roomy new keeps took placed front telling next fronts told_on carried_on =
          let takes_it = sym admitted ∙ taken in
          record {
            plays = rw (carried_on, told_on, fronts, keeps.id, keeps.kernel)
                (subst (λ (c : CoreId). Plays plan stimuli (turn plan stimuli w (c, choice)) (set core_runs at new) (after_turn core_run.id request (front_of core_run.kernel.border.outbox) item shared)) at_core
                (turn-taken plan stimuli w core_runs shared plays choice at core_run here within (sym is) request item (by_plan (Some (request, item)) names) new (took-kept core_run roomy new item keeps took) placed takes_it));
            tells = changes takes_it;
          }

-- if a reply results in an item, the mailbox of that item exists
placed-by : (shared : Shared) (id : CoreId) (item : Item) (watch : Watch) (request : Request) → item_by id watch request (reply_by shared id request) ≡ Some item → IsPlaced shared.mail id item
placed-by shared id item watch (OfBoard call) leads = grind (arith, leads)
placed-by shared id item watch (OfSpins wish) leads = spinlock-item (IsPlaced shared.mail id) (λ l. tt) (λ l taken. tt) (λ l. tt) wish (spin_reply id (spin_call_of wish) shared.spins) item leads
placed-by shared id item watch (Room to) leads = grind (arith, nat_tests, leads)
placed-by shared id item watch (Oldest from) leads = grind (arith, nat_tests, leads)
placed-by shared id item watch (StartUnknown k) leads = is-item (IsPlaced shared.mail id) (Item.Began k EOsId) item tt leads
placed-by shared id item watch (TakeStimulus s) leads = is-item (IsPlaced shared.mail id) (Item.Stim s) item tt leads

-- the same holds for the item that results from a turn
pub next-placed : (shared : Shared) (core_run : CoreRun) (choice : Choice) (request : Request) (item : Item) → next_by core_run.plan.now shared core_run.id core_run.stimuli.now core_run.kernel choice ≡ Some (request, item) → IsPlaced shared.mail core_run.id item
next-placed shared core_run choice request item names =
    by (request_by (view_of core_run.plan.now core_run.id) (want_in core_run.kernel) (watch_in core_run.kernel) (slice_get core_run.stimuli.now 0) choice) names
  where
    named : (asked : Request) → (o : Option Item) → item_by core_run.id (watch_in core_run.kernel) asked (reply_by shared core_run.id asked) ≡ o → option_map {U = Request × Item} (λ i. (asked, i)) o ≡ Some (request, item) → IsPlaced shared.mail core_run.id item
    named asked (Some i) is names = placed-by shared core_run.id item (watch_in core_run.kernel) asked (is ∙ grind (arith, names))
    named asked None is names = grind (arith, names)

    by : (o : Option Request) → next_item core_run.id (watch_in core_run.kernel) (reply_by shared core_run.id) o ≡ Some (request, item) → IsPlaced shared.mail core_run.id item
    by (Some asked) names = named asked (item_by core_run.id (watch_in core_run.kernel) asked (reply_by shared core_run.id asked)) refl names
    by None names = grind (arith, names)

-- what is true anyway is true if something failed
pub on_err : {A E P : Type 0} → (r : Result A E) → P → OnErr r P
on_err (Ok x) p = tt
on_err (Err e) p = p
