-- If no envelope waits for a core, nothing changes when it serves the others.
use Rattle.std.proofs.Common.{◌≡◌, ◌<◌, ℕ, Bool, true, false, not, ◌&&◌, cond, nat_lt, Option, Some, None, slice_get, List, [], ◌≤◌, ◌∷◌, ◌++◌, filter, length, get_or, map, refl, sym, ap, subst, ◌∙◌, arith, ◌⊎◌, inl, inr}
use Rattle.std.specs.List.{position}
use Rattle.std.proofs.{lemmas.Bool.ltb-true, lemmas.Bool.Decides.nat_tests, lemmas.List.map-append, lemmas.List.Elements.filter-append, lemmas.Option.slice_get_cases}
use Rattle.osbase.specs.{declared.references.CoreId.CoreId, declared.messages.Letter.Letter, declared.turns.Choice.Choice, declared.turns.Choice.TheVariants.Serve, declared.turns.CoreStimuli.CoreStimuli, declared.limits.TheConstants.CORES, History.same_core}
use Rattle.osmail.specs.Mail.{has_mail, oldest_of}
use Rattle.osmail.proofs.Counts.{no_mail}
use Rattle.osplan.specs.declared.plans.Plan.{Plan}
use Rattle.oskernel.specs.Wants.{watch_in}
use Rattle.osworld.specs.{declared.answering.Shared.Shared, Answering.next_by, Playing.IsPlayed, Playing.Plays, Runs.serves_of}
use Rattle.osrun.specs.{declared.requests.Request.TheVariants.Oldest, declared.requests.Reply.TheVariants.Found, declared.core_runs.CoreRun.CoreRun, Requests.request_and_item}
use Rattle.osworld.specs.World.{World, turn, world_from}
use Rattle.osworld.proofs.{Listed.is_seat_of, Listed.core_run_place, Turned.at_core, Turned.turn-nowhere, Turned.turn-unanswered}

abbrev serves : CoreId → List CoreId → List (CoreId × Choice)
serves core froms = map (λ (from : CoreId). (core, Serve from)) froms

module _ (plan : Plan) (stimuli : List CoreStimuli) (w : World) (core_runs : List CoreRun) (shared : Shared) (plays : Plays plan stimuli w core_runs shared) (core : CoreId) (nothing : (nat_lt core.number CORES && has_mail shared.mail core) ≡ false) where
  module _ (from : CoreId) where
    none-oldest : core.number < CORES → (b : Bool) → nat_lt from.number CORES ≡ b → cond b (oldest_of shared.mail from core) None ≡ None
    none-oldest known true below = ap (λ (letters : List Letter). slice_get letters 0) (no_mail shared.mail from core (ltb-true from.number CORES below) (grind (arith, nat_tests, nothing, known)))
    none-oldest known false below = refl

    none-named : (core_run : CoreRun) → core_run.id ≡ core → next_by plan shared core_run.id core_run.stimuli.now core_run.kernel (Serve from) ≡ None
    none-named core_run is =
        let known : core.number < CORES = subst (λ (id : CoreId). id.number < CORES) is core_run.known in
        subst (λ (id : CoreId). request_and_item id (watch_in core_run.kernel) (Oldest from) (Found (cond (nat_lt from.number CORES) (oldest_of shared.mail from id) None)) ≡ None) (sym is)
        (ap (λ (o : Option Letter). request_and_item core (watch_in core_run.kernel) (Oldest from) (Found o)) (none-oldest known (nat_lt from.number CORES) refl))

    unserved-turn : turn plan stimuli w (core, Serve from) ≡ w
    unserved-turn = by (position (is_seat_of core) core_runs) refl
      where
        seated : (at : ℕ) → position (is_seat_of core) core_runs ≡ Some at → ((core_run : CoreRun) × (at < length core_runs) × (slice_get core_runs at ≡ Some core_run) × (get_or core_runs at core_run ≡ core_run)) ⊎ ((length core_runs ≤ at) × (slice_get core_runs at ≡ None)) → turn plan stimuli w (core, Serve from) ≡ w
        seated at place (inl there) = turn-unanswered plan stimuli w core_runs shared plays core (Serve from) at there.0 place (sym there.3) (none-named there.0 (at_core plan stimuli w core_runs shared plays core (Serve from) at there.0 place (sym there.3)))
        seated at place (inr past) = let within = (core_run_place core core_runs at place).1 in absurd (omega (arith, within, past.0))

        by : (o : Option ℕ) → position (is_seat_of core) core_runs ≡ o → turn plan stimuli w (core, Serve from) ≡ w
        by None nowhere = turn-nowhere plan stimuli w core_runs shared plays core (Serve from) nowhere
        by (Some at) place = seated at place (slice_get_cases core_runs at).1

  unserved : (froms : List CoreId) → world_from plan stimuli w (serves core froms) ≡ w
  unserved [] = refl
  unserved (from ∷ froms) = ap (λ (next : World). world_from plan stimuli next (serves core froms)) (unserved-turn from) ∙ unserved froms

  pub unserved-played : (froms : List CoreId) → IsPlayed plan stimuli w (map (λ (from : CoreId). (core, Serve from)) froms) false core_runs shared
  unserved-played froms = record {
    plays = rw (unserved froms) plays;
    tells = rw (unserved froms) (grind (arith, nat_tests));
  }

-- the turns by which a core serves the cores of two lists, one after the other
pub serves-append : (ids more : List CoreId) (id : CoreId) → serves_of (ids ++ more) id ≡ serves_of ids id ++ serves_of more id
serves-append ids more id = ap (serves id) (filter-append (λ (from : CoreId). not (same_core from id)) ids more) ∙ map-append (λ (from : CoreId). (id, Serve from)) (filter (λ (from : CoreId). not (same_core from id)) ids) (filter (λ (from : CoreId). not (same_core from id)) more)

-- the turn by which a core serves one other core
pub serves-other : (other id : CoreId) → same_core other id ≡ false → serves_of (other ∷ []) id ≡ (id, Serve other) ∷ []
serves-other other id is = ap (λ (b : Bool). map (λ (from : CoreId). (id, Serve from)) (cond (not b) (other ∷ []) [])) is
