-- Turn by turn: what was played before, and one turn more.
use Rattle.std.proofs.Common.{◌≡◌, ℕ, ◌+◌, ◌<◌, ◌≤◌, Bool, ◌||◌, List, [], ◌∷◌, ◌++◌, length, get_or, take, refl, sym, ap, subst, ◌∙◌, arith, length-append, append-nil, append_assoc, drop}
use Rattle.std.proofs.{lemmas.Bool.Decides.nat_tests, lemmas.List.Concat.flat_map-cons, Math.Seq.take-append-add}
use Rattle.std.specs.List.{flat_map}
use Rattle.std.proofs.lemmas.List.{take-append-drop, take-append-le, take_more}
use Rattle.osbase.specs.{declared.references.CoreId.CoreId, declared.turns.Choice.Choice, declared.turns.CoreStimuli.CoreStimuli}
use Rattle.osplan.specs.declared.plans.Plan.{Plan}
use Rattle.osworld.specs.{declared.answering.Shared.Shared, declared.worlds.World.World as Run}
use Rattle.osrun.specs.declared.core_runs.CoreRun.{CoreRun}
use Rattle.osworld.specs.World.{World, turn, world_from, item_total}
use Rattle.osworld.specs.Playing.{IsCutShort, IsPlayed, Plays, PlaysTurns, StopsShort}
use Rattle.osworld.proofs.{Listed.total-push, Turns.turns-keep}

abbrev Turns : Type 0
Turns = List (CoreId × Choice)

-- a turn takes no item back
pub world_from-grows : (plan : Plan) (stimuli : List CoreStimuli) (w : World) (ts : Turns) → item_total w ≤ item_total (world_from plan stimuli w ts)
world_from-grows plan stimuli w ts =
    turns-keep plan stimuli (λ (next : World). item_total w ≤ item_total next)
    (λ v core request item p turn le. let more = total-push core item v.items p turn.listed in omega (arith, more, le)) w ts (omega arith)

pub world_from-append : (plan : Plan) (stimuli : List CoreStimuli) (w : World) (ts us : Turns) → world_from plan stimuli w (ts ++ us) ≡ world_from plan stimuli (world_from plan stimuli w ts) us
world_from-append plan stimuli w [] us = refl
world_from-append plan stimuli w (t ∷ ts) us = world_from-append plan stimuli (turn plan stimuli w t) ts us

-- turns played after others: all of them changed something if the first or the second part did
pub played-append : (plan : Plan) (stimuli : List CoreStimuli) (w : World) (ts us : Turns) (first second : Bool) (core_runs core_runs' : List CoreRun) (shared shared' : Shared) → IsPlayed plan stimuli w ts first core_runs shared
    → ((v : World) → Plays plan stimuli v core_runs shared → IsPlayed plan stimuli v us second core_runs' shared') → IsPlayed plan stimuli w (ts ++ us) (second || first) core_runs' shared'
played-append plan stimuli w ts us first second core_runs core_runs' shared shared' before next =
    let here = world_from plan stimuli w ts in
    let then = next here before.plays in
    record {
      plays = rw (world_from-append plan stimuli w ts us) then.plays;
      tells = rw (world_from-append plan stimuli w ts us) (grind (arith, nat_tests, before.tells, then.tells, world_from-grows plan stimuli w ts, world_from-grows plan stimuli here us));
    }

-- turns that break off also do so after other turns, and before other turns
module _ (plan : Plan) (stimuli : List CoreStimuli) (w : World) (ts us : Turns) (core_runs : List CoreRun) (shared : Shared) where
  pub cut-behind : IsCutShort plan stimuli (world_from plan stimuli w ts) us core_runs shared → IsCutShort plan stimuli w (ts ++ us) core_runs shared
  cut-behind cut = record {
    before = length ts + cut.before;
    within = let lt = cut.within in omega (arith, lt, length-append ts us);
    with_turn = rw (add-assoc, along cut.before, along (cut.before + 1)) cut.with_turn;
    plays = rw (along cut.before) cut.plays;
  }
    where
      along : (n : ℕ) → world_from plan stimuli w (take (length ts + n) (ts ++ us)) ≡ world_from plan stimuli (world_from plan stimuli w ts) (take n us)
      along n = ap (world_from plan stimuli w) (take-append-add ts us n) ∙ world_from-append plan stimuli w ts (take n us)

      add-assoc : (length ts + cut.before) + 1 ≡ length ts + (cut.before + 1)
      add-assoc = omega arith

  pub cut-ahead : IsCutShort plan stimuli w ts core_runs shared → IsCutShort plan stimuli w (ts ++ us) core_runs shared
  cut-ahead cut =
      let lt = cut.within in
      let now = take-append-le cut.before ts us (omega (arith, lt)) in
      record {
        before = cut.before;
        within = omega (arith, lt, length-append ts us);
        with_turn = rw (now, take-append-le (cut.before + 1) ts us (omega (arith, lt))) cut.with_turn;
        plays = rw now cut.plays;
      }

-- ---- the same for a run

-- a run plays turns, and then others
module _ (old run new : Run) (same : run.config ≡ old.config) (turns more : Turns) (changed : Bool) (before : PlaysTurns turns old changed run) where
  pub plays-on : (changed' : Bool) → PlaysTurns more run changed' new → PlaysTurns (turns ++ more) old (changed' || changed) new
  plays-on changed' next stimuli w plays =
      played-append old.config.now stimuli w turns more changed changed' run.core_runs.items new.core_runs.items run.shared new.shared (before stimuli w plays) (rw same at (next stimuli))

  -- a run plays turns and breaks off within the next ones, whatever turns follow
  pub stops-on : (later : Turns) → StopsShort more run new → StopsShort (turns ++ (more ++ later)) old new
  stops-on later stops stimuli w plays =
      let here = world_from old.config.now stimuli w turns in
      cut-behind old.config.now stimuli w turns (more ++ later) new.core_runs.items new.shared
      (cut-ahead old.config.now stimuli here more later new.core_runs.items new.shared ((rw same at (stops stimuli)) here (before stimuli w plays).plays))

-- a run breaks off within the first turns, whatever turns follow
pub stops-first : (old new : Run) (turns later : Turns) → StopsShort turns old new → StopsShort (turns ++ later) old new
stops-first old new turns later stops stimuli w plays = cut-ahead old.config.now stimuli w turns later new.core_runs.items new.shared (stops stimuli w plays)

-- ---- turns for each element of a list, as a loop plays them

module _ {A : Type 0} (T : List A → Turns) (joins : (xs ys : List A) → T (xs ++ ys) ≡ T xs ++ T ys) (xs : List A) (i : ℕ) (d : A) (within : i < length xs) where
  one-more : T (take (i + 1) xs) ≡ T (take i xs) ++ T (get_or xs i d ∷ [])
  one-more = ap T (take_more xs i d within) ∙ joins (take i xs) (get_or xs i d ∷ [])

  split : T xs ≡ T (take i xs) ++ (T (get_or xs i d ∷ []) ++ T (drop (i + 1) xs))
  split =
      ap T (sym (take-append-drop (i + 1) xs)) ∙ joins (take (i + 1) xs) (drop (i + 1) xs)
      ∙ ap (λ (ts : Turns). ts ++ T (drop (i + 1) xs)) one-more ∙ append_assoc (T (take i xs)) (T (get_or xs i d ∷ [])) (T (drop (i + 1) xs))

  module _ (old run new : Run) (same : run.config ≡ old.config) (changed : Bool) (before : PlaysTurns (T (take i xs)) old changed run) where
    pub plays-next : (changed' : Bool) → PlaysTurns (T (get_or xs i d ∷ [])) run changed' new → PlaysTurns (T (take (i + 1) xs)) old (changed' || changed) new
    plays-next changed' next = subst (λ (ts : Turns). PlaysTurns ts old (changed' || changed) new) (sym one-more) (plays-on old run new same (T (take i xs)) (T (get_or xs i d ∷ [])) changed before changed' next)

    pub stops-next : StopsShort (T (get_or xs i d ∷ [])) run new → StopsShort (T xs) old new
    stops-next stops = subst (λ (ts : Turns). StopsShort ts old new) (sym split) (stops-on old run new same (T (take i xs)) (T (get_or xs i d ∷ [])) changed before (T (drop (i + 1) xs)) stops)

-- the turns of each element
pub flat_map-one : {A : Type 0} (F : A → Turns) (x : A) → flat_map F (x ∷ []) ≡ F x
flat_map-one F x = flat_map-cons F x [] ∙ append-nil (F x)
