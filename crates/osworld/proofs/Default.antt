-- The rounds of the default schedule, one by one.
use Rattle.std.proofs.Common.{◌≡◌, ℕ, suc, ◌+◌, ◌^◌, ◌≤◌, Bool, IsTrue, true, false, not, ◌||◌, cond, List, [], ◌∷◌, map, refl, ap, sym, subst, ◌∙◌, arith, nat_eq, inl, inr, ◌⊎◌, Vec, Global}
use Rattle.std.specs.List.{All, list_all}
use Rattle.std.proofs.{lemmas.Bool.cases_eq, lemmas.Bool.Decides.nat_tests, lemmas.List.Elements.All-head, lemmas.List.Elements.All-tail}
use Rattle.osbase.specs.{declared.references.CoreId.CoreId, declared.items.Item.Item, declared.turns.CoreStimuli.CoreStimuli, Sets.has_core, declared.turns.Report.Report}
use Rattle.osworld.specs.{declared.answering.Shared.Shared, declared.runs.RunFault.TheVariants.NoMemory}
use Rattle.osplan.specs.{declared.plans.Plan.Plan, Limits.is_within_limits, Stimuli.AreKnown}
use Rattle.osstate.specs.State.{KernelState}
use Rattle.osboard.specs.declared.calls.BoardState.{BoardState}
use Rattle.osrun.specs.{declared.core_runs.CoreRun.CoreRun, CoreRuns.is_ended_phase, CoreRuns.IsCoreRun, CoreRuns.report_of}
use Rattle.osworld.specs.World.{World, board_in, first_world, world, world_from, is_unchanged, item_total}
use Rattle.osworld.specs.Runs.{default_turns, has_ended, is_default, is_default_from, is_over, round_of, IsDefaultBrokenOff, IsDefaultRun}
use Rattle.osworld.specs.Playing.{IsCutShort, IsDefaultCutShort, IsDefaultPlayed, IsPlayed, lists_of, Plays}
use Rattle.osworld.proofs.{Played.cut-behind, Played.world_from-append, Played.world_from-grows, Reported.reported-cut, Reported.reports-played, Short.world-bounded}

-- Whether all started cores have ended, by their seats.
abbrev pub seats_over : BoardState → List CoreRun → Bool
seats_over board core_runs = list_all (λ (s : CoreRun). not (has_core board.view.started s.id) || is_ended_phase s.kernel.progress.phase) core_runs

over-each : (plan : Plan) (stimuli : List CoreStimuli) (board : BoardState) (core_runs : List CoreRun) → All (IsCoreRun plan stimuli) core_runs → seats_over board core_runs ≡ list_all (λ (p : CoreId × List Item). not (has_core board.view.started p.0) || has_ended plan p) (lists_of core_runs)
over-each plan stimuli board [] seated = refl
over-each plan stimuli board (s ∷ ss) seated =
    let here : IsCoreRun plan stimuli s = All-head (IsCoreRun plan stimuli) s ss seated in
    rw (over-each plan stimuli board ss (All-tail (IsCoreRun plan stimuli) s ss seated), ap (λ (k : KernelState). is_ended_phase k.progress.phase) here.tracks.stands.is) refl

pub over-agrees : (plan : Plan) (stimuli : List CoreStimuli) (w : World) (core_runs : List CoreRun) (shared : Shared) → Plays plan stimuli w core_runs shared → seats_over shared.board core_runs ≡ is_over plan w
over-agrees plan stimuli w core_runs shared plays = rw (plays.shown, plays.lists) (over-each plan stimuli (board_in plan w) core_runs plays.seated)

past_them : (m a b : ℕ) (over : Bool) → (over || nat_eq a b) ≡ false → m ≤ a → a ≤ b → suc m ≤ b
past_them m a b over differ le grows = grind (arith, nat_tests, differ)

-- Some whole rounds are played, and the default schedule continues.
pub record IsUnderway (plan : Plan) (stimuli : List CoreStimuli) (next : ℕ) (core_runs : List CoreRun) (shared : Shared) : Type 0 where
  pub played : ℕ
  pub is_next : suc played ≡ next
  pub plays : Plays plan stimuli (world plan stimuli (default_turns plan played)) core_runs shared
  pub goes_on : (more : ℕ) → is_default plan stimuli (played + suc more) ≡ is_default_from plan stimuli (world plan stimuli (default_turns plan played)) (suc more)
  pub grown : played ≤ item_total (world plan stimuli (default_turns plan played))
  pub none : (fewer : ℕ) → fewer ≤ played → is_default plan stimuli fewer ≡ false

pub underway-first : (plan : Plan) (stimuli : List CoreStimuli) (core_runs : List CoreRun) (shared : Shared) → Plays plan stimuli (first_world plan) core_runs shared → IsUnderway plan stimuli 1 core_runs shared
underway-first plan stimuli core_runs shared plays = record {
  played = 0;
  is_next = refl;
  plays = plays;
  goes_on = λ more. let same : 0 + suc more ≡ suc more = omega arith in ap (is_default plan stimuli) same;
  grown = omega arith;
  none = λ fewer le. let same : fewer ≡ 0 = omega arith in ap (is_default plan stimuli) same;
}

module _ (plan : Plan) (stimuli : List CoreStimuli) (next : ℕ) (core_runs : List CoreRun) (shared : Shared) (underway : IsUnderway plan stimuli next core_runs shared) where
  abbrev here : World
  here = world plan stimuli (default_turns plan underway.played)

  abbrev after_round : World
  after_round = world_from plan stimuli here (round_of plan)

  joined : world plan stimuli (default_turns plan (suc underway.played)) ≡ after_round
  joined = world_from-append plan stimuli (first_world plan) (default_turns plan underway.played) (round_of plan)

  module _ (changed over : Bool) (core_runs' : List CoreRun) (shared' : Shared) (round : IsPlayed plan stimuli here (round_of plan) changed core_runs' shared') (is_over' : over ≡ seats_over shared'.board core_runs') where
    ends : (over || not changed) ≡ (is_over plan after_round || is_unchanged here after_round)
    ends = let all = over-agrees plan stimuli after_round core_runs' shared' round.plays in grind (arith, is_over', all, round.tells)

    -- whether the default schedule ends with this round
    decides : is_default plan stimuli (suc underway.played) ≡ (over || not changed)
    decides =
        let one : suc underway.played ≡ underway.played + suc 0 = omega arith in
        ap (is_default plan stimuli) one ∙ underway.goes_on 0 ∙ ap (λ (b : Bool). cond b true false) (sym ends) ∙ itself (over || not changed)
      where
        itself : (b : Bool) → cond b true false ≡ b
        itself b = grind arith

    pub default-played : (over || not changed) ≡ true → IsDefaultPlayed plan stimuli next core_runs' shared'
    default-played yes_ended = subst (λ (n : ℕ). IsDefaultPlayed plan stimuli n core_runs' shared') underway.is_next (record { least = decides ∙ yes_ended; plays = rw joined round.plays })

    pub underway-on : (over || not changed) ≡ false → IsUnderway plan stimuli (next + 1) core_runs' shared'
    underway-on not_ended = record {
      played = suc underway.played;
      is_next = let was = underway.is_next in omega arith;
      plays = rw joined round.plays;
      goes_on = λ more.
          let one : suc underway.played + suc more ≡ underway.played + suc (suc more) = omega arith in
          ap (is_default plan stimuli) one ∙ underway.goes_on (suc more)
          ∙ ap (λ (b : Bool). cond b (nat_eq (suc more) 0) (is_default_from plan stimuli after_round (suc more))) (sym ends ∙ not_ended)
          ∙ ap (λ (w : World). is_default_from plan stimuli w (suc more)) (sym joined);
      none = λ fewer le. none_later fewer le (cases_eq fewer (suc underway.played));
      grown = rw joined (past_them underway.played (item_total here) (item_total after_round) (is_over plan after_round) (sym ends ∙ not_ended) underway.grown (world_from-grows plan stimuli here (round_of plan)));
    }
      where
        none_later : (fewer : ℕ) → fewer ≤ suc underway.played → (fewer ≡ suc underway.played) ⊎ (fewer ≡ suc underway.played → ⊥) → is_default plan stimuli fewer ≡ false
        none_later fewer le (inl now) = ap (is_default plan stimuli) now ∙ decides ∙ not_ended
        none_later fewer le (inr other) = underway.none fewer (omega (arith, le, other))

  pub default-cut : (core_runs' : List CoreRun) (shared' : Shared) → IsCutShort plan stimuli here (round_of plan) core_runs' shared' → IsDefaultCutShort plan stimuli core_runs' shared'
  default-cut core_runs' shared' cut = record {
    rounds = suc underway.played;
    goes_on = λ fewer lt. underway.none fewer (omega arith);
    cut = cut-behind plan stimuli (first_world plan) (default_turns plan underway.played) (round_of plan) core_runs' shared' cut;
  }

  -- the rounds end, since each of them appends an item
  pub too_many : 2 ^ 63 ≤ next → ⊥
  too_many many = let few = world-bounded plan stimuli (default_turns plan underway.played) in let grown = underway.grown in let is = underway.is_next in omega arith

-- ---- what a run of the default schedule reports

module _ (plan : Plan) (limits : IsTrue (is_within_limits plan)) (stimuli : List CoreStimuli) (known : AreKnown plan stimuli) (core_runs : List CoreRun) (shared : Shared) where
  pub default-reported : (rounds : ℕ) → IsDefaultPlayed plan stimuli rounds core_runs shared → IsDefaultRun plan stimuli (map report_of core_runs)
  default-reported rounds played = record { rounds = rounds; least = played.least; are = reports-played plan limits stimuli known (default_turns plan rounds) core_runs shared played.plays }

  pub default-broken_off : (reports : Vec Report Global) → reports.items ≡ map report_of core_runs → IsDefaultCutShort plan stimuli core_runs shared → IsDefaultBrokenOff plan stimuli (NoMemory reports)
  default-broken_off reports are short =
      (short.rounds, short.goes_on, rw are (reported-cut plan limits stimuli known (default_turns plan short.rounds) core_runs shared short.cut))
