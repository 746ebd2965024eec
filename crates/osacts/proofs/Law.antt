-- What acts do to the state of a history they do to the history: the law by which a function that speaks of its state
-- alone speaks of every history.
use Rattle.std.proofs.Common.{◌≡◌, Bool, true, false, cond, List, ◌++◌, refl, ap, sym, subst, ◌∙◌, append_assoc}
use Rattle.std.proofs.{lemmas.Bool.and_from, lemmas.Bool.and_parts, lemmas.Bool.ltb-true, lemmas.List.append-nil}
use Rattle.osbase.specs.{declared.references.CoreId.CoreId, declared.marks.Mark.Mark, declared.limits.TheConstants.CORES}
use Rattle.osbase.specs.History.{History, Noted, Printed, Queued, letter_with, marks_of, queued_count}
use Rattle.osplan.specs.{Clocked.are_clocks_within, View.View}
use Rattle.osclock.specs.Clocks.{are_settings_granted}
use Rattle.osstate.specs.{Readings.knows_started, State.KernelState, State.Stands, State.state_of, Steps.state_after}
use Rattle.osstate.proofs.Histories.{count_at, state-stands}
use Rattle.osacts.specs.Acts.{Act, Prints, Notes, Sends, Acts, nothing, one_then, both, when, if_started, look, look_around, act, does}
use Rattle.osacts.specs.{Seen.all_cores, Seen.seen_of, Laws.Agrees, Laws.are_permitted, Laws.is_permitted}
use Rattle.osacts.specs.Runs.{entry_in, line_of, runs, says, seen_in}
use Rattle.osacts.proofs.Seeing.{seen-same}

-- ---- one act

act-step : (v : View) (a : Act) (h : History) → are_clocks_within v.own ≡ true → is_permitted a (state_of v h) ≡ true → state_after (entry_in a (state_of v h)) (state_of v h) ≡ state_of v (act a h)
act-step v (Prints m) h within permitted = state-stands v (Printed m) h within
act-step v (Notes n) h within permitted = state-stands v (Noted n) h within
act-step v (Sends core message) h within permitted =
    ap (λ n. state_after (Noted (Queued core (letter_with n message))) (state_of v h)) (count_at (λ (d : CoreId). queued_count d h) core (ltb-true core.number CORES permitted))
    ∙ state-stands v (Noted (Queued core (letter_with (queued_count core h) message))) h within

act-granted : (v : View) (a : Act) (h : History) → is_permitted a (state_of v h) ≡ true → are_settings_granted v.own h ≡ true → are_settings_granted v.own (act a h) ≡ true
act-granted v (Prints m) h permitted set = set
act-granted v (Notes n) h permitted set = and_from _ _ permitted set
act-granted v (Sends core message) h permitted set = set

act-line : (a : Act) (h : History) → marks_of (act a h) ≡ marks_of h ++ line_of a
act-line (Prints m) h = refl
act-line (Notes n) h = sym (append-nil (marks_of h))
act-line (Sends core message) h = sym (append-nil (marks_of h))

-- ---- the law

-- Of two, the first if a test holds.
chosen : (b : Bool) (x y : Acts) (v : View) (h : History) → cond b (are_permitted x (state_of v h)) (are_permitted y (state_of v h)) ≡ true
    → (are_permitted x (state_of v h) ≡ true → Agrees x v h) → (are_permitted y (state_of v h) ≡ true → Agrees y v h) → Agrees (when b x y) v h
chosen true x y v h permitted first second = let w = first permitted in record { state = w.state; lines = w.lines; granted = w.granted }
chosen false x y v h permitted first second = let w = second permitted in record { state = w.state; lines = w.lines; granted = w.granted }

module _ (v : View) (within : are_clocks_within v.own ≡ true) where
  pub agrees : (x : Acts) (h : History) → are_settings_granted v.own h ≡ true → are_permitted x (state_of v h) ≡ true → Agrees x v h
  agrees nothing h set permitted = record { state = refl; lines = sym (append-nil (marks_of h)); granted = set }
  agrees (one_then a x) h set permitted =
      let parts = and_parts (is_permitted a (state_of v h)) (are_permitted x (state_after (entry_in a (state_of v h)) (state_of v h))) permitted in
      let step = act-step v a h within parts.0 in
      let rest = agrees x (act a h) (act-granted v a h parts.0 set) (subst (λ (s : KernelState). are_permitted x s ≡ true) step parts.1) in
      record {
        state = ap (runs x) step ∙ rest.state;
        lines =
            rest.lines
            ∙ ap (λ (ms : List Mark). ms ++ says x (state_of v (act a h))) (act-line a h)
            ∙ append_assoc (marks_of h) (line_of a) (says x (state_of v (act a h)))
            ∙ ap (λ (s : KernelState). marks_of h ++ (line_of a ++ says x s)) (sym step);
        granted = rest.granted;
      }
  agrees (both x y) h set permitted =
      let parts = and_parts (are_permitted x (state_of v h)) (are_permitted y (runs x (state_of v h))) permitted in
      let first = agrees x h set parts.0 in
      let rest = agrees y (does x v h) first.granted (subst (λ (s : KernelState). are_permitted y s ≡ true) first.state parts.1) in
      record {
        state = ap (runs y) first.state ∙ rest.state;
        lines =
            rest.lines
            ∙ ap (λ (ms : List Mark). ms ++ says y (state_of v (does x v h))) first.lines
            ∙ append_assoc (marks_of h) (says x (state_of v h)) (says y (state_of v (does x v h)))
            ∙ ap (λ (s : KernelState). marks_of h ++ (says x (state_of v h) ++ says y s)) (sym first.state);
        granted = rest.granted;
      }
  agrees (when b x y) h set permitted = chosen b x y v h permitted (agrees x h set) (agrees y h set)
  agrees (if_started core x y) h set permitted =
      let w = chosen (knows_started h core) x y v h permitted (agrees x h set) (agrees y h set) in
      record { state = w.state; lines = w.lines; granted = w.granted }
  agrees (look f) h set permitted =
      let same : f (seen_in (state_of v h)) ≡ f (seen_of v h) = ap f (seen-same v h within set) in
      let w = agrees (f (seen_in (state_of v h))) h set permitted in
      record {
        state = w.state ∙ ap (λ (y : Acts). state_of v (does y v h)) same;
        lines = sym (ap (λ (y : Acts). marks_of (does y v h)) same) ∙ w.lines;
        granted = sym (ap (λ (y : Acts). are_settings_granted v.own (does y v h)) same) ∙ w.granted;
      }
  agrees (look_around f) h set permitted =
      let w = agrees (f (all_cores v h)) h set permitted in
      record { state = w.state; lines = w.lines; granted = w.granted }

module _ (x : Acts) {v : View} {h : History} {s : KernelState} (within : are_clocks_within s.view.own ≡ true) (permitted : are_permitted x s ≡ true) (stands : Stands v h s) where
  agrees-here : Agrees x v h
  agrees-here = agrees v (subst (λ (q : KernelState). are_clocks_within q.view.own ≡ true) stands.is within) x h stands.granted (subst (λ (q : KernelState). are_permitted x q ≡ true) stands.is permitted)

  -- The same of a state that stands for a history: after the acts it stands for the history after them.
  pub stands-after : Stands v (does x v h) (runs x s)
  stands-after = record { is = ap (runs x) stands.is ∙ agrees-here.state; granted = agrees-here.granted }

  -- The acts add to the history's lines those that they print at the state.
  pub lines-after : marks_of (does x v h) ≡ marks_of h ++ says x s
  lines-after = agrees-here.lines ∙ ap (λ (q : KernelState). marks_of h ++ says x q) (sym stands.is)
