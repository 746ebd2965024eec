-- Acts are within one item: what the core sees, its phase and the number of its items stay.
use Rattle.std.proofs.Common.{◌≡◌, Bool, true, false, cond, refl, ◌∙◌}
use Rattle.osstate.specs.{State.KernelState, Steps.state_after}
use Rattle.osacts.specs.Acts.{Act, Prints, Notes, Sends, Acts, nothing, one_then, both, when, if_started, look, look_around}
use Rattle.osacts.specs.Runs.{all_cores_in, entry_in, knows_started_in, runs, seen_in}

pub record IsWithinItem (old new : KernelState) : Type 0 where
  pub view : new.view ≡ old.view
  pub phase : new.progress.phase ≡ old.progress.phase
  pub items : new.progress.items ≡ old.progress.items

within-then : {s s' s'' : KernelState} → IsWithinItem s s' → IsWithinItem s' s'' → IsWithinItem s s''
within-then e d = record { view = d.view ∙ e.view; phase = d.phase ∙ e.phase; items = d.items ∙ e.items }

act-within : (a : Act) (s : KernelState) → IsWithinItem s (state_after (entry_in a s) s)
act-within (Prints m) s = record { view = refl; phase = refl; items = refl }
act-within (Notes n) s = record { view = refl; phase = refl; items = refl }
act-within (Sends core message) s = record { view = refl; phase = refl; items = refl }

either : (b : Bool) (s s' s'' : KernelState) → IsWithinItem s s' → IsWithinItem s s'' → IsWithinItem s (cond b s' s'')
either true s s' s'' p q = p
either false s s' s'' p q = q

pub runs-within : (x : Acts) (s : KernelState) → IsWithinItem s (runs x s)
runs-within nothing s = record { view = refl; phase = refl; items = refl }
runs-within (one_then a x) s = within-then (act-within a s) (runs-within x (state_after (entry_in a s) s))
runs-within (both x y) s = within-then (runs-within x s) (runs-within y (runs x s))
runs-within (when b x y) s = either b s (runs x s) (runs y s) (runs-within x s) (runs-within y s)
runs-within (if_started core x y) s = either (knows_started_in s core) s (runs x s) (runs y s) (runs-within x s) (runs-within y s)
runs-within (look f) s = runs-within (f (seen_in s)) s
runs-within (look_around f) s = runs-within (f (all_cores_in s)) s
