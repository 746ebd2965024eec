-- The law of acts: they do to the state of a history what they do to the history. It is proved for every history.
use Rattle.std.specs.Prelude.{◌≡◌, ◌&&◌, nat_lt, Bool, true, if◌then◌else◌, IsTrue, ◌++◌}
use Rattle.osbase.specs.{declared.limits.TheConstants.CORES, History.History, History.Noted, History.marks_of}
use Rattle.osplan.specs.View.{View}
use Rattle.osclock.specs.Clocks.{are_settings_granted, is_setting_granted}
use Rattle.osstate.specs.{State.KernelState, State.state_of, Steps.state_after}
use Rattle.osacts.specs.Acts.{Act, Prints, Notes, Sends, Acts, nothing, one_then, both, when, if_started, look, look_around, does}
use Rattle.osacts.specs.Runs.{all_cores_in, entry_in, knows_started_in, runs, says, seen_in}

-- If the act sends a letter, the letter goes to a core that a configuration may have. If it sets an alarm, a service
-- grants this setting. Any other act is permitted.
abbrev pub is_permitted : Act → KernelState → Bool
is_permitted (Prints m) s = true
is_permitted (Notes n) s = is_setting_granted s.view.own (Noted n)
is_permitted (Sends core message) s = nat_lt core.number CORES

-- Each of these acts is permitted at the state in which it is done.
abbrev pub are_permitted : Acts → KernelState → Bool
are_permitted nothing s = true
are_permitted (one_then a x) s = is_permitted a s && are_permitted x (state_after (entry_in a s) s)
are_permitted (both x y) s = are_permitted x s && are_permitted y (runs x s)
are_permitted (when b x y) s = if b then are_permitted x s else are_permitted y s
are_permitted (if_started core x y) s = if knows_started_in s core then are_permitted x s else are_permitted y s
are_permitted (look f) s = are_permitted (f (seen_in s)) s
are_permitted (look_around f) s = are_permitted (f (all_cores_in s)) s

-- The acts lead from the state of the history to the state of the history after them. Their lines come after those of
-- the history, and each alarm was set as a service grants it.
pub record Agrees (x : Acts) (v : View) (h : History) : Type 0 where
  pub state : runs x (state_of v h) ≡ state_of v (does x v h)
  pub lines : marks_of (does x v h) ≡ marks_of h ++ says x (state_of v h)
  pub granted : IsTrue (are_settings_granted v.own (does x v h))
