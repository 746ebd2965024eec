-- How many letters the actions of a core's alarms and expiry points add to the outbox.
use Rattle.std.proofs.Common.{◌≡◌, ◌<◌, ◌≤◌, ◌+◌, ◌*◌, ℕ, suc, nat_le, Bool, true, false, not, cond, List, length, count_by, refl, arith}
use Rattle.std.specs.List.{list_all}
use Rattle.std.proofs.{lemmas.Bool.and_parts, lemmas.Bool.leb-true, lemmas.List.Filters.length-filter_both, lemmas.List.Filters.sum_by-filter_both}
use Rattle.osbase.specs.declared.messages.RemoteCall.{RemoteCall}
use Rattle.oscript.specs.Calls.{is_action}
use Rattle.osplan.specs.{declared.plans.Core.Core, declared.plans.ExpiryPoint.ExpiryPoint, Objects.is_posting, Objects.may_act}
use Rattle.oscall.specs.Border.{is_known_call}
use Rattle.osaction.specs.Points.{is_known_point, is_of_kind, of_kind}

-- How many letters one action adds to the outbox.
abbrev pub posted_by_action : Core → RemoteCall → ℕ
posted_by_action core action = cond (is_posting core action) 1 0

pub known-call : (core : Core) (call : RemoteCall) → may_act core call ≡ true → is_known_call core call ≡ true
known-call core call may = (and_parts (is_action call) (is_known_call core call) may).1

-- There is a place for the letter of an action on another core.
pub place-left : (here : Bool) (n most : ℕ) → n + cond (not here) 1 0 ≤ most → here ≡ false → n < most
place-left true n most places other = cc
place-left false n most places other = omega (arith, places)

-- The action adds at most one letter, and none if it acts here.
pub joined : (here : Bool) (n m : ℕ) → (here ≡ true → m ≡ n) → m ≤ suc n → m ≤ n + cond (not here) 1 0
joined true n m same more = omega (arith, same refl)
joined false n m same more = omega (arith, more)

-- Each action of a point is of one of the two kinds.
pub kinds-long : (actions : List RemoteCall) → length (of_kind true actions) + length (of_kind false actions) ≡ length actions
kinds-long = length-filter_both (is_of_kind true) (is_of_kind false) (λ x. refl)

pub kinds-posted : (core : Core) (actions : List RemoteCall) → count_by (is_posting core) (of_kind true actions) + count_by (is_posting core) (of_kind false actions) ≡ count_by (is_posting core) actions
kinds-posted core = sum_by-filter_both (is_of_kind true) (is_of_kind false) (λ x. refl) (posted_by_action core)

-- A point adds at most 17 entries: its own line, and two for each of at most 8 actions.
pub within-point : (activating setting all : ℕ) → activating + setting ≡ all → all ≤ 8 → 1 + 2 * activating + 2 * setting ≤ 17
within-point activating setting all long few = omega (arith, long, few)

pub point-parts : (core : Core) (point : ExpiryPoint) → is_known_point core point ≡ true → (list_all (may_act core) point.actions ≡ true) × (length point.actions ≤ 8)
point-parts core point known =
    let parts = and_parts (list_all (may_act core) point.actions) (nat_le (length point.actions) 8) known in
    (parts.0, leb-true (length point.actions) 8 parts.1)
