-- What follows from an item is permitted.
use Rattle.std.proofs.Common.{◌≡◌, nat_lt, Bool, true, sym, subst, arith}
use Rattle.osbase.specs.{declared.references.CoreId.CoreId, declared.items.Item.Item, declared.limits.TheConstants.CORES, History.History}
use Rattle.osplan.specs.{Clocked.are_clocks_within, View.View}
use Rattle.osprogress.specs.Border.{is_sender_known}
use Rattle.osstate.specs.State.{KernelState, Stands}
use Rattle.osacts.specs.Laws.{are_permitted}
use Rattle.osservice.proofs.{Kept.Leave, Kept.anybody, Permitted.permitted}
use Rattle.oskernel.specs.Step.{effect}
use Rattle.oskernel.proofs.Carried.{acting-anybody, allow-anybody, effect-ok, is_replied, leave_all}

-- The core has a number that a configuration may have.
abbrev is_numbered : CoreId → Bool
is_numbered core = nat_lt core.number CORES

sender-replied : (item : Item) → is_sender_known item ≡ true → is_replied is_numbered anybody item ≡ true
sender-replied item known = grind (arith, known)

-- The state stands for a history of a core whose clocks are within their limits, and the item's sender has a core
-- number.
pub effect-permitted : (item : Item) {v : View} {h : History} {s : KernelState} → are_clocks_within s.view.own ≡ true → is_sender_known item ≡ true → Stands v h s → are_permitted (effect item) s ≡ true
effect-permitted item {v} {h} within known stands =
    let inside = subst (λ (q : KernelState). are_clocks_within q.view.own ≡ true) stands.is within in
    let l : Leave = leave_all v anybody is_numbered in
    subst (λ (q : KernelState). are_permitted (effect item) q ≡ true) (sym stands.is)
    (permitted l inside (λ core e. e) (λ k. (acting-anybody v anybody is_numbered k).seen) (effect item) (effect-ok l (allow-anybody v) item (sender-replied item known)) h stands.granted)
