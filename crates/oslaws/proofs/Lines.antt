-- Which item a core may take, line by line.
use Rattle.std.proofs.Common.{◌≡◌, ◌==◌, ◌&&◌, ◌||◌, ◌<◌, ◌+◌, ℕ, zero, suc, nat_lt, Bool, true, false, not, Option, is_none, map, get_or, ap, ◌∙◌, refl, arith}
use Rattle.std.specs.Option.{option_map_or}
use Rattle.std.proofs.lemmas.Bool.{and_parts, ltb-true}
use Rattle.osbase.specs.{declared.statuses.Status.Status, declared.references.CoreId.CoreId, declared.references.SpinlockId.SpinlockId, declared.messages.Message.Message, declared.items.Item.Item, declared.histories.OpenCall.OpenCall, declared.histories.Phase.Phase, declared.limits.TheConstants.CORES, Phases.is_scheduling, Phases.same_phase, Sets.core_ids, Sets.has_core, Sets.numbers_from, Spins.got_spinlocks, Spins.newest_owed, Spins.same_spinlock}
use Rattle.osbase.specs.History.{History, open_call, outbox, received_count, same_core, started_cores}
use Rattle.osplan.specs.{Stimuli.knows_stimulus, View.View}
use Rattle.osstate.specs.{Readings.phase_at, State.state_of}
use Rattle.osawait.specs.Free.{is_get}
use Rattle.osawait.specs.Messages.{is_awaited}
use Rattle.osadmit.specs.Admission.{admits, asks_halt, is_front_for, is_release_of, is_start_answer}
use Rattle.oslaws.specs.Takes.{admits_by, awaits, has_no_call, has_posted_all, is_answer_for, is_at, is_expected, is_next_to_start, is_up, owes_nothing}

-- ---- the phases

live-schedules : (p : Phase) → is_scheduling p ≡ (same_phase Phase.Live p || same_phase Phase.Drained p || same_phase Phase.Closing p)
live-schedules p = grind arith

-- ---- chains of conditions

stimulus-flat : (l k n o g e : Bool) → ((l && k) && (((n && o) && g) && e)) ≡ (((((l && k) && n) && o) && e) && g)
stimulus-flat l k n o g e = grind arith

drained-flat : (l n o e : Bool) → (l && ((n && o) && e)) ≡ (((l && n) && o) && e)
drained-flat l n o e = grind arith

letter-flat : (l a b n m c : Bool) → (a ≡ true → n ≡ m) → (l && (((a && b) && n) && c)) ≡ ((((l && a) && b) && m) && c)
letter-flat l a b n m c same = grind (arith, same)

-- ---- the answer to StartCore

answer-same : (v : View) (core : CoreId) (status : Status) → is_start_answer v core status ≡ is_answer_for v core status
answer-same v core status = grind arith

-- ---- letters

count-at : (f : CoreId → ℕ) (first count place n : ℕ) → n ≡ first + place → place < count
    → get_or (map f (map (λ (m : ℕ). record { number = m }) (numbers_from first count))) place 0 ≡ f (record { number = n })
count-at f first zero place n is within = absurd (omega (arith, within))
count-at f first (suc count) zero n is within = ap (λ (m : ℕ). f (record { number = m })) (let here : first ≡ n = omega (arith, is) in here)
count-at f first (suc count) (suc place) n is within = count-at f (first + 1) count place n (omega (arith, is)) (omega (arith, within))

received-at : (h : History) (from : CoreId) → has_core (started_cores h) from ≡ true → get_or (map (λ (s : CoreId). received_count s h) core_ids) from.number 0 ≡ received_count from h
received-at h from started =
    count-at (λ (s : CoreId). received_count s h) 0 CORES from.number from.number (omega arith) (ltb-true from.number CORES (and_parts (nat_lt from.number CORES) _ started).0)

expected-same : (places : ℕ) (v : View) (h : History) (from : CoreId) (message : Message) → is_awaited places (state_of v h) from message ≡ is_expected places v h from message
expected-same places v h from message = grind arith

-- ---- what the open call asks

release-same : (l : SpinlockId) (o : Option OpenCall) (owed : Bool)
    → option_map_or (λ (call : OpenCall). is_release_of l call.awaits) o owed ≡ (option_map_or (λ (call : OpenCall). is_release_of l call.awaits) o false || is_none o && owed)
release-same l o owed = grind arith

halt-same : (asked up settled : Bool) (o : Option OpenCall)
    → (asked || (up && (settled && option_map_or (λ (call : OpenCall). is_get call.awaits) o true)))
    ≡ (asked || (up && settled && (is_none o || option_map_or (λ (call : OpenCall). is_get call.awaits) o false)))
halt-same asked up settled o = grind arith

-- ---- the lines

pub lines : (places : ℕ) (v : View) (h : History) (item : Item) → admits places (state_of v h) item ≡ admits_by places v h item
lines places v h (Item.Began core status) = ap (λ (b : Bool). (is_at Phase.Boot v h && is_next_to_start v h core) && b) (answer-same v core status)
lines places v h (Item.Stim stimulus) =
    stimulus-flat (is_at Phase.Live v h) (knows_stimulus v.own stimulus) (has_no_call h) (owes_nothing h) (is_up h) (has_posted_all h)
lines places v h (Item.Posted core) = ap (λ (b : Bool). b && is_front_for core (outbox h)) (live-schedules (phase_at v h))
lines places v h (Item.Received from number message) =
    let started = has_core (started_cores h) from in
    let other = not (same_core from v.core) in
    letter-flat (is_scheduling (phase_at v h)) started other (number == get_or (map (λ (s : CoreId). received_count s h) core_ids) from.number 0) (number == received_count from h)
    (is_awaited places (state_of v h) from message) (λ is. ap (λ (n : ℕ). number == n) (received-at h from is))
    ∙ λ i. (((live-schedules (phase_at v h) i && started) && other) && (number == received_count from h)) && expected-same places v h from message i
lines places v h (Item.Freed l) = ap (λ (b : Bool). is_at Phase.Live v h && b) (release-same l (open_call h) (option_map_or (same_spinlock l) (newest_owed (got_spinlocks h)) false))
lines places v h (Item.Halt core status) = ap (λ (b : Bool). is_at Phase.Live v h && b) (halt-same (awaits asks_halt h) (is_up h) (owes_nothing h) (open_call h))
lines places v h Item.Drained = drained-flat (is_at Phase.Live v h) (has_no_call h) (owes_nothing h) (has_posted_all h)
lines places v h item = refl
