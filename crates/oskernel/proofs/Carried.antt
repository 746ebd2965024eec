-- At an item, a core does the same to every history that reads the same.
use native.Mathlib.Omega.{arith}
use Rattle.std.proofs.Common.{◌≡◌, ◌&&◌, ◌||◌, ℕ, ℤ, not, Bool, true, false, cond, Option, Some, None, option_and_then, List, [], ◌∷◌, refl, subst, sym, ◌∙◌}
use Rattle.std.specs.{List.list_all, List.slice_get, Option.option_map_or}
use Rattle.std.proofs.{lemmas.Bool.and_from, lemmas.Bool.and_parts, lemmas.Bool.or_right, lemmas.Option.slice_get_within}
use Rattle.osbase.specs.{declared.statuses.Status.Status, declared.statuses.Status.TheVariants.EOk, declared.references.CoreId.CoreId, declared.references.SpinlockId.SpinlockId, declared.references.TaskRef.TaskRef, declared.references.Runner.Runner, declared.messages.Message.Message, declared.items.Item.Item, declared.items.Stimulus.Stimulus, declared.histories.Awaited.Awaited, declared.histories.Job.Job, Marks.core_of_runner}
use Rattle.osbase.specs.History.{AlarmSet, History, Noted, Took, current_task, same_job}
use Rattle.oscript.specs.{declared.Op.Op, declared.Action.TheVariants.Perform, declared.Action.TheVariants.End, Rows.asks_shared, Rows.halts_all, Rows.objects_of}
use Rattle.osplan.specs.{declared.protection.Protection.Protection, declared.plans.Alarm.Alarm, declared.plans.AlarmStart.AlarmStart, declared.plans.Core.Core, Clocked.are_clocks_within, Objects.core_actions, View.Around, View.View}
use Rattle.osclock.specs.Clocks.{alarm_ref, counter_ref, is_setting_granted}
use Rattle.osclock.proofs.{Places.alarm-is, Places.alarm-own, Starts.starts-within}
use Rattle.ostable.proofs.Asked.{dues-own}
use Rattle.osstate.specs.{Readings.best_job, Readings.running, Readings.script_of, State.state_of}
use Rattle.osacts.specs.{Acts.Acts, Acts.Notes, Acts.does, Seen.Seen, Seen.seen_of}
use Rattle.osservice.specs.Service.{answer_of}
use Rattle.osservice.proofs.{Called.locks-any, Partners.Partner}
use Rattle.osservice.proofs.Kept.{AreAllowed, IsKept, IsNamed, IsSeen, Leave, anybody, each-ok, found-ok, in_turn-ok, is_allowed, is_within, kept-by, replies-ok, reports-ok, returns-ok, seen_as, turns-shown}
use Rattle.osservice_tasks.proofs.Allowed.{ends-ok, ends_without_terminate-ok}
use Rattle.oscall.specs.Border.{core_of_call, service_of}
use Rattle.oscall.proofs.Allowed.{served-ok, service-ok}
use Rattle.osexpiry.proofs.Allowed.{ActionsAllow, counts-ok}
use Rattle.oskernel.proofs.Operated.{IsAllowed, operates-ok}
use Rattle.ostick.specs.Faults.{answers_fault, fault_of, faults_with, protects}
use Rattle.osawait.specs.Free.{may_dispatch}
use Rattle.oskernel.specs.Step.{after, closes, dispatched, effect, enters, goes_to, performs, resumes_with, service_awaiting, success_value}

-- A request comes from a core that may be answered; and the call that it brings, an action and an interrupt are for an
-- object that marks may name.
abbrev pub is_replied : (CoreId → Bool) → (CoreId → Bool) → Item → Bool
is_replied replies names (Item.Received from number (Message.Request call)) = replies from && names (core_of_call call)
is_replied replies names (Item.Received from number (Message.Action call)) = names (core_of_call call)
is_replied replies names (Item.Stim (Stimulus.Irq isr)) = names isr.core
is_replied replies names item = true

-- If an operation of the core's scripts names a core, this is the own core or one that may be asked. It asks for a
-- spinlock, for what all cores share, or for their shutdown, only if it may. Each alarm and each schedule table acts on
-- one of these cores.
pub record NamesAllow (v : View) (may : Partner → Bool) : Type 0 where
  pub scripts : (r : Runner) (n : ℕ) (op : Op) → slice_get (script_of v.own r) n ≡ Some op → IsAllowed v may op
  pub actions : ActionsAllow v may

-- If every core may be asked, and every spinlock may be asked for, nothing is required of the objects that are named.
pub allow-cores : (v : View) (may : Partner → Bool) → ((core : CoreId) → may (Partner.Core core) ≡ true) → ((l : SpinlockId) → may (Partner.Spinlock l) ≡ true)
    → ((r : Runner) (n : ℕ) (op : Op) → slice_get (script_of v.own r) n ≡ Some op → asks_shared op ≡ true → may Partner.Shared ≡ true)
    → ((r : Runner) (n : ℕ) (op : Op) → slice_get (script_of v.own r) n ≡ Some op → halts_all op ≡ true → may Partner.Halt ≡ true)
    → NamesAllow v may
allow-cores v may each_core each_lock shared halt = record {
  scripts = λ r n op e. record { objects = each (objects_of op) _; locks = locks-any may each_lock (objects_of op); shared = shared r n op e; halt = halt r n op e };
  actions = each (core_actions v.own) _;
}
  where
    each : {A : Type 0} (xs : List A) (core_of : A → CoreId) → list_all (λ (x : A). is_within v may (core_of x)) xs ≡ true
    each [] core_of = refl
    each (x ∷ xs) core_of = and_from _ _ (or_right _ _ (each_core (core_of x))) (each xs core_of)

-- If all may be asked and answered, nothing is required.
pub allow-anybody : (v : View) → NamesAllow v anybody
allow-anybody v = allow-cores v anybody (λ core. refl) (λ l. refl) (λ r n op e asks. refl) (λ r n op e halts. refl)

pub replied-anybody : (item : Item) → is_replied anybody anybody item ≡ true
replied-anybody item = grind arith

-- ---- who acts

-- The value, if there is one, passes the test.
abbrev pub passes : {A : Type 0} → Option A → (A → Bool) → Bool
passes o test = option_map_or test o true

-- The runner that dispatch switches to, if any: the best job's, unless that job runs.
abbrev pub next_job : Option Job → Option Job → Option Runner
next_job best runs = option_and_then (λ (j : Job). cond (option_map_or (same_job j) runs false) None (Some j.runner)) best

abbrev pub next_of : View → History → Option Runner
next_of v h = cond (may_dispatch (state_of v h)) (next_job (best_job v h) (running v h)) None

-- What a core reads is its own; and marks may name the task that it leaves, and the runner that it switches to.
pub record NamesActing (l : Leave) (h : History) : Type 0 where
  pub seen : IsSeen l (seen_of l.view h)
  pub current : passes (current_task h) (λ t. l.names t.core) ≡ true
  pub next : passes (next_of l.view h) (λ r. l.names (core_of_runner r)) ≡ true

-- What a core may do if its marks may name any object.
abbrev pub leave_all : View → (Partner → Bool) → (CoreId → Bool) → Leave
leave_all v may answered = record { view = v; may = may; answered = answered; names = anybody; named = λ core within. refl; own_named = refl }

pub acting-anybody : (v : View) (may : Partner → Bool) (answered : CoreId → Bool) (h : History) → NamesActing (leave_all v may answered) h
acting-anybody v may answered h = record { seen = record { id = refl; core = refl; due_tables = λ c. dues-own v.own c h; running = always _; awaits = always _; turns = λ a start own. turns-shown v.own a start h own }; current = always _; next = always _ }
  where
    always : {A : Type 0} (o : Option A) → passes o (λ x. true) ≡ true
    always o = grind arith

-- Dispatch by what is read: the task that a core leaves, and the runner that it switches to.
abbrev goes : View → Option TaskRef → Option Runner → History → History
goes v current next h = option_map_or (λ (r : Runner). does (enters current r) v h) next h

dispatched-is : (v : View) (h : History) → dispatched v h ≡ goes v (current_task h) (next_of v h) h
dispatched-is v h = by (may_dispatch (state_of v h)) (best_job v h)
  where
    by : (b : Bool) (o : Option Job) → cond b (does (goes_to (state_of v h) o) v h) h ≡ goes v (current_task h) (cond b (next_job o (running v h)) None) h
    by b o = grind arith

-- ---- what follows from an item

-- An autostarted alarm is set within its counter's values.
start-granted : (l : Leave) (core : Core) (n : ℕ) (alarm : Alarm) (auto : AlarmStart) → core ≡ l.view.own → slice_get core.alarms n ≡ Some alarm → alarm.auto ≡ Some auto → is_allowed l (Notes (AlarmSet (alarm_ref core n) auto.start auto.cycle)) ≡ true
start-granted l core n alarm auto own at starts = rw (sym own) (by (are_clocks_within core) refl)
  where
    by : (b : Bool) → are_clocks_within core ≡ b → not b || is_setting_granted core (Noted (AlarmSet (alarm_ref core n) auto.start auto.cycle)) ≡ true
    by false e = refl
    by true e =
        let place = alarm-own core n (slice_get_within core.alarms n alarm at) in
        let bounds = starts-within core (alarm_ref core n) alarm auto e (alarm-is core (alarm_ref core n) place ∙ at) starts in
        grind (arith, bounds.later, bounds.turn, bounds.cycle)

module _ (l : Leave) (allowed : NamesAllow l.view l.may) where
  abbrev Allowed : Acts → Type 0
  Allowed = AreAllowed l

  performs-ok : (r : Runner) → IsNamed l r → (o : Option Op) → ((op : Op) → o ≡ Some op → IsAllowed l.view l.may op) → Allowed (performs r (option_map_or Perform o End))
  performs-ok r n None permitted = ends_without_terminate-ok l r n
  performs-ok r n (Some op) permitted = operates-ok l allowed.actions op r n (permitted op refl)

  closes-ok : (s : Seen) → IsSeen l s → (status : Status) (value : Option ℤ) → Allowed (closes s.awaits status value)
  closes-ok s seen status value = found-ok l _ s.awaits (λ call is. by call.runner (rw is at seen.awaits) call.awaits)
    where
      by : (r : Runner) → IsNamed l r → (awaits : Awaited) → Allowed (resumes_with r awaits status value)
      by r n awaits = found-ok l _ (service_awaiting awaits) (λ id is. assumption (ends-ok l r n, returns-ok l r id status value n))

  -- The answer to a time fault names no object but the task or ISR whose job it ends, and none if the core goes down.
  answers-ok : (protection : Protection) (r : Runner) (status : Status) → IsNamed l r → Allowed (answers_fault protection r status)
  answers-ok Protection.TerminateTaskIsr (Runner.Task t) status n = (n, tt)
  answers-ok Protection.TerminateTaskIsr (Runner.Isr i) status n = (n, tt)
  answers-ok protection r status n = (refl, (refl, tt))

  protects-ok : (s : Seen) → IsSeen l s → Allowed (protects s s.running)
  protects-ok s seen = by s.running refl
    where
      faults-ok : (r : Runner) → IsNamed l r → (fault : Option Status) → Allowed (faults_with s.core.protection r fault)
      faults-ok r n None = tt
      faults-ok r n (Some status) = (refl, answers-ok s.core.protection r status n)

      by : (o : Option Runner) → s.running ≡ o → Allowed (protects s o)
      by None is = tt
      by (Some r) is = faults-ok r (rw is at seen.running) (fault_of s r)

  pub effect-ok : (item : Item) → is_replied l.answered l.names item ≡ true → Allowed (effect item)
  effect-ok (Item.Pass1 agreement) m = (grind arith, tt)
  effect-ok (Item.Pass2 cores) m = λ s seen.
      let own : l.names s.core.id ≡ true = rw seen.core l.own_named in
      (each-ok l _ (λ p. assumption own) _, (in_turn-ok l _ s.core.alarms (λ n alarm at. found-ok l _ alarm.auto (λ x is. (λ yes. (start-granted l s.core n alarm x seen.core at is, tt), λ no. tt))), each-ok l _ (λ p. found-ok l _ p.1.auto (λ x is. assumption)) _))
  effect-ok (Item.Stim Stimulus.Op) m = λ s seen. found-ok l _ s.running (λ r is q at. performs-ok r (rw is at seen.running) (slice_get (script_of q.core r) (q.row r).frame.pc) (λ op found. allowed.scripts r (q.row r).frame.pc op (rw at.core at found)))
  effect-ok (Item.Stim Stimulus.Tick) m = ((refl, tt), (protects-ok, λ t at. (λ going s seen. each-ok l _ (λ p. assumption (counts-ok l allowed.actions (counter_ref s.core p.0))) _, λ down. tt)))
  effect-ok (Item.Stim (Stimulus.Irq isr)) m = λ s seen. (λ pending. (m, tt), λ none. (m, tt))
  effect-ok (Item.Received from number (Message.Request call)) m = λ t at.
      let parts = and_parts (l.answered from) (l.names (core_of_call call)) m in (
        λ going s seen.
            let answer = answer_of (service_of call s) in
            assumption (service-ok l call parts.1 s seen, served-ok l from call answer.status answer.value parts.1, replies-ok l from answer.status answer.value parts.0),
        λ down. (parts.0, tt),
      )
  effect-ok (Item.Received from number (Message.Action call)) m = λ t at. (
    λ going s seen.
        let answer = answer_of (service_of call s) in
        assumption (service-ok l call m s seen, served-ok l from call answer.status answer.value m, reports-ok l answer.status),
    λ down. tt,
  )
  effect-ok (Item.Received from number (Message.Reply status)) m = λ s seen. closes-ok s seen status None
  effect-ok (Item.Received from number (Message.Value status n)) m = λ s seen. closes-ok s seen status (Some n)
  effect-ok (Item.Granted spinlock) m = λ s seen. closes-ok s seen EOk None
  effect-ok (Item.Tried spinlock taken) m = λ s seen. closes-ok s seen EOk (Some (success_value taken))
  effect-ok (Item.Freed spinlock) m = λ s seen. closes-ok s seen EOk None
  effect-ok (Item.Last None) m = tt
  effect-ok (Item.Last (Some asked)) m = λ s seen. (λ down. tt, λ up. (refl, tt))
  effect-ok item m = assumption

  -- ---- dispatch, and the whole step

  module _ (around : Around) (R : History → History → Type 0) (kept : IsKept l around R) (steers : (h k : History) → R h k → (current_task h ≡ current_task k) × (next_of l.view h ≡ next_of (seen_as l.view around) k)) (acting : (h k : History) → R h k → NamesActing l h) where
    goes-carried : (current : Option TaskRef) (next : Option Runner) (h k : History) → passes current (λ t. l.names t.core) ≡ true → passes next (λ r. l.names (core_of_runner r)) ≡ true → R h k → R (goes l.view current next h) (goes (seen_as l.view around) current next k)
    goes-carried current None h k left n p = p
    goes-carried None (Some (Runner.Task t)) h k left n p = kept.holds.local _ h k n p
    goes-carried (Some u) (Some (Runner.Task t)) h k left n p = kept.holds.local _ _ _ n (kept.holds.local _ h k left p)
    goes-carried current (Some (Runner.Isr i)) h k left n p = kept.holds.local _ h k n p

    dispatch-carried : (h k : History) → R h k → R (dispatched l.view h) (dispatched (seen_as l.view around) k)
    dispatch-carried h k p =
        let same = steers h k p in
        let acts = acting h k p in
        rw (dispatched-is l.view h, dispatched-is (seen_as l.view around) k)
        (subst (R (goes l.view (current_task h) (next_of l.view h) h)) (λ i. goes (seen_as l.view around) (same.0 i) (same.1 i) k) (goes-carried (current_task h) (next_of l.view h) h k acts.current acts.next p))

    -- Two items with the same effect are taken.
    pub after-carried : (h k : History) (item item' : Item) → is_replied l.answered l.names item ≡ true → effect item ≡ effect item' → R (Took item ∷ h) (Took item' ∷ k) → R (after l.view h item) (after (seen_as l.view around) k item')
    after-carried h k item item' m same p =
        dispatch-carried (does (effect item) l.view (Took item ∷ h)) (does (effect item') (seen_as l.view around) (Took item' ∷ k))
        (subst (λ (x : Acts). R (does (effect item) l.view (Took item ∷ h)) (does x (seen_as l.view around) (Took item' ∷ k))) same
        (kept-by l around R kept (effect item) (effect-ok item m) (Took item ∷ h) (Took item' ∷ k) p))
