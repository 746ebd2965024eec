-- Once for all acts: what they do to one history they do to every history that reads the same.
use Rattle.std.proofs.Common.{◌≡◌, ◌&&◌, ◌||◌, ◌<◌, ◌≤◌, ◌+◌, ℕ, ℤ, arith, suc, nat_lt, not, is_some, Bool, true, false, cond, Option, Some, None, IfSome, option_map, unwrap_or, List, [], ◌∷◌, refl, subst}
use Rattle.std.specs.{List.enumerate_from, List.list_all, List.slice_get, Option.option_map_or}
use Rattle.std.proofs.lemmas.Bool.{and_from, and_parts, false≢true}
use Rattle.osbase.specs.{declared.statuses.Status.Status, declared.statuses.ServiceId.ServiceId, declared.references.AlarmRef.AlarmRef, declared.references.CoreId.CoreId, declared.references.CounterRef.CounterRef, declared.references.Runner.Runner, declared.messages.RemoteCall.RemoteCall, declared.messages.Message.Message, declared.marks.Mark.Mark, declared.histories.OpenCall.OpenCall, declared.items.CoreSet.CoreSet, declared.limits.TheConstants.CORES, Answers.reply, Marks.core_of_runner, Marks.names_only, Sets.has_core}
use Rattle.osbase.specs.History.{AlarmSet, Entry, History, Took, Printed, Noted, Opened, Queued, same_core, started_cores}
use Rattle.osplan.specs.{declared.plans.Alarm.Alarm, declared.plans.Core.Core, Clocked.are_clocks_within, View.Around, View.View, View.own_alarm}
use Rattle.osclock.specs.Clocks.{counts_to_by, counts_to_value_by, is_setting_granted, max_for, max_of, value_by}
use Rattle.osclock.proofs.Bounds.{turn-within}
use Rattle.ostable.specs.Waiting.{are_own}
use Rattle.osstate.specs.Readings.{knows_started}
use Rattle.osacts.specs.Acts.{Act, Acts, Prints, Notes, Sends, nothing, one_then, both, when, if_started, look, look_around, act, does, for_each, in_turn}
use Rattle.osservice.specs.Checks.{Check, first_failing, is_ok_status}
use Rattle.osservice.specs.Returning.{answers, asks, reports, reports_of, returns}
use Rattle.osacts.specs.Seen.{AllCores, Seen, all_cores, is_this_core, seen_of}
use Rattle.osservice.specs.Service.{Service, answer_of, effect_of, serves, serves_if, serves_own}
use Rattle.osservice.proofs.Partners.{Partner, partner_of}

-- Whom a core asks or answers: everybody, or nobody.
abbrev pub anybody : {A : Type 0} → A → Bool
anybody x = true

abbrev pub nobody : {A : Type 0} → A → Bool
nobody x = false

-- The core's view, in which only what is around the core is replaced.
abbrev pub seen_as : View → Around → View
seen_as v around = record v { around = around }

-- The core is the own one, or one that may be asked.
abbrev pub is_within : View → (Partner → Bool) → CoreId → Bool
is_within v may core = same_core core v.core || may (Partner.Core core)

-- A call awaits only the answer of one that may be asked.
abbrev pub may_open : (Partner → Bool) → OpenCall → Bool
may_open may call = may (partner_of call.awaits)

-- What a core may do: whom it may ask, which cores it may answer, and which cores' objects its marks may name. Among
-- these last are its own core and those that it may ask.
pub record Leave : Type 0 where
  pub view : View
  pub may : Partner → Bool
  pub answered : CoreId → Bool
  pub names : CoreId → Bool
  pub named : (core : CoreId) → is_within view may core ≡ true → names core ≡ true
  pub own_named : names view.own.id ≡ true

-- An act names only objects of cores that marks may name; so does the runner of a call. It asks only those that may be
-- asked and whose numbers a configuration may have, and answers only those that may be answered. If the core's clocks
-- are within their limits, it sets an alarm as a service grants it.
abbrev pub is_allowed : Leave → Act → Bool
is_allowed l (Prints m) = names_only l.names m
is_allowed l (Notes (Opened call)) = may_open l.may call && l.names (core_of_runner call.runner)
is_allowed l (Notes (Queued core letter)) = false
is_allowed l (Notes (AlarmSet a first cycle)) = not (are_clocks_within l.view.own) || is_setting_granted l.view.own (Noted (AlarmSet a first cycle))
is_allowed l (Notes n) = true
is_allowed l (Sends core (Message.Reply status)) = l.answered core
is_allowed l (Sends core (Message.Value status n)) = l.answered core
is_allowed l (Sends core message) = nat_lt core.number CORES && l.may (Partner.Core core)

-- A note of the core itself, or a mark that names only objects of cores that pass: neither an item nor what goes to
-- another core.
abbrev pub is_local : (CoreId → Bool) → Entry → Bool
is_local names (Took item) = false
is_local names (Printed m) = names_only names m
is_local names (Noted (Opened call)) = false
is_local names (Noted (Queued core letter)) = false
is_local names entry = true

-- What the core reads is its own, and marks may name the runner that it continues and the one whose call is open. The
-- counter of an own alarm has each value within a turn.
pub record IsSeen (l : Leave) (s : Seen) : Type 0 where
  pub id : s.id ≡ l.view.core
  pub core : s.core ≡ l.view.own
  pub due_tables : (c : CounterRef) → list_all (are_own l.view.own) (s.due_tables c) ≡ true
  pub running : option_map_or (λ (r : Runner). l.names (core_of_runner r)) s.running true ≡ true
  pub awaits : option_map_or (λ (call : OpenCall). l.names (core_of_runner call.runner)) s.awaits true ≡ true
  pub turns : (a : AlarmRef) (start : ℕ) → is_some (own_alarm l.view.own a) ≡ true → (0 < s.counts_to a start) × (s.counts_to a start ≤ suc (max_for l.view.own a))

-- In every history, the counter of an own alarm has each value within a turn.
pub turns-shown : (core : Core) (a : AlarmRef) (start : ℕ) (h : History) → is_some (own_alarm core a) ≡ true → (0 < counts_to_by core a start h) × (counts_to_by core a start h ≤ suc (max_for core a))
turns-shown core a start h own = by (own_alarm core a) own
  where
    by : (o : Option Alarm) → is_some o ≡ true
        → (0 < option_map_or (λ (x : Alarm). counts_to_value_by core x.counter start h) o 0) × (option_map_or (λ (x : Alarm). counts_to_value_by core x.counter start h) o 0 ≤ suc (option_map_or (λ (x : Alarm). max_of core x.counter) o 0))
    by None none = absurd (false≢true none)
    by (Some x) some = (omega arith, turn-within (max_of core x.counter) (value_by core x.counter h) start)

-- Each kind of entry that acts may add keeps the relation: one of the core itself, a letter to a core that may be
-- asked, a reply to one that may be answered, and a call whose answer may be asked for, of a runner that marks may
-- name.
pub record KeepsEntries (l : Leave) (R : History → History → Type 0) : Type 0 where
  pub local : (e : Entry) (h k : History) → is_local l.names e ≡ true → R h k → R (e ∷ h) (e ∷ k)
  pub asked : (core : CoreId) (message : Message) (h k : History) → l.may (Partner.Core core) ≡ true → R h k → R (act (Sends core message) h) (act (Sends core message) k)
  pub replied : (core : CoreId) (s : Status) (value : Option ℤ) (h k : History) → l.answered core ≡ true → R h k → R (act (Sends core (reply s value)) h) (act (Sends core (reply s value)) k)
  pub opened : (call : OpenCall) (h k : History) → may_open l.may call ≡ true → l.names (core_of_runner call.runner) ≡ true → R h k → R (Noted (Opened call) ∷ h) (Noted (Opened call) ∷ k)

-- A relation of histories that these entries keep. Where it holds, the core reads the same, of all cores too if it may.
-- The second history is that of a core with this around it.
pub record IsKept (l : Leave) (around : Around) (R : History → History → Type 0) : Type 0 where
  pub holds : KeepsEntries l R
  pub started : (core : CoreId) (h k : History) → is_within l.view l.may core ≡ true → R h k → knows_started h core ≡ knows_started k core
  pub shared : l.may Partner.Shared ≡ true → (h k : History) → R h k → all_cores l.view h ≡ all_cores (seen_as l.view around) k
  pub reads : (h k : History) → R h k → seen_of l.view h ≡ seen_of (seen_as l.view around) k
  pub seen : (h k : History) → R h k → IsSeen l (seen_of l.view h)

pub started-known : (cores : CoreSet) (core : CoreId) → has_core cores core ≡ true → nat_lt core.number CORES ≡ true
started-known cores core is = (and_parts (nat_lt core.number CORES) _ is).0

module _ (l : Leave) where
  -- Each of these acts is allowed, whatever is read. A core that was started has a number that a configuration may
  -- have.
  abbrev pub AreAllowed : Acts → Type 0
  AreAllowed nothing = Unit {0}
  AreAllowed (one_then a x) = (is_allowed l a ≡ true) × AreAllowed x
  AreAllowed (both x y) = AreAllowed x × AreAllowed y
  AreAllowed (when b x y) = (b ≡ true → AreAllowed x) × (b ≡ false → AreAllowed y)
  AreAllowed (if_started core x y) = (is_within l.view l.may core ≡ true) × ((nat_lt core.number CORES ≡ true → AreAllowed x) × AreAllowed y)
  AreAllowed (look f) = (s : Seen) → IsSeen l s → AreAllowed (f s)
  AreAllowed (look_around f) = (l.may Partner.Shared ≡ true) × ((all : AllCores) → AreAllowed (f all))

  -- ---- the law

  module _ (around : Around) (R : History → History → Type 0) (kept : IsKept l around R) where
    one-kept : (a : Act) → is_allowed l a ≡ true → (h k : History) → R h k → R (act a h) (act a k)
    one-kept (Prints m) ok h k p = kept.holds.local (Printed m) h k ok p
    one-kept (Notes (Opened call)) ok h k p = let parts = and_parts (may_open l.may call) _ ok in kept.holds.opened call h k parts.0 parts.1 p
    one-kept (Notes (Queued core letter)) ok h k p = cc
    one-kept (Notes (AlarmSet a first cycle)) ok h k p = kept.holds.local (Noted (AlarmSet a first cycle)) h k refl p
    one-kept (Notes n) ok h k p = kept.holds.local (Noted n) h k ok p
    one-kept (Sends core (Message.Reply status)) ok h k p = kept.holds.replied core status None h k ok p
    one-kept (Sends core (Message.Value status n)) ok h k p = kept.holds.replied core status (Some n) h k ok p
    one-kept (Sends core message) ok h k p = kept.holds.asked core message h k (and_parts (nat_lt core.number CORES) _ ok).1 p

    either : (b : Bool) (h h' k k' : History) → (b ≡ true → R h k) → (b ≡ false → R h' k') → R (cond b h h') (cond b k k')
    either true h h' k k' p q = p refl
    either false h h' k k' p q = q refl

    pub kept-by : (x : Acts) → AreAllowed x → (h k : History) → R h k → R (does x l.view h) (does x (seen_as l.view around) k)
    kept-by nothing ok h k p = p
    kept-by (one_then a x) ok h k p = kept-by x ok.1 (act a h) (act a k) (one-kept a ok.0 h k p)
    kept-by (both x y) ok h k p = kept-by y ok.1 (does x l.view h) (does x (seen_as l.view around) k) (kept-by x ok.0 h k p)
    kept-by (when b x y) ok h k p = either b (does x l.view h) (does y l.view h) (does x (seen_as l.view around) k) (does y (seen_as l.view around) k) (λ e. kept-by x (ok.0 e) h k p) (λ e. kept-by y (ok.1 e) h k p)
    kept-by (if_started core x y) ok h k p =
        subst (λ (b : Bool). R (cond (knows_started h core) (does x l.view h) (does y l.view h)) (cond b (does x (seen_as l.view around) k) (does y (seen_as l.view around) k))) (kept.started core h k ok.0 p)
        (either (knows_started h core) (does x l.view h) (does y l.view h) (does x (seen_as l.view around) k) (does y (seen_as l.view around) k) (λ e. kept-by x (ok.1.0 (started-known (started_cores h) core e)) h k p) (λ e. kept-by y ok.1.1 h k p))
    kept-by (look f) ok h k p =
        subst (λ (s : Seen). R (does (f (seen_of l.view h)) l.view h) (does (f s) (seen_as l.view around) k)) (kept.reads h k p) (kept-by (f (seen_of l.view h)) (ok (seen_of l.view h) (kept.seen h k p)) h k p)
    kept-by (look_around f) ok h k p =
        subst (λ (all : AllCores). R (does (f (all_cores l.view h)) l.view h) (does (f all) (seen_as l.view around) k)) (kept.shared ok.0 h k p) (kept-by (f (all_cores l.view h)) (ok.1 (all_cores l.view h)) h k p)

  -- ---- the parts of a service

  -- Marks may name the runner.
  abbrev pub IsNamed : Runner → Type 0
  IsNamed r = l.names (core_of_runner r) ≡ true

  pub reports-ok : (s : Status) → AreAllowed (reports s)
  reports-ok s = (λ e. tt, λ e. (refl, tt))

  reports_of-ok : (service : ServiceId) (s : Status) → AreAllowed (reports_of service s)
  reports_of-ok service s = (λ e. tt, λ e. reports-ok s)

  pub returns-ok : (r : Runner) (service : ServiceId) (s : Status) (value : Option ℤ) → IsNamed r → AreAllowed (returns r service s value)
  returns-ok r service s None n = ((n, tt), (reports_of-ok service s, (refl, tt)))
  returns-ok r service s (Some x) n = ((n, tt), (reports_of-ok service s, (refl, tt)))

  pub replies-ok : (core : CoreId) (s : Status) (value : Option ℤ) → l.answered core ≡ true → is_allowed l (Sends core (reply s value)) ≡ true
  replies-ok core s None answered = answered
  replies-ok core s (Some n) answered = answered

  pub answers-ok : (r : Runner) (service : ServiceId) (checks : List Check) (effect : Acts) → IsNamed r → (is_ok_status (first_failing checks) ≡ true → AreAllowed effect) → AreAllowed (answers r service checks effect)
  answers-ok r service checks effect n ok = (ok, λ e. returns-ok r service (first_failing checks) None n)

  pub asks-ok : (r : Runner) (service : ServiceId) (core : CoreId) (call : RemoteCall) → IsNamed r → names_only l.names (Mark.CallQueued core call) ≡ true → nat_lt core.number CORES ≡ true → l.may (Partner.Core core) ≡ true → AreAllowed (asks r service core call)
  asks-ok r service core call n named known m = (named, (and_from _ _ known m, (and_from _ _ m n, tt)))

  -- Another core that is within may be asked.
  pub elsewhere : (s : Seen) → IsSeen l s → (core : CoreId) → is_this_core s core ≡ false → is_within l.view l.may core ≡ true → l.may (Partner.Core core) ≡ true
  elsewhere s seen core other within = rw (← seen.id, other) at within

  -- For an object of the own core this is done; for one of another core, that core is asked.
  pub crosses-ok : (r : Runner) (service : ServiceId) (core : CoreId) (call : RemoteCall) (here : Seen → Acts) → IsNamed r → names_only l.names (Mark.CallQueued core call) ≡ true → is_within l.view l.may core ≡ true → ((s : Seen) → IsSeen l s → AreAllowed (here s)) → nat_lt core.number CORES ≡ true
      → AreAllowed (look (λ s. when (is_this_core s core) (here s) (asks r service core call)))
  crosses-ok r service core call here n named within ok known s seen = (λ own. ok s seen, λ other. asks-ok r service core call n named known (elsewhere s seen core other within))

  -- If something is found, what follows from it is allowed.
  pub found-ok : {A : Type 0} (f : A → Acts) (o : Option A) → ((x : A) → o ≡ Some x → AreAllowed (f x)) → AreAllowed (option_map_or f o nothing)
  found-ok f None each = tt
  found-ok f (Some x) each = each x refl

  -- If each element of a list leads to allowed acts, so does the list; a test that all elements pass may be assumed.
  pub each-ok : {A : Type 0} (f : A → Acts) → ((x : A) → AreAllowed (f x)) → (xs : List A) → AreAllowed (for_each f xs)
  each-ok f each [] = tt
  each-ok f each (x ∷ xs) = (each x, each-ok f each xs)

  pub for_each-ok : {A : Type 0} (f : A → Acts) (test : A → Bool) → ((x : A) → test x ≡ true → AreAllowed (f x)) → (xs : List A) → list_all test xs ≡ true → AreAllowed (for_each f xs)
  for_each-ok f test each [] all = tt
  for_each-ok f test each (x ∷ xs) all =
      let parts = and_parts (test x) (list_all test xs) all in
      (each x parts.0, for_each-ok f test each xs parts.1)

  -- What follows from each of a core's objects, in index order, is allowed.
  pub in_turn-ok : {A : Type 0} (f : ℕ → A → Acts) (xs : List A) → ((n : ℕ) (x : A) → slice_get xs n ≡ Some x → AreAllowed (f n x)) → AreAllowed (in_turn f xs)
  in_turn-ok {A} f xs each = from 0 xs (λ n m x same at. let here : n ≡ m = omega (arith, same) in each m x (subst (λ k. slice_get xs k ≡ Some x) here at))
    where
      from : (k : ℕ) (ys : List A) → ((n m : ℕ) (x : A) → m ≡ n + k → slice_get ys n ≡ Some x → AreAllowed (f m x)) → AreAllowed (for_each (λ p. f p.0 p.1) (enumerate_from k ys))
      from k [] each = tt
      from k (y ∷ ys) each = (each 0 k y (omega arith) refl, from (k + 1) ys (λ n m x same at. each (suc n) m x (omega (arith, same)) at))

  -- What follows from the first of a chain of tables that has an entry is allowed.
  pub first-ok : (o : Option Acts) (others : Acts) → IfSome o AreAllowed → AreAllowed others → AreAllowed (unwrap_or o others)
  first-ok None others ok rest = rest
  first-ok (Some x) others ok rest = ok

  pub serves-ok : (r : Runner) (service : ServiceId) (x : Service) → IsNamed r → AreAllowed (effect_of x) → AreAllowed (serves r service x)
  serves-ok r service x n ok = (ok, returns-ok r service (answer_of x).status (answer_of x).value n)

  pub serves_own-ok : {A : Type 0} (r : Runner) (id : ServiceId) (make : A → Seen → Service) (named : Core → Option A) → IsNamed r → ((x : A) (s : Seen) → IsSeen l s → AreAllowed (make x s).effect) → AreAllowed (serves_own r id make named)
  serves_own-ok {A} r id make named n ok s seen = by (named s.core)
    where
      by : (o : Option A) → AreAllowed (serves_if r id (option_map (λ x. make x s) o))
      by None = returns-ok r id Status.EOsId None n
      by (Some x) = serves-ok r id (make x s) n (λ e. ok x s seen, λ e. tt)
