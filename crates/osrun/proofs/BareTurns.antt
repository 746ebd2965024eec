-- If a turn of a core results in an item that a core without objects takes, it also does so without the core's objects.
use Rattle.std.proofs.Common.{◌≡◌, Bool, true, false, Some, None, List, [], ◌∷◌, refl, ap, arith}
use Rattle.osbase.specs.{declared.references.CoreId.CoreId, declared.items.Item.Item, declared.turns.Choice.Choice, History.History}
use Rattle.osplan.specs.View.{View}
use Rattle.osstate.specs.State.{state_of}
use Rattle.osadmit.specs.Admission.{admits, has_asked_halt}
use Rattle.oskernel.specs.{Step.after, Step.history_from, Step.outbox_size, Step.solo_from, Wants.watch_of, declared.wants.Watch.Watch}
use Rattle.oskernel.proofs.{Carried.NamesAllow, Opened.Asks, Opened.asks-after, Scripts.but_halt, Stages.solo-parts, Stages.stage}
use Rattle.osrun.specs.{declared.requests.Request.Request, declared.requests.Reply.Reply, Fits.AreAnswered, Fits.ResultsIn, Groups.is_bare_item}
use Rattle.osrun.specs.Requests.{Calls, item_by, call_of_turn}
use Rattle.osrun.proofs.Asked.{asks-none}
use Rattle.osrun.proofs.Bare.{Alike, bare, bare-mail, bare_items, keeps, looks-halt, skips, takes-bare}
use Rattle.osrun.proofs.Sane.{never-asked}

-- A reply of the board results only in items that a core without objects takes; a reply of a spinlock never does.
no-board : (id core : CoreId) (w : Watch) (request : Request) (answer : Reply) (i : Item) → item_by id w request answer ≡ Some i → is_bare_item i ≡ false → (call_of_turn core request answer).board ≡ []
no-board id core w request answer i e b = grind arith

no-spins : (id core : CoreId) (w : Watch) (request : Request) (answer : Reply) (i : Item) → item_by id w request answer ≡ Some i → is_bare_item i ≡ true → (call_of_turn core request answer).spins ≡ []
no-spins id core w request answer i e b = grind arith

module _ (v : View) (h k : History) (a : Alike v h k) (never : has_asked_halt (state_of v h) ≡ false) (request : Request) (answer : Reply) where
  -- Without its objects, the core drains by its own turn, is halted by a look, and makes any other turn as before.
  led : (i : Item) → is_bare_item i ≡ true → ResultsIn v h request answer i → admits outbox_size (state_of v h) i ≡ true → ResultsIn (bare v) k request answer i
  led Item.Drained b leads may = record {
    choice = Choice.Own;
    next = None;
    asks = grind (arith, leads.names, stage v h Item.Drained refl may, a.phase, a.calm.closed, a.calm.none_got, a.calm.empty);
    names = grind (arith, leads.names);
  }
  led (Item.Halt core status) b leads may =
      let unasked = asks-none v (state_of v h) leads.next leads.choice request never leads.asks in
      let live = stage v h (Item.Halt core status) refl may in
      record {
        choice = Choice.Look;
        next = None;
        asks = grind (arith, leads.names, unasked, live, a.phase, looks-halt v h k a never, may);
        names = grind (arith, leads.names, unasked, live, a.phase, looks-halt v h k a never, may);
      }
  led i b leads may = record {
    choice = leads.choice;
    next = leads.next;
    asks = grind (arith, leads.asks, leads.names, stage v h i (bare-mail i b) may, a.phase, a.began);
    names = grind (arith, leads.names, stage v h i (bare-mail i b) may, a.phase, a.started);
  }

-- ---- all its items

module _ (v : View) where
  abbrev pub no_spins : Calls → Calls
  no_spins calls = record { board = calls.board; spins = [] }

  -- Each item that a core without objects takes may be taken in turn, and results from a reply.
  pub record IsBare (k : History) (items : List Item) (calls : Calls) : Type 0 where
    pub each : solo_from (bare v) k (bare_items items) ≡ Some (history_from (bare v) k (bare_items items))
    pub answers : AreAnswered (bare v) k (bare_items items) (no_spins calls)

  -- If no script of the core shuts all cores down, this holds of all its items.
  pub all-bare : NamesAllow v but_halt → (items : List Item) (h k : History) (calls : Calls) → Alike v h k → Asks but_halt h → solo_from v h items ≡ Some (history_from v h items) → AreAnswered v h items calls → IsBare k items calls
  all-bare unhalted [] h k calls a never each none = record { each = refl; answers = ap no_spins none }
  all-bare unhalted (i ∷ is) h k calls a never each all =
      let turn = solo-parts v h i is each in
      by (is_bare_item i) refl (λ l x. all-bare unhalted is (after v h i) l all.3 x (asks-after but_halt v unhalted h i never) turn.1 all.5)
    where
      by : (b : Bool) → is_bare_item i ≡ b → ((l : History) → Alike v (after v h i) l → IsBare l is all.3) → IsBare k (i ∷ is) calls
      by true e rest = record {
        each = rw (e, takes-bare v h k i is e a (never-asked v h never) each) (rest (after (bare v) k i) (keeps v h k i e a)).each;
        answers = rw (e, all.4) (
          all.0,
          all.1,
          led v h k a (never-asked v h never) all.0 all.1 i e all.2 (solo-parts v h i is each).0,
          no_spins all.3,
          rw (no-spins v.core v.core (watch_of v h) all.0 all.1 i all.2.names e) refl,
          (rest (after (bare v) k i) (keeps v h k i e a)).answers,
        );
      }
      by false e rest = record {
        each = rw e (rest k (skips v h k i e a)).each;
        answers = rw (e, all.4, no-board v.core v.core (watch_of v h) all.0 all.1 i all.2.names e) (rest k (skips v h k i e a)).answers;
      }
