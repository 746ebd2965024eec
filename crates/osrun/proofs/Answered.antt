-- The calls whose answers result in the items of cores.
use Rattle.std.proofs.Common.{◌≡◌, false, List, [], ◌∷◌, ◌++◌, refl, sym, arith, append_assoc, append-nil}
use Rattle.osbase.specs.{declared.references.CoreId.CoreId, declared.items.Item.Item, History.History, History.same_core}
use Rattle.osplan.specs.View.{View}
use Rattle.oskernel.specs.Step.{after, history_from}
use Rattle.osshared.proofs.Steps.{calls_by-append}
use Rattle.osrun.specs.{declared.requests.Request.Request, declared.requests.Reply.Reply, Fits.AreAnswered, Fits.ResultsIn}
use Rattle.osrun.specs.Requests.{Calls, calls_of, joined, no_calls, call_of_turn}

pub joined-none : (a : Calls) → joined a no_calls ≡ a
joined-none a = simp append-nil

joined-joined : (a b c : Calls) → joined (joined a b) c ≡ joined a (joined b c)
joined-joined a b c = simp append_assoc

pub calls_of-joined : (id : CoreId) (a b : Calls) → calls_of id (joined a b) ≡ joined (calls_of id a) (calls_of id b)
calls_of-joined id a b = simp calls_by-append

-- One more item of a core, and its call.
pub answered-push : (v : View) (h : History) (is : List Item) (es : Calls) (request : Request) (answer : Reply) (i : Item) → AreAnswered v h is es → ResultsIn v (history_from v h is) request answer i → AreAnswered v h (is ++ i ∷ []) (joined es (call_of_turn v.core request answer))
answered-push v h [] es request answer i none leads = (request, answer, leads, no_calls, rw none (sym (joined-none (call_of_turn v.core request answer))), refl)
answered-push v h (j ∷ is) es request answer i all leads = (
  all.0,
  all.1,
  all.2,
  joined all.3 (call_of_turn v.core request answer),
  rw all.4 (joined-joined (call_of_turn v.core all.0 all.1) all.3 (call_of_turn v.core request answer)),
  answered-push v (after v h j) is all.3 request answer i all.5 leads,
)

-- The call of a turn is of the core whose turn it is.
pub told-own : (core : CoreId) (request : Request) (answer : Reply) → calls_of core (call_of_turn core request answer) ≡ call_of_turn core request answer
told-own core request answer = grind arith

pub told-other : (id core : CoreId) (request : Request) (answer : Reply) → same_core core id ≡ false → calls_of id (call_of_turn core request answer) ≡ no_calls
told-other id core request answer other = grind arith
