-- Each call of a spinlock that resulted in an item of a core is for a spinlock that the core may ask for.
use Rattle.std.proofs.Common.{◌≡◌, Bool, true, Option, Some, List, [], ◌∷◌, refl, arith}
use Rattle.std.specs.List.{list_all}
use Rattle.std.proofs.lemmas.List.Folds.{list_all-append}
use Rattle.osbase.specs.{declared.items.Item.Item, declared.items.Stimulus.Stimulus, declared.turns.Choice.Choice, History.History}
use Rattle.osplan.specs.View.{View}
use Rattle.osservice.proofs.Partners.{Partner}
use Rattle.oskernel.specs.{declared.wants.SpinWish.SpinWish, declared.wants.Want.Want, declared.wants.Watch.Watch, Step.after, Step.history_from, Step.solo_from, Wants.want_of, Wants.watch_of}
use Rattle.oskernel.proofs.{Carried.NamesAllow, Locked.Got, Locked.got-after, Locked.wish-asked, Opened.Asks, Opened.asks-after, Stages.solo-parts}
use Rattle.osspin.specs.Spins.{SpinEntry}
use Rattle.osrun.specs.{declared.requests.Request.Request, declared.requests.Request.TheVariants.OfSpins, declared.requests.Reply.Reply, declared.requests.Reply.TheVariants.Spun, Fits.AreAnswered, Fits.ResultsIn}
use Rattle.osrun.specs.Requests.{Calls, request_by, call_of_turn}

-- A turn asks a spinlock only for what the core wants.
asks-wish : (v : View) (want : Want) (watch : Watch) (next : Option Stimulus) (choice : Choice) (wish : SpinWish) → request_by v want watch next choice ≡ Some (OfSpins wish) → want ≡ Want.Spin wish
asks-wish v want watch next choice wish e = grind arith

module _ (v : View) (may : Partner → Bool) (allowed : NamesAllow v may) where
  abbrev are_asked : List SpinEntry → Bool
  are_asked log = list_all (λ (e : SpinEntry). may (Partner.Spinlock e.call.lock)) log

  told-asked : (h : History) (request : Request) (answer : Reply) (i : Item) → Asks may h → Got may h → ResultsIn v h request answer i → are_asked (call_of_turn v.core request answer).spins ≡ true
  told-asked h (OfSpins wish) (Spun reply) i asks got leads =
      grind (arith, wish-asked may v h wish asks got (asks-wish v (want_of v h) (watch_of v h) leads.next leads.choice wish leads.asks))
  told-asked h request answer i asks got leads = grind arith

  pub calls-asked : (items : List Item) (h : History) (calls : Calls) → Asks may h → Got may h → solo_from v h items ≡ Some (history_from v h items) → AreAnswered v h items calls → list_all (λ (e : SpinEntry). may (Partner.Spinlock e.call.lock)) calls.spins ≡ true
  calls-asked [] h calls asks got each none = rw none refl
  calls-asked (i ∷ is) h calls asks got each answers =
      let turn = solo-parts v h i is each in
      let rest = calls-asked is (after v h i) answers.3 (asks-after may v allowed h i asks) (got-after may v allowed h i turn.0 asks got) turn.1 answers.5 in
      let both = list_all-append (λ (e : SpinEntry). may (Partner.Spinlock e.call.lock)) (call_of_turn v.core answers.0 answers.1).spins answers.3.spins in
      rw answers.4 (grind (arith, both, told-asked h answers.0 answers.1 i asks got answers.2, rest))
