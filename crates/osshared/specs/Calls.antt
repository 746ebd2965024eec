-- What callers of shared words must give to make an object, call it and gather its seats, and what they get at first.
use Rattle.std.specs.Prelude.{◌≡◌, ℕ, ◌<◌, Option, Some, List, length, map}
use Rattle.osbase.specs.declared.references.CoreId.{CoreId}
use Rattle.osshared.specs.{declared.histories.Plan.Plan, Histories.Object, Views.IsStep}
use Rattle.osshared.specs.Seats.{AllApart, AllAt, Held, Place, cores_of, fresh}

-- An object can be made in these words: there is at least one word, the words stand for what the object is at first,
-- and no core is to have two seats.
pub record CanBegin {A S C R : Type 0} (o : Object A S C R) (model : S → List ℕ → Type 0) (plan : Plan A) (given : List ℕ) : Type 0 where
  pub words : 0 < length given
  pub cores : AllApart plan.cores
  pub stands : model (o.first plan.about) given

-- An object was made: by this plan, in as many words as were given, and with a seat for each core, from which no call
-- was made.
pub record HasBegun {A C R : Type 0} (plan : Plan A) (given : List ℕ) (p : Place A) (held : List (Held A C R)) : Type 0 where
  pub object : p.plan ≡ plan
  pub words : p.table.words ≡ length given
  pub seats : held ≡ map (λ c. fresh p c) plan.cores

-- The call may be made from the seat by a step that turns the word `index` from n into f n. It is the call that was
-- picked for the step. The seat and the word are of the object `p`. The step does to the words what the call does to
-- the object.
pub record MayCall {A S C R : Type 0} (o : Object A S C R) (stands : S → List ℕ → Type 0) (answer : CoreId → C → ℕ → R) (picked : Option C) (p : Place A) (seat : Held A C R) (index : ℕ) (call : C) (f : ℕ → ℕ) : Type 0 where
  pub asked : picked ≡ Some call
  pub place : seat.place ≡ p
  pub word : index < p.table.words
  pub step : IsStep o stands answer seat.core call index f

-- These are the seats of an object, one for each of its cores in their order.
pub record AreAllSeats {A C R : Type 0} (p : Place A) (seats : List (Held A C R)) : Type 0 where
  pub places : AllAt p seats
  pub cores : cores_of seats ≡ p.plan.cores
