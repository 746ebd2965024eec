-- How a text's parts are read: a chain of steps; each may find nothing that fits.
use Rattle.std.specs.Prelude.{◌≡◌, ◌==◌, nat_le, ℕ, Bool, Option, Some, None, option_and_then, option_map, if◌then◌else◌, List, [], ◌∷◌, length, Result, Ok, Err}
use Rattle.std.specs.{Borrow.Bor, List.slice_split}
use Rattle.osjson.specs.{declared.refusals.Refusal.Refusal, declared.refusals.Refusal.TheVariants.OutOfMemory, declared.refusals.Refusal.TheVariants.Unfit}

-- What the step `f` finds in what an earlier step found. None if `o`, the earlier step's result, is None, or `f` finds
-- nothing.
infixl 10 ◌>>=◌
abbrev pub ◌>>=◌ : {A B : Type 0} → Option A → (A → Option B) → Option B
o >>= f = option_and_then f o

-- What a refusal says of the definition's value `read`: nothing if memory ran out; otherwise that there is none.
abbrev pub Refuses : {Y : Type 0} → Refusal → Option Y → Type 0
Refuses OutOfMemory read = Unit {0}
Refuses Unfit read = read ≡ None

-- If a step of the code succeeds, the definition's value `read` is the view of the step's result. If it refuses, the
-- definition has no value, unless memory ran out.
abbrev pub Gives : {X Y : Type 0} → (X → Y) → Result X Refusal → Option Y → Type 0
Gives view (Ok x) read = read ≡ Some (view x)
Gives view (Err e) read = Refuses e read

-- The value, if the test passes; else None. [own]
abbrev pub value_if : {X : Type 0} → Bool → X → Option X
value_if b x = if b then Some x else None

-- What each element is read as. None if one of them is not read.
abbrev pub each : {X Y : Type 0} → (X → Option Y) → List X → Option (List Y)
each f [] = Some []
each f (x ∷ xs) = option_and_then (λ y. option_map (λ ys. y ∷ ys) (each f xs)) (f x)

-- What each element is read as. None if one of them is not read, or if there are more than `most`.
abbrev pub each_of_few : {X Y : Type 0} → ℕ → (X → Option Y) → List X → Option (List Y)
each_of_few most f xs = if nat_le (length xs) most then each f xs else None

-- The parts of a text between separators of one byte. The empty text has no part. [own]
abbrev pub parts_of : ℕ → List ℕ → List (List ℕ)
parts_of separator text = if length text == 0 then [] else slice_split (λ b. b == separator) text

-- The parts of the text that follows a separator: none if there is no separator. An empty text that follows one is an
-- empty part. [own]
abbrev pub later_parts : ℕ → Option (Bor (List ℕ)) → List (List ℕ)
later_parts separator None = []
later_parts separator (Some rest) = slice_split (λ b. b == separator) rest.now
