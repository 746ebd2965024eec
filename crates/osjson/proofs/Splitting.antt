-- Reading a limited number of elements.
use Rattle.std.proofs.Common.{◌≡◌, ℕ, suc, ◌+◌, ◌<◌, ◌≤◌, List, [], ◌∷◌, length, Option, Some, None, option_map, option_and_then, refl, arith, length-append}
use Rattle.std.proofs.lemmas.Bool.Decides.{nat_tests}
use Rattle.osjson.specs.Reading.{each, each_of_few}
use Rattle.osjson.proofs.Each.{with_front}

module _ {X Y : Type 0} (f : X → Option Y) where
  one-more : (read : Option Y) (later : Option (List Y)) (n : ℕ) → option_map length later ≡ option_map (λ ys. n) later
      → option_map length (option_and_then (λ y. option_map (λ ys. y ∷ ys) later) read) ≡ option_map (λ ys. suc n) (option_and_then (λ y. option_map (λ ys. y ∷ ys) later) read)
  one-more read later n e = grind arith

  -- if all are read, as many are read as the list has
  each-length : (xs : List X) → option_map length (each f xs) ≡ option_map (λ ys. length xs) (each f xs)
  each-length [] = refl
  each-length (x ∷ xs) = one-more (f x) (each f xs) (length xs) (each-length xs)

  -- if all were read, and they are few, they are what is read
  pub few-read : (most : ℕ) (xs : List X) (ys : List Y) → each f xs ≡ Some ys → length ys ≤ most → each_of_few most f xs ≡ Some ys
  few-read most xs ys e few = grind (arith, nat_tests, each-length xs)

  -- nothing is read if one element has no reading,
  pub none-read : (most : ℕ) (xs : List X) → each f xs ≡ None → each_of_few most f xs ≡ None
  none-read most xs e = grind arith

  -- or if as many as allowed were read and more are left
  pub over-read : (front : List Y) (xs parts : List X) → 0 < length parts → with_front front (each f parts) ≡ each f xs → each_of_few (length front) f xs ≡ None
  over-read front xs parts some read = grind (arith, nat_tests, length-append, each-length xs, each-length parts)
