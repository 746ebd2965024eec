-- A list that has each key once: the list without one key, and the list without several keys.
use Rattle.std.proofs.Common.{◌≡◌, ◌≢◌, ◌⊎◌, ◌&&◌, Bool, true, false, not, cond, List, [], ◌∷◌, map, refl, ◌∙◌, arith}
use Rattle.std.specs.{Bool.⊤, List.list_any}

-- What distinguishes one key from another, and a list without the first element of a key.
pub record Keyed (A K : Type 0) : Type 0 where
  pub key : A → K
  pub same : K → K → Bool
  pub tells : (a b : K) → ((same a b ≡ true) × (a ≡ b)) ⊎ ((same a b ≡ false) × (a ≢ b))
  pub without : K → List A → List A
  pub without_none : (k : K) → without k [] ≡ []
  pub without_front : (k : K) (x : A) (xs : List A) → without k (x ∷ xs) ≡ cond (same (key x) k) xs (x ∷ without k xs)

module _ {A K : Type 0} (d : Keyed A K) where
  abbrev pub is_in : K → List A → Bool
  is_in k xs = list_any (λ (x : A). d.same (d.key x) k) xs

  abbrev pub Apart : List A → Type 0
  Apart [] = ⊤
  Apart (x ∷ xs) = (is_in (d.key x) xs ≡ false) × Apart xs

  -- The keys of a list that are none of these.
  abbrev pub outside : List K → List A → List K
  outside ks [] = []
  outside ks (x ∷ xs) = cond (list_any (d.same (d.key x)) ks) (outside ks xs) (d.key x ∷ outside ks xs)

  less : (m k : K) (xs : List A) → is_in m xs ≡ false → is_in m (d.without k xs) ≡ false
  less m k [] none = rw d.without_none refl
  less m k (x ∷ xs) none = grind (arith, d.without_front, less m k xs, none)

  pub apart-without : (k : K) (xs : List A) → Apart xs → Apart (d.without k xs)
  apart-without k [] apart = rw d.without_none tt
  apart-without k (x ∷ xs) apart = grind (arith, d.without_front k x xs, apart-without k xs, less (d.key x) k xs, apart)

  pub in-without : (k l : K) (xs : List A) → Apart xs → is_in l (d.without k xs) ≡ (not (d.same k l) && is_in l xs)
  in-without k l [] apart = grind (arith, d.without_none)
  in-without k l (x ∷ xs) apart = grind (arith, d.tells, d.without_front, in-without k l xs, apart)

  absent : (k : K) (ks : List K) (xs : List A) → is_in k xs ≡ false → outside ks xs ≡ outside (k ∷ ks) xs
  absent k ks [] none = refl
  absent k ks (x ∷ xs) none = grind (arith, absent k ks xs, none)

  pub outside-without : (k : K) (ks : List K) (xs : List A) → Apart xs → outside ks (d.without k xs) ≡ outside (k ∷ ks) xs
  outside-without k ks [] apart = rw d.without_none refl
  outside-without k ks (x ∷ xs) apart = grind (arith, d.tells, d.without_front, outside-without k ks xs, absent k ks xs, apart)

  pub outside-none : (xs : List A) → outside [] xs ≡ map d.key xs
  outside-none [] = refl
  outside-none (x ∷ xs) = cc (outside-none xs)

  -- A change that keeps the keys changes none of this.
  module _ (f : A → A) (keeps : (x : A) → d.key (f x) ≡ d.key x) where
    pub in-map : (k : K) (xs : List A) → is_in k (map f xs) ≡ is_in k xs
    in-map k [] = refl
    in-map k (x ∷ xs) = rw (keeps x, in-map k xs) refl

    pub apart-map : (xs : List A) → Apart xs → Apart (map f xs)
    apart-map [] apart = tt
    apart-map (x ∷ xs) apart = ((λ i. is_in (keeps x i) (map f xs)) ∙ in-map (d.key x) xs ∙ apart.0, apart-map xs apart.1)

    pub outside-map : (ks : List K) (xs : List A) → outside ks (map f xs) ≡ outside ks xs
    outside-map ks [] = refl
    outside-map ks (x ∷ xs) = rw (keeps x, outside-map ks xs) refl
