-- A walk over a text by its words. [own]
use Rattle.std.specs.Prelude.{ℕ, ◌≡◌, ◌<◌, ◌==◌, ◌+◌, Option, Some, None, option_map, List, [], ◌∷◌, length, take, drop, position}
use Rattle.std.specs.List.{slice_split}

-- A text's words, which spaces divide. The empty text has one word, the empty one.
abbrev pub words_in : List ℕ → List (List ℕ)
words_in text = slice_split (λ b. b == 32) text

-- The text before the first space, and the text after it. None if the text has no space.
abbrev pub cut_at_space : List ℕ → Option (List ℕ × List ℕ)
cut_at_space text = option_map (λ (end : ℕ). (take end text, drop (end + 1) text)) (position (λ b. b == 32) text)

-- A space ends the first word of a text. `meant` is what this word is read as, and `later` is the text that follows the
-- space.
pub record IsFirst {T : Type 0} (shape : List ℕ → Option T) (text : List ℕ) (meant : Option T) (later : List ℕ) : Type 0 where
  pub word : List ℕ
  pub words : words_in text ≡ word ∷ words_in later
  pub means : shape word ≡ meant
  pub shorter : length later < length text

-- A step of a walk by words. `Some` has what the first word is read as, and the text that follows its space. `None`
-- says that the text is one word.
abbrev pub IsStep : {T : Type 0} → (List ℕ → Option T) → List ℕ → Option (Option T × List ℕ) → Type 0
IsStep shape text (Some front) = IsFirst shape text front.0 front.1
IsStep shape text None = words_in text ≡ text ∷ []
