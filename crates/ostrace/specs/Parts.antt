-- Parts of blocks, and texts of them that are made in memory before they are written.
use Rattle.std.specs.Prelude.{◌≡◌, ◌<◌, ◌*◌, ℕ, if◌then◌else◌, List, [], ◌++◌, Option, IfSome, Vec, drop, length, slice_index_or, take}
use Rattle.std.specs.List.{flat_map}
use Rattle.std.specs.declared.alloc.Global.{Global}
use Rattle.ostrace_text.specs.Trace.{line_end, lines_of, title_of}
use Rattle.ostrace.specs.declared.parts.Part.{Part}

-- The text before the lines of a part: if the part has its block's first lines, the title of the block; else none.
-- [own]
abbrev pub title_before : Part → List ℕ
title_before part = if part.is_first then title_of part.core ++ line_end else []

-- The text of a part: the title of its block, if the part has the block's first lines, and a line for each mark. [own]
abbrev pub part_text : Part → List ℕ
part_text part = title_before part ++ lines_of part.plan.now part.marks.now

-- The texts of parts one after another. [own]
abbrev pub parts_text : List Part → List ℕ
parts_text parts = flat_map part_text parts

-- The parts of the round at this place, where each round has `size` parts. [own]
abbrev pub round_of : List Part → ℕ → ℕ → List Part
round_of parts size at = take size (drop (at * size) parts)

-- Each text that was made is that of the part at its place. [own]
abbrev pub AreMade : List Part → List (Option (Vec ℕ Global)) → Type 0
AreMade parts texts = (i : ℕ) (none : Option (Vec ℕ Global)) (nobody : Part) → i < length texts → IfSome (slice_index_or texts i none) (λ text. text.items ≡ part_text (slice_index_or parts i nobody))
