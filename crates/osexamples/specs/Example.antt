-- What a worked example is, and what is proved of each.
use Rattle.std.specs.Prelude.{◌≡◌, ℕ, suc, not, IsTrue, Option, Some, None, option_map, List, [], ◌∷◌, slice_get}
use Rattle.osbase.specs.{declared.references.CoreId.CoreId, declared.items.Item.Item, declared.marks.Mark.Mark, declared.turns.CoreStimuli.CoreStimuli, History.marks_of}
use Rattle.osplan.specs.{declared.plans.Plan.Plan, View.view_of}
use Rattle.oskernel.specs.Step.{solo}
use Rattle.osworld.specs.{Runs.default_turns, Runs.is_default, Runs.is_over, World.world}

-- What is said of one core: the items that it takes, and the marks that it prints.
pub record Block : Type 0 where
  pub items : List Item
  pub marks : List Mark

-- A configuration, the stimuli of a run, and each core's block, in the order of the core numbers.
pub record Example : Type 0 where
  pub plan : Plan
  pub stimuli : List CoreStimuli
  pub blocks : List Block

abbrev pub core : ℕ → CoreId
core n = record { number = n }

-- The marks that core `n` alone prints for these items; none if one of them may not be taken in its turn.
abbrev pub marks_alone : Plan → ℕ → List Item → Option (List Mark)
marks_alone plan n items = option_map marks_of (solo (view_of plan (core n)) items)

-- The block exists, and the core alone prints the block's marks for the block's items.
abbrev pub PrintsBlock : Plan → ℕ → Option Block → Type 0
PrintsBlock plan n None = ⊥
PrintsBlock plan n (Some b) = marks_alone plan n b.items ≡ Some b.marks

-- Core `n` prints the marks of its block for the items of the block.
abbrev pub Prints : Example → ℕ → Type 0
Prints e n = PrintsBlock e.plan n (slice_get e.blocks n)

-- The default schedule of the example has this many rounds.
abbrev pub HasRounds : Example → ℕ → Type 0
HasRounds e rounds = IsTrue (is_default e.plan e.stimuli rounds)

-- The cores from this number on, each with the items of its block.
abbrev pub items_from : ℕ → List Block → List (CoreId × List Item)
items_from n [] = []
items_from n (b ∷ bs) = (core n, b.items) ∷ items_from (suc n) bs

-- In this many rounds of the default schedule, each core takes just the items of its block.
abbrev pub TakesItems : Example → ℕ → Type 0
TakesItems e rounds = (world e.plan e.stimuli (default_turns e.plan rounds)).items ≡ items_from 0 e.blocks

-- After this many rounds of the default schedule, some started core has not ended.
abbrev pub Stalls : Example → ℕ → Type 0
Stalls e rounds = IsTrue (not (is_over e.plan (world e.plan e.stimuli (default_turns e.plan rounds))))
