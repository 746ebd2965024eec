-- The logs of worked examples.
use Rattle.std.specs.Prelude.{◌≡◌, ℕ, Option, Some, None, List, codes, slice_get}
use Rattle.osplan.specs.declared.plans.Plan.{Plan}
use Rattle.oslog.specs.Logs.{log_of_text}
use Rattle.osexamples.specs.Example.{Block, Example}

-- The block exists, and the text, read as a log, lists the block's items.
abbrev pub SaysBlock : Plan → List ℕ → Option Block → Type 0
SaysBlock plan text None = ⊥
SaysBlock plan text (Some block) = log_of_text plan text ≡ Some block.items

-- The text is a log of the items of core `n`.
abbrev pub SaysItems : Example → ℕ → List ℕ → Type 0
SaysItems e n text = SaysBlock e.plan text (slice_get e.blocks n)

-- The log of core 0 of one activation across the border.
abbrev pub activation_log : List ℕ
activation_log = codes "began 1 E_OK\nentered\npass1 M\nreadied\npass2 0 1\nstim op\npost 1\nin 1 0 rep E_OK\nstim op\ndrained\npassend\nlast\n"
