-- A command with one more subcommand.
use Rattle.std.proofs.Common.{Bool, ap, ap₂, true, false, not, refl, ◌&&◌, ◌≡◌, ◌∙◌}
use Rattle.clap.specs.declared.builder.command.Command.{Command}
use Rattle.clap.specs.Words.{AddsSubcommand, App, app_of, with_subcommand}

-- A plain command has no global argument.
local : (groups external globals others : Bool) → (groups && (external && (not globals && others))) ≡ true → globals ≡ false
local true true false others e = refl
local false external globals others e = cc
local true false globals others e = cc
local true true true others e = cc

-- The rules of a command to which a subcommand is added.
pub joined : (old sub new : Command) (above below : App) → AddsSubcommand old sub new → below.top.is_plain ≡ true → app_of old ≡ above → app_of sub ≡ below → app_of new ≡ with_subcommand above below.top
joined old sub new above below added plain is_above is_below =
    added.shape (local _ _ _ _ (ap (λ (a : App). a.top.is_plain) is_below ∙ plain)) ∙ ap₂ with_subcommand is_above (ap (λ (a : App). a.top) is_below)
