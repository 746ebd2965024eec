use Rattle.std.proofs.Common.{◌≡◌, take}
use Rattle.std.specs.List.{flat_map}
use Rattle.osworld.specs.Runs.{turns_in_round}
use Rattle.osworld.proofs.runs.round_of.Given as goal

abbrev pub invariant-loop-id : goal.invariant-loop-id
invariant-loop-id l = l.round.items ≡ flat_map (turns_in_round l.ids) (take l.id-index l.ids)
