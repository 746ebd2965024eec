use Rattle.std.proofs.Common.{◌≡◌, take, vec_len}
use Rattle.std.specs.List.{flat_map}
use Rattle.osworld.specs.{Playing.PlaysTurns, Runs.turns_in_round}
use Rattle.osworld.proofs.worlds.World.play_round.Given as goal

abbrev pub invariant-loop-id : goal.invariant-loop-id
invariant-loop-id l =
    (l.self.config ≡ l.fn.self.config) × (l.self.reports ≡ l.fn.self.reports) × (vec_len l.self.core_runs ≡ vec_len l.fn.self.core_runs)
    × PlaysTurns (flat_map (turns_in_round l.ids) (take l.id-index l.ids)) l.fn.self l.changed l.self
