use Rattle.std.proofs.Common.{◌≡◌, take, vec_len}
use Rattle.osworld.specs.Playing.{PlaysTurns}
use Rattle.osworld.proofs.worlds.World.play.Given as goal

abbrev pub invariant-loop-turn : goal.invariant-loop-turn
invariant-loop-turn l =
    (l.self.config ≡ l.fn.self.config) × (l.self.reports ≡ l.fn.self.reports) × (vec_len l.self.core_runs ≡ vec_len l.fn.self.core_runs)
    × PlaysTurns (take l.turn-index l.turns) l.fn.self l.changed l.self
