use Rattle.std.proofs.Common.{◌≡◌, take, vec_len}
use Rattle.osworld.specs.{Playing.PlaysTurns, Runs.serves_of}
use Rattle.osworld.proofs.worlds.World.serve_all.Given as goal

abbrev pub invariant-loop-other : goal.invariant-loop-other
invariant-loop-other l =
    (l.self.config ≡ l.fn.self.config) × (l.self.reports ≡ l.fn.self.reports) × (vec_len l.self.core_runs ≡ vec_len l.fn.self.core_runs)
    × PlaysTurns (serves_of (take l.other-index l.ids) l.id) l.fn.self l.changed l.self
