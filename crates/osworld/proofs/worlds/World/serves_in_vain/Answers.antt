use Rattle.std.proofs.Common.{◌∷◌, [], sym, ◌∙◌}
use Rattle.std.proofs.lemmas.Bool.{not-true}
use Rattle.osworld.proofs.Served.{unserved-played}
use Rattle.osworld.proofs.worlds.World.serves_in_vain.Goals as goal

pub returns-in-Serve : goal.returns-in-Serve
returns-in-Serve c passes stimuli w plays =
    rw (c.in-Serve.is)
    (unserved-played c.args.self.now.config.now stimuli w c.args.self.now.core_runs.items c.args.self.now.shared plays c.args.core (sym c.has_mail.ensures ∙ not-true c.has_mail.result passes) (c.in-Serve.field-0 ∷ []))
