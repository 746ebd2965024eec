use Rattle.std.proofs.Common.{◌∙◌, rules}
use Rattle.osqueue.proofs.Bits.{changed-others}
use Rattle.osjobs.proofs.Keeping.{no-holder}
use Rattle.osjobs.proofs.jobs.without_free.Goals as goal

pub returns-then-is_free : goal.returns-then-is_free
returns-then-is_free c = no-holder c.args.runner c.args.rows.now c.args.holders c.unmarked.result c.requires (search rules) (λ k apart. changed-others c.args.holders c.unmarked.result _ 0 c.unmarked.ensures.bits k (λ e. apart (e ∙ c.slot-place.ensures)))
