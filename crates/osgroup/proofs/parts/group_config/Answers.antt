use Rattle.osgroup.proofs.Whole.{stays-representable, stays-whole}
use Rattle.osgroup.proofs.parts.group_config.Goals as goal

pub new-requires : goal.new-requires
new-requires c = record {
  limits = rw (c.in_ok-part.ensures, c.plan.ensures.value) (stays-whole c.args.config.now c.args.group c.plan.ensures.limits c.requires);
  representable = rw (c.in_ok-part.ensures, c.plan.ensures.value) (stays-representable c.args.config.now c.args.group c.plan.ensures.representable);
}
