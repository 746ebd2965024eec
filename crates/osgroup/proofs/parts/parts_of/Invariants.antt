use Rattle.std.proofs.Common.{◌≡◌, map, take}
use Rattle.osgroup.specs.Groups.{part_of}
use Rattle.osgroup.proofs.parts.parts_of.Given as goal

abbrev pub invariant-loop-core : goal.invariant-loop-core
invariant-loop-core l = l.parts ≡ map (part_of l.group) (take l.core-index l.plan.cores)
