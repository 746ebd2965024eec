-- What holds of every history, and of every operation.
use Rattle.std.specs.Prelude.{Bool, true, false, ◌&&◌, ◌||◌, nat_lt, not, is_some, List, [], ◌∷◌}
use Rattle.std.specs.List.{list_all}
use Rattle.osbase.specs.{declared.histories.Job.Job, declared.references.Runner.Runner}
use Rattle.oscript.specs.{declared.Op.Op, Calls.call_of_op}
use Rattle.osacts.specs.Acts.{Acts, nothing}
use Rattle.oskernel.specs.Operations.{acts_alone}

-- Each job has a smaller stamp than those behind it. So the first of greatest priority is also the one that was
-- activated first. [OSEK/VDX OS 2.2.3, section 4.6]
abbrev pub are_ascending : List Job → Bool
are_ascending [] = true
are_ascending (j ∷ js) = list_all (λ (k : Job). nat_lt j.stamp k.stamp) js && are_ascending js

-- No act is to be done.
abbrev pub is_nothing : Acts → Bool
is_nothing nothing = true
is_nothing acts = false

-- The operation is a call, such as ActivateTask, or the table of a family of services has it. Else its job would never
-- get past it. [own]
abbrev pub does_something : Runner → Op → Bool
does_something r op = is_some (call_of_op op) || not (is_nothing (acts_alone r op))
