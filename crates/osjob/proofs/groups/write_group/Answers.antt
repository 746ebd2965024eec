use Rattle.std.proofs.Common.{◌++◌, filter}
use Rattle.std.specs.List.{flat_map}
use Rattle.osbase.specs.Sets.{core_ids, has_core}
use Rattle.ostrace_text.specs.Trace.{line_end}
use Rattle.ostrace.proofs.Writing.{Writes-begun, Writes-then, Wrote-all}
use Rattle.osjob.specs.Groups.{group_head, number_word}
use Rattle.osjob.proofs.Grouping.{is_line}
use Rattle.osjob.proofs.groups.write_group.Goals as goal

pub returns-in_err-write_head : goal.returns-in_err-write_head
returns-in_err-write_head g c =
    let numbers = flat_map number_word (filter (has_core c.least_group-group.result) core_ids) in
    rw (← is_line c.args.config.now c.args.core (has_core c.least_group-group.result) c.least_group-group.ensures.members)
    (Writes-begun _ _ _ _ (group_head c.args.core) (numbers ++ line_end) _ _ c.from_residual.ensures.0 c.in_err-write_head.ensures)

pub returns-in_err-write_members : goal.returns-in_err-write_members
returns-in_err-write_members g c =
    let numbers = flat_map number_word (filter (has_core c.least_group-group.result) core_ids) in
    rw (← is_line c.args.config.now c.args.core (has_core c.least_group-group.result) c.least_group-group.ensures.members)
    (Writes-then _ _ _ _ _ (group_head c.args.core) (numbers ++ line_end) _ (Wrote-all _ _ _ _ _ _ c.in_ok-write_head.ensures)
    (Writes-begun _ _ _ _ numbers line_end _ _ c.from_residual-in_err-write_members.ensures.0 c.in_err-write_members.ensures))

pub returns : goal.returns
returns g c =
    let numbers = flat_map number_word (filter (has_core c.least_group-group.result) core_ids) in
    rw (← is_line c.args.config.now c.args.core (has_core c.least_group-group.result) c.least_group-group.ensures.members)
    (Writes-then _ _ _ _ _ (group_head c.args.core) (numbers ++ line_end) _ (Wrote-all _ _ _ _ _ _ c.in_ok-write_head.ensures)
    (Writes-then _ _ _ _ _ numbers line_end _ (Wrote-all _ _ _ _ _ _ c.in_ok-write_members.ensures) c.write_all.ensures))
