use Rattle.std.proofs.Common.{◌≡◌, map, take, vec_len}
use Rattle.std.specs.List.{AllByRecursion}
use Rattle.osmail.specs.Rings.{AreBothDelivered, end_id, past_of}
use Rattle.osmail.proofs.rings.settle_each.Given as goal

abbrev pub invariant-loop-i : goal.invariant-loop-i
invariant-loop-i l =
    (vec_len l.others ≡ vec_len l.initial.others) × (end_id l.one ≡ end_id l.initial.one) × (past_of l.one ≡ past_of l.initial.one)
    × (map end_id l.others.items ≡ map end_id l.initial.others.items) × (map past_of l.others.items ≡ map past_of l.initial.others.items)
    × AllByRecursion (AreBothDelivered (past_of l.initial.one)) (take l.i (map past_of l.initial.others.items))
