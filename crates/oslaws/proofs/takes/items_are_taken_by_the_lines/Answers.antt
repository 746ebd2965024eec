use Rattle.std.proofs.Common.{◌&&◌, ◌^◌, nat_lt, Bool, ap}
use Rattle.osbase.specs.History.{item_count}
use Rattle.oslaws.proofs.Lines.{lines}
use Rattle.oslaws.proofs.takes.items_are_taken_by_the_lines.Goals as goal

pub returns : goal.returns
returns c = (λ places v h item. record { may = ap (λ (b : Bool). nat_lt (item_count h) (2 ^ 48) && b) (lines places v h item) })
