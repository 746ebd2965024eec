use Rattle.std.proofs.Common.{rules, ◌≡◌, is_none, false}
use Rattle.oslog.proofs.Steps.{no-tail}
use Rattle.oslog.proofs.reading.with_tail.Goals as goal

pub returns-else-is_none : goal.returns-else-is_none
returns-else-is_none c =
    let some : is_none c.args.text ≡ false = search rules in
    no-tail c.args.names.now.config.now c.args.tail c.args.text c.args.parts c.in-Nothing.is some
