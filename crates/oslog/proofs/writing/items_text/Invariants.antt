use Rattle.std.proofs.Common.{◌≡◌, string_bytes, take}
use Rattle.oslog.specs.Logs.{log_text}
use Rattle.oslog.proofs.writing.items_text.Given as goal

abbrev pub invariant-loop-item : goal.invariant-loop-item
invariant-loop-item l =
    string_bytes l.text ≡ log_text l.config (take l.item-index l.items)
