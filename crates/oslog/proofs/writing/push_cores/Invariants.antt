use Rattle.std.proofs.Common.{◌≡◌, ◌++◌, string_bytes}
use Rattle.oslog.specs.Items.{after_spaces}
use Rattle.oslog.proofs.Cores.{words_from}
use Rattle.oslog.proofs.writing.push_cores.Given as goal

abbrev pub invariant-loop-number : goal.invariant-loop-number
invariant-loop-number l =
    string_bytes l.text ≡ string_bytes l.initial.text ++ after_spaces (words_from l.cores 0 l.number)
