use Rattle.std.proofs.Common.{◌≡◌, ◌++◌, map, string_bytes, take}
use Rattle.oslog.specs.{Items.after_spaces, Words.word_text}
use Rattle.oslog.proofs.writing.push_words.Given as goal

abbrev pub invariant-loop-kind : goal.invariant-loop-kind
invariant-loop-kind l =
    string_bytes l.text ≡ string_bytes l.initial.text ++ after_spaces (map (word_text l.plan l.parts) (take l.kind-index l.kinds))
