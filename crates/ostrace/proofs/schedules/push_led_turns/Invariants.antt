use Rattle.std.proofs.Common.{◌≡◌, ◌++◌, map, string_bytes, take}
use Rattle.ostrace_text.specs.Trace.{after_spaces}
use Rattle.ostrace.specs.Schedules.{turn_word}
use Rattle.ostrace.proofs.schedules.push_led_turns.Given as goal

abbrev pub invariant-loop-turn : goal.invariant-loop-turn
invariant-loop-turn l =
    string_bytes l.text ≡ string_bytes l.initial.text ++ after_spaces (map turn_word (take l.turn-index l.turns))
