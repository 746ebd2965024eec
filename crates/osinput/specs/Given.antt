-- The stimuli and the schedule that texts mean for a configuration, and the faults that they have. [own]
use Rattle.std.specs.Prelude.{ℕ, ◌==◌, nat_le, Bool, true, not, is_some, Option, Some, None, option_and_then, unwrap_or, if◌then◌else◌, false, List, [], ◌∷◌, length, map, find, option_map, take, drop, position, codes}
use Rattle.std.specs.{Char.is_ascii_digit, Option.option_map_or, List.list_all, Str.bytes_eq}
use Rattle.osbase.specs.{Sets.numbers_from, declared.limits.TheConstants.ISRS, declared.references.CoreId.CoreId, declared.references.IsrRef.IsrRef, declared.items.Stimulus.Stimulus, declared.items.Stimulus.TheVariants.Op, declared.items.Stimulus.TheVariants.Tick, declared.items.Stimulus.TheVariants.Irq, declared.turns.CoreStimuli.CoreStimuli, declared.turns.Choice.Choice, declared.turns.Choice.TheVariants.Own, declared.turns.Choice.TheVariants.Serve, declared.turns.Choice.TheVariants.Look}
use Rattle.osplan.specs.{declared.plans.Core.Core, declared.plans.Isr.Isr, declared.plans.Plan.Plan, View.core_of, View.own_isr, declared.faults.ConfFault.ConfFault, Fault.Tests, Fault.failing, Fault.if_faultless}
use Rattle.serde_json.specs.{Data.Data, Read.read, Find.as_str, Find.as_object}
use Rattle.osplan.specs.declared.faults.ConfFault.TheVariants.{NotJson, Limit, BadStimulus, BadSchedule}
use Rattle.osinput.specs.Word.{core_number}
use Rattle.osjson.specs.{Reading.◌>>=◌, Reading.each, Reading.parts_of, Json.entries}

-- The configured core that these digits name, if there is one.
abbrev pub core_named : Plan → List ℕ → Option Core
core_named plan digits = do
  number ← core_number digits
  core_of plan (record { number = number })

-- ---- stimuli: an object from core numbers to words

-- The ISR is one of the core's own, and has this name.
abbrev pub is_isr_named : Core → List ℕ → IsrRef → Bool
is_isr_named core name isr = option_map_or (λ (own : Isr). bytes_eq own.name name) (own_isr core isr) false

-- The core's ISR of this name, if there is one.
abbrev pub isr_named : Core → List ℕ → Option IsrRef
isr_named core name = find (is_isr_named core name) (map (λ (index : ℕ). record { core = core.id; index = index }) (numbers_from 0 ISRS))

-- The stimulus that a word means to a core: `op`, `tick`, or `irq=` and the name of one of the core's ISRs. Any other
-- word means none.
abbrev pub stimulus_of : Core → List ℕ → Option Stimulus
stimulus_of core word =
    if bytes_eq word (codes "op") then Some Op
    else (if bytes_eq word (codes "tick") then Some Tick
    else (if bytes_eq (take 4 word) (codes "irq=") then option_map Irq (isr_named core (drop 4 word)) else None))

-- The stimuli that the words of a text mean to a core. None if one of the words means none.
abbrev pub stimuli_of_words : Core → List ℕ → Option (List Stimulus)
stimuli_of_words core text = each (stimulus_of core) (parts_of 32 text)

-- The stimuli of one core: the entry has the core's number, and a text of words. None if the core is not configured,
-- the entry has no text, or a word means no stimulus.
unfoldable pub core_stimuli_of : Plan → List ℕ × Data → Option CoreStimuli
core_stimuli_of plan entry = do
  core ← core_named plan entry.0
  text ← as_str entry.1
  words ← stimuli_of_words core text
  Some (record { core = core.id; words = words })

-- The stimuli of the cores that an object lists. None if the data are no object, or one of its members is not read.
abbrev pub stimuli_of_data : Plan → Data → Option (List CoreStimuli)
stimuli_of_data plan d = option_and_then (λ ms. each (core_stimuli_of plan) (entries ms)) (as_object d)

-- If the data are a text, it has at most `most` words, which spaces divide. All other data pass.
abbrev pub has_words_within : ℕ → Data → Bool
has_words_within most d = option_map_or (λ text. nat_le (length (parts_of 32 text)) most) (as_str d) true

-- Each member of an object, if it is a text, has at most 100,000 words. All other data pass.
abbrev pub are_stimuli_within : Data → Bool
are_stimuli_within d = option_map_or (λ ms. list_all (λ (entry : List ℕ × Data). has_words_within 100000 entry.1) (entries ms)) (as_object d) true

-- The faults that stimuli may have, each with the test that it is absent. `Limit`: each core has at most 100,000 words.
-- `BadStimulus`: the data mean stimuli for the configuration.
abbrev pub stimuli_tests : Plan → Data → Tests
stimuli_tests plan d = (Limit, are_stimuli_within d) ∷ (BadStimulus, is_some (stimuli_of_data plan d)) ∷ []

-- ---- a schedule: a text of turns

-- How many digits a word begins with.
abbrev pub digits_in : List ℕ → ℕ
digits_in word = unwrap_or (position (λ b. not (is_ascii_digit b)) word) (length word)

-- The choice to serve the core that these digits name. None if no configured core has this number, or it is the core
-- `core` itself.
abbrev pub served : Plan → CoreId → List ℕ → Option Choice
served plan core digits = option_and_then (λ (from : Core). if from.id.number == core.number then None else Some (Serve from.id)) (core_named plan digits)

-- The choice that the rest of a word means, after a core's number: `o` is Own, `l` is Look, and `s` with the number of
-- another core is Serve. Any other rest means none.
unfoldable pub choice_of : Plan → CoreId → List ℕ → Option Choice
choice_of plan core [] = None
choice_of plan core (letter ∷ digits) =
    if letter == 115
    then served plan core digits
    else (if length digits == 0 then (if letter == 111 then Some Own else (if letter == 108 then Some Look else None)) else None)

-- The turn that a word means: the number of a configured core, and the core's choice. Any other word means none.
unfoldable pub turn_of : Plan → List ℕ → Option (CoreId × Choice)
turn_of plan word = do
  core ← core_named plan (take (digits_in word) word)
  choice ← choice_of plan core.id (drop (digits_in word) word)
  Some (core.id, choice)

-- The turns that the words of a text mean. None if one of the words means none.
abbrev pub turns_of_text : Plan → List ℕ → Option (List (CoreId × Choice))
turns_of_text plan text = each (turn_of plan) (parts_of 32 text)

-- The turns that the data mean. None if they are no text, or one of its words means no turn.
abbrev pub schedule_of_data : Plan → Data → Option (List (CoreId × Choice))
schedule_of_data plan d = option_and_then (turns_of_text plan) (as_str d)

-- The faults that a schedule may have, each with the test that it is absent. `Limit`: it has at most 1,000,000 words.
-- `BadSchedule`: the data mean turns for the configuration.
abbrev pub schedule_tests : Plan → Data → Tests
schedule_tests plan d = (Limit, has_words_within 1000000 d) ∷ (BadSchedule, is_some (schedule_of_data plan d)) ∷ []

-- ---- the faults and the meaning of a text

-- The faults of a text, by its JSON data. If the text is not JSON, the only fault is `NotJson`. Otherwise its faults
-- are those whose tests fail, in ascending order.
abbrev pub faults_by : (Data → Tests) → Option Data → List ConfFault
faults_by tests None = NotJson ∷ []
faults_by tests (Some d) = failing (tests d)

-- The faults of a text that is read as stimuli.
abbrev pub stimuli_faults : Plan → List ℕ → List ConfFault
stimuli_faults plan text = faults_by (stimuli_tests plan) (read text)

-- The faults of a text that is read as a schedule.
abbrev pub schedule_faults : Plan → List ℕ → List ConfFault
schedule_faults plan text = faults_by (schedule_tests plan) (read text)

-- What the data mean, if they pass all tests; else None.
abbrev pub meaning_by : {A : Type 0} → (Data → Tests) → (Data → Option A) → Data → Option A
meaning_by tests mean d = option_and_then (if_faultless (failing (tests d))) (mean d)

-- The stimuli that a text means for a configuration, if it has no fault. [own]
abbrev pub stimuli_of_text : Plan → List ℕ → Option (List CoreStimuli)
stimuli_of_text plan text = option_and_then (meaning_by (stimuli_tests plan) (stimuli_of_data plan)) (read text)

-- The schedule that a text means for a configuration, if it has no fault: its turns in order. [own]
abbrev pub schedule_of_text : Plan → List ℕ → Option (List (CoreId × Choice))
schedule_of_text plan text = option_and_then (meaning_by (schedule_tests plan) (schedule_of_data plan)) (read text)
