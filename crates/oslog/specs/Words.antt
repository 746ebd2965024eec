-- The words of a line: what they mean, and how they are written. [own]
use Rattle.std.specs.Prelude.{ℕ, ◌+◌, ◌==◌, ◌++◌, Option, Some, None, option_map, option_and_then, if◌then◌else◌, List, [], ◌∷◌, codes, filter, find, map, slice_set, true}
use Rattle.std.specs.{Fmt.decimal, Fmt.signed_decimal, Str.bytes_eq}
use Rattle.osbase.specs.{History.no_cores, Sets.core_ids, Sets.has_core, Words.status_name, declared.items.CoreSet.CoreSet, declared.messages.RemoteCall.RemoteCall, declared.references.CoreId.CoreId, declared.references.IsrRef.IsrRef, declared.statuses.Status.Status, declared.statuses.TheConstants.STATUS_LIST}
use Rattle.oscript.specs.{Calls.named_call, Rows.has_masks, declared.Op.Op}
use Rattle.ossyntax.specs.{Call.call_words, ParsedOp.form_of_words, Operation.resolved, Word.int_of, Word.number_in}
use Rattle.osplan.specs.Names.{isr_name, name_of, name_of_mode, spinlock_name}
use Rattle.osplan.specs.declared.plans.Plan.{Plan}
use Rattle.oscript.specs.Rows as rows
use Rattle.oslog.specs.Naming.{isr_named, mode_named, place_named, spinlock_named}
use Rattle.oslog.specs.{Rows.keyword_text, declared.forms.Parts.Parts, declared.rows.Kind.Kind, declared.rows.Tail.Tail}
use Rattle.oslog.specs.declared.rows.Kind.TheVariants as K
use Rattle.oslog.specs.declared.rows.Tail.TheVariants as T

-- ---- writing

-- What the word for an interrupt begins with; the name of the ISR follows.
abbrev pub irq_prefix : List ℕ
irq_prefix = codes "irq="

-- The word of this kind: the keyword, or the text of the value that `parts` has for the kind.
abbrev pub word_text : Plan → Parts → Kind → List ℕ
word_text plan parts (K.Keyword word) = keyword_text word
word_text plan parts K.Core = decimal parts.core.number
word_text plan parts K.Count = decimal parts.count
word_text plan parts K.Status = status_name parts.status
word_text plan parts K.Value = signed_decimal parts.value
word_text plan parts K.Mode = name_of_mode plan parts.mode
word_text plan parts K.Irq = irq_prefix ++ isr_name plan parts.isr
word_text plan parts K.Spinlock = spinlock_name plan parts.spinlock

-- The numbers of a set's cores in decimal, ascending.
abbrev pub core_words : CoreSet → List (List ℕ)
core_words cores = map (λ (id : CoreId). decimal id.number) (filter (has_core cores) core_ids)

-- The words that follow a row's words: none, the words of the call's operation, or the numbers of the cores.
abbrev pub tail_words : Plan → Parts → Tail → List (List ℕ)
tail_words plan parts T.Nothing = []
tail_words plan parts T.Call = call_words (name_of plan) parts.call
tail_words plan parts T.Cores = core_words parts.cores

-- ---- reading

-- The status that this word names.
abbrev pub status_of : List ℕ → Option Status
status_of word = find (λ (s : Status). bytes_eq (status_name s) word) STATUS_LIST

-- The core whose number is this word: 0 to 255 in decimal.
abbrev pub core_of : List ℕ → Option CoreId
core_of word = option_map (λ n. record { number = n }) (number_in 0 255 word)

-- The rest of a word behind its beginning `front`. None if the word does not begin so.
abbrev pub behind : List ℕ → List ℕ → Option (List ℕ)
behind [] word = Some word
behind (f ∷ front) [] = None
behind (f ∷ front) (c ∷ word) = if f == c then behind front word else None

-- The ISR of a word: `irq=` and the ISR's name.
abbrev pub irq_of : Plan → List ℕ → Option IsrRef
irq_of plan word = option_and_then (isr_named plan) (behind irq_prefix word)

-- The parts, with the value of a word of this kind added. None if the word is not of this kind.
abbrev pub with_word : Plan → Kind → List ℕ → Parts → Option Parts
with_word plan (K.Keyword keyword) word parts = if bytes_eq word (keyword_text keyword) then Some parts else None
with_word plan K.Core word parts = option_map (λ core. record parts { core = core }) (core_of word)
with_word plan K.Count word parts = option_map (λ n. record parts { count = n }) (number_in 0 18446744073709551615 word)
with_word plan K.Status word parts = option_map (λ status. record parts { status = status }) (status_of word)
with_word plan K.Value word parts = option_map (λ z. record parts { value = z }) (int_of word)
with_word plan K.Mode word parts = option_map (λ mode. record parts { mode = mode }) (mode_named plan word)
with_word plan K.Irq word parts = option_map (λ isr. record parts { isr = isr }) (irq_of plan word)
with_word plan K.Spinlock word parts = option_map (λ spinlock. record parts { spinlock = spinlock }) (spinlock_named plan word)

-- The parts, with the values of the first words added, one word for each kind, and the words after these. None if a
-- word is missing or not of its kind.
abbrev pub read_words : Plan → List Kind → List (List ℕ) → Parts → Option (Parts × List (List ℕ))
read_words plan [] words parts = Some (parts, words)
read_words plan (kind ∷ kinds) [] parts = None
read_words plan (kind ∷ kinds) (word ∷ words) parts = option_and_then (read_words plan kinds words) (with_word plan kind word parts)

-- The set, with the core of this number added.
abbrev pub with_core : ℕ → CoreSet → CoreSet
with_core number cores = record { members = slice_set cores.members number true }

-- The set, with the cores of these words added, if their numbers ascend, and none is below `least` or above 15.
abbrev pub cores_from : ℕ → CoreSet → List (List ℕ) → Option CoreSet
cores_from least cores [] = Some cores
cores_from least cores (word ∷ words) = option_and_then (λ n. cores_from (n + 1) (with_core n cores) words) (number_in least 15 word)

-- The operation that words mean, if they are well-formed and in range and their names have places.
abbrev pub op_of_words : Plan → List (List ℕ) → Option Op
op_of_words plan words = option_map rows.op_of (option_and_then (resolved (place_named plan)) (form_of_words words))

-- The call of an operation, if the operation goes across cores and names its object, and its mask (if any) has an
-- event.
abbrev pub call_in : Op → Option RemoteCall
call_in op = if has_masks op then named_call op else None

-- The call that the words of an operation mean, if the operation goes across cores and names its object, and its mask
-- (if any) has an event.
abbrev pub call_of : Plan → List (List ℕ) → Option RemoteCall
call_of plan words = option_and_then call_in (op_of_words plan words)

-- The parts, with the call or the cores added that the words after a row's words mean. None if these words do not fit;
-- with `Nothing`, if there is a word.
abbrev pub with_tail : Plan → Tail → List (List ℕ) → Parts → Option Parts
with_tail plan T.Nothing [] parts = Some parts
with_tail plan T.Nothing (word ∷ words) parts = None
with_tail plan T.Call words parts = option_map (λ call. record parts { call = call }) (call_of plan words)
with_tail plan T.Cores words parts = option_map (λ cores. record parts { cores = cores }) (cores_from 0 no_cores words)
