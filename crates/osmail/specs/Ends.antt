-- What one core's end of the mail sent and took.
use Rattle.std.specs.Prelude.{◌≡◌, if◌then◌else◌, Option, List, [], ◌∷◌, ◌++◌, map}
use Rattle.std.specs.Option.{option_map}
use Rattle.osbase.specs.{declared.references.CoreId.CoreId, declared.messages.Envelope.Envelope, declared.messages.Letter.Letter, History.same_core}
use Rattle.osmail.specs.{declared.ends.MailStep.MailStep, declared.ends.MailStep.TheVariants.Sent, declared.ends.MailStep.TheVariants.Taken}

-- The letters in envelopes. The claims on mail are about its letters alone, not about what else an envelope has.
abbrev pub letters_of : List Envelope → List Letter
letters_of es = map (λ (e : Envelope). e.letter) es

-- The letter in the envelope, if there is an envelope.
abbrev pub letter_in : Option Envelope → Option Letter
letter_in e = option_map (λ (e : Envelope). e.letter) e

-- For each core some letters, the oldest first: those sent to it, or those taken from it.
abbrev pub Streams : Type 0
Streams = CoreId → List Letter

-- What an end sent to each core, by its steps.
abbrev pub sent_to : List MailStep → Streams
sent_to [] d = []
sent_to (Sent to l ∷ steps) d = if same_core to d then l ∷ sent_to steps d else sent_to steps d
sent_to (Taken from l ∷ steps) d = sent_to steps d

-- What an end took from each core, by its steps.
abbrev pub taken_from : List MailStep → Streams
taken_from [] s = []
taken_from (Sent to l ∷ steps) s = taken_from steps s
taken_from (Taken from l ∷ steps) s = if same_core from s then l ∷ taken_from steps s else taken_from steps s

-- No core's letters changed.
abbrev pub AreUnchanged : Streams → Streams → Type 0
AreUnchanged old new = (c : CoreId) → new c ≡ old c

-- This core's letters have this one more, behind the others. No other core's letters changed.
abbrev pub HasOneMore : CoreId → Letter → Streams → Streams → Type 0
HasOneMore core l old new = (c : CoreId) → new c ≡ (if same_core core c then old c ++ l ∷ [] else old c)
