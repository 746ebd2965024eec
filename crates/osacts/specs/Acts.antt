-- What a core does next, as data: acts, made of what it may read.
--
-- Whatever a service, an alarm or a table does is written as acts. What holds of all acts is proved once, of the data:
-- that a core does the same wherever it reads the same, whose objects its lines name, and whom it asks.
use Rattle.std.specs.Prelude.{ℕ, Bool, if◌then◌else◌, List, [], ◌∷◌}
use Rattle.std.specs.List.{enumerate_from}
use Rattle.osbase.specs.{declared.references.CoreId.CoreId, declared.messages.Message.Message, declared.marks.Mark.Mark}
use Rattle.osbase.specs.History.{History, Note, Printed, Noted, Queued, queued_count, letter_with}
use Rattle.osplan.specs.View.{View}
use Rattle.osstate.specs.Readings.{knows_started}
use Rattle.osacts.specs.Seen.{AllCores, Seen, all_cores, seen_of}

-- One act: a line is printed, something happens without a line, or a letter joins the outbox, with the next number
-- for its core. [own]
pub data Act : Type 0 where
  Prints : Mark → Act
  Notes : Note → Act
  Sends : CoreId → Message → Act

-- The history after this act.
abbrev pub act : Act → History → History
act (Prints m) h = Printed m ∷ h
act (Notes n) h = Noted n ∷ h
act (Sends core message) h = Noted (Queued core (letter_with (queued_count core h) message)) ∷ h

-- What a core does next. `nothing` is no act; `one_then` is one act and then others; `both` is some acts and then
-- others. `when` does the first acts if the test holds, else the second; `if_started` the first if the core was
-- started, else the second. `look` does what follows from what is read now of the core itself, `look_around` from what
-- is read of all cores. [own]
pub data Acts : Type 0 where
  nothing : Acts
  one_then : Act → Acts → Acts
  both : Acts → Acts → Acts
  when : Bool → Acts → Acts → Acts
  if_started : CoreId → Acts → Acts → Acts
  look : (Seen → Acts) → Acts
  look_around : (AllCores → Acts) → Acts

-- The history after these acts.
abbrev pub does : Acts → View → History → History
does nothing v h = h
does (one_then a x) v h = does x v (act a h)
does (both x y) v h = does y v (does x v h)
does (when b x y) v h = if b then does x v h else does y v h
does (if_started core x y) v h = if knows_started h core then does x v h else does y v h
does (look f) v h = does (f (seen_of v h)) v h
does (look_around f) v h = does (f (all_cores v h)) v h

-- The acts that only print this line.
abbrev pub prints : Mark → Acts
prints m = one_then (Prints m) nothing

-- The acts that only note this: it happens without a line.
abbrev pub notes : Note → Acts
notes n = one_then (Notes n) nothing

-- The acts that `f` gives for each element of a list, in the order of the list.
abbrev pub for_each : {A : Type 0} → (A → Acts) → List A → Acts
for_each f [] = nothing
for_each f (x ∷ xs) = both (f x) (for_each f xs)

-- The acts that `f` gives for each object of a list and its index, in index order.
abbrev pub in_turn : {A : Type 0} → (ℕ → A → Acts) → List A → Acts
in_turn f xs = for_each (λ p. f p.0 p.1) (enumerate_from 0 xs)
