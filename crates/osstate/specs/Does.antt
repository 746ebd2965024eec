-- What a function does to every history: the form of the contracts of the kernel.
use Rattle.std.specs.Prelude.{◌≡◌, ℕ, ◌+◌, ◌≤◌, ◌^◌, List, ◌++◌, length, Vec, vec_len, vec_capacity}
use Rattle.std.specs.declared.alloc.Global.{Global}
use Rattle.osbase.specs.{declared.marks.Mark.Mark, History.History, History.marks_of}
use Rattle.osplan.specs.View.{View}
use Rattle.osstate.specs.State.{KernelState, Stands}

-- The state is that of the history. The vector holds the marks of `base` and then those that were added since. The
-- `earlier` marks and the added ones together are those of the history. At first none is added: `base` is what the
-- vector holds, and `earlier` is what the history has. [own]
pub record Tracks (v : View) (h : History) (earlier base : List Mark) (s : KernelState) (marks : List Mark) : Type 0 where
  pub stands : Stands v h s
  pub added : List Mark
  pub behind : marks ≡ base ++ added
  pub shows : earlier ++ added ≡ marks_of h

-- If the old state is that of a history, the new state is that of the history with the effect. The marks that were put
-- into the vector are those that the effect prints. [own]
abbrev pub Does : (View → History → History) → KernelState → KernelState → List Mark → List Mark → Type 0
Does effect old new old_marks new_marks =
    (v : View) (h : History) (earlier base : List Mark) → Tracks v h earlier base old old_marks → Tracks v (effect v h) earlier base new new_marks

-- For every history whose state is `s`, `f` gives the value `x`. [own]
abbrev pub Reads : {A : Type 0} → (View → History → A) → KernelState → A → Type 0
Reads f s x = (v : View) (h : History) → Stands v h s → x ≡ f v h

-- At most `most` marks were added, behind those that were there. [own]
pub record Adds (most : ℕ) (old new : List Mark) : Type 0 where
  pub added : List Mark
  pub is : new ≡ old ++ added
  pub within : length added ≤ most

-- An item adds at most this many entries to the history. A tick and IncrementCounter add the most: they act for all
-- alarms and schedule tables of a core. [own]
abbrev pub item_entries : ℕ
item_entries = 1000

-- An item adds at most this many marks.
abbrev pub item_marks : ℕ
item_marks = 500

-- A service or a tick adds at most this many entries to the history. A function for a family of services asks for the
-- room of any service, so that a later service changes no bound; one for a single service may ask for less.
abbrev pub service_entries : ℕ
service_entries = 900

-- A service or a tick adds at most this many marks.
abbrev pub service_marks : ℕ
service_marks = 480

-- With `entries` more entries the history has at most 2 ^ 63 in all, and the vector has places for `marks` more marks.
-- [own]
pub record HasRoom (entries marks : ℕ) (s : KernelState) (vec : Vec Mark Global) : Type 0 where
  pub count : s.progress.entries + entries ≤ 2 ^ 63
  pub place : vec_len vec + marks ≤ vec_capacity vec
