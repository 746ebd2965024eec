-- What a function does, said of its state alone: the form of a contract.
use Rattle.std.specs.Prelude.{◌≡◌, ℕ, ◌+◌, ◌≤◌, [], ◌++◌, length, Vec, vec_len, vec_capacity}
use Rattle.std.specs.declared.alloc.Global.{Global}
use Rattle.osbase.specs.declared.marks.Mark.{Mark}
use Rattle.osstate.specs.State.{KernelState}
use Rattle.osacts.specs.{Acts.Acts, Runs.runs, Runs.says}

-- The function does these acts, with at most `most` entries and `marks` marks, and puts their lines behind those in the
-- vector. The vector's capacity, the core's view and its phase stay the same.
pub record Steps (most marks : ℕ) (acts : Acts) (old new : KernelState) (old_vec new_vec : Vec Mark Global) : Type 0 where
  pub state : new ≡ runs acts old
  pub prints : new_vec.items ≡ old_vec.items ++ says acts old
  pub view : new.view ≡ old.view
  pub phase : new.progress.phase ≡ old.progress.phase
  pub count : new.progress.entries ≤ old.progress.entries + most
  pub len : vec_len new_vec ≤ vec_len old_vec + marks
  pub capacity : vec_capacity new_vec ≡ vec_capacity old_vec

-- What Steps says, and at most `letters` more letters in the outbox.
pub record Posts (letters most marks : ℕ) (acts : Acts) (old new : KernelState) (old_vec new_vec : Vec Mark Global) : Type 0 where
  pub steps : Steps most marks acts old new old_vec new_vec
  pub outbox : length new.border.outbox ≤ length old.border.outbox + letters

-- What Steps says, and the outbox stays as it was.
pub record PostsNone (most marks : ℕ) (acts : Acts) (old new : KernelState) (old_vec new_vec : Vec Mark Global) : Type 0 where
  pub steps : Steps most marks acts old new old_vec new_vec
  pub outbox : new.border.outbox ≡ old.border.outbox

-- What Steps says, and all that crosses the core's border stays as it was.
pub record StepsWithin (most marks : ℕ) (acts : Acts) (old new : KernelState) (old_vec new_vec : Vec Mark Global) : Type 0 where
  pub steps : Steps most marks acts old new old_vec new_vec
  pub border : new.border ≡ old.border

-- What Steps says, for acts that print no line.
pub record QuietSteps (most : ℕ) (acts : Acts) (old new : KernelState) : Type 0 where
  pub state : new ≡ runs acts old
  pub silent : says acts old ≡ []
  pub view : new.view ≡ old.view
  pub phase : new.progress.phase ≡ old.progress.phase
  pub count : new.progress.entries ≤ old.progress.entries + most
