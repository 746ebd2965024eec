-- The progress of a core, entry by entry.
use Rattle.std.specs.Prelude.{◌≡◌, ◌+◌, ◌≤◌, ◌++◌, ◌∷◌, [], Bool, None, Vec, vec_len, vec_capacity}
use Rattle.std.specs.declared.alloc.Global.{Global}
use Rattle.osbase.specs.{declared.histories.Course.Course, declared.items.Item.Item, declared.marks.Mark.Mark}
use Rattle.osbase.specs.History.{Entry, Took, agreement_after, began_after, course_after, first_phase, items_after, no_cores, phase_after, started_after}
use Rattle.osprogress.specs.declared.progress.Progress.{Progress}

-- The progress after this entry.
abbrev pub progress_after : Entry → Progress → Progress
progress_after e p = record {
  phase = phase_after e p.phase;
  course = course_after e p.course;
  began = began_after e p.began;
  agreement = agreement_after e p.agreement;
  started = started_after e p.started;
  items = items_after e p.items;
  entries = p.entries + 1;
}

-- The progress after this item, but with the counts of items and entries as before.
abbrev pub moved_by : Item → Progress → Progress
moved_by item p = record p {
  phase = phase_after (Took item) p.phase;
  course = course_after (Took item) p.course;
  began = began_after (Took item) p.began;
  agreement = agreement_after (Took item) p.agreement;
  started = started_after (Took item) p.started;
}

-- The progress of a core that took no item. Its phase depends on whether the core is the master.
abbrev pub first_progress : Bool → Progress
first_progress is_master = record { phase = first_phase is_master; course = Course.Going; began = 0; agreement = None; started = no_cores; items = 0; entries = 0 }

-- One mark is added behind those of a vector, without a change of the vector's capacity. [own]
pub record Joins (m : Mark) (old new : Vec Mark Global) : Type 0 where
  pub items : new.items ≡ old.items ++ m ∷ []
  pub len : vec_len new ≤ vec_len old + 1
  pub capacity : vec_capacity new ≡ vec_capacity old
