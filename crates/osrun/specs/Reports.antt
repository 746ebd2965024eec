-- A report alone: what a core prints by its items.
use Rattle.std.specs.Prelude.{◌≡◌, Bool, true, false, List, ◌∷◌, []}
use Rattle.osbase.specs.{declared.references.CoreId.CoreId, declared.items.Agreement.Agreement, declared.items.Item.Item, declared.turns.Report.Report, History.marks_of}
use Rattle.osplan.specs.declared.plans.Plan.{Plan}
use Rattle.osrun.specs.Fits.{history_by}

-- The item ends its core: its last look for a shutdown of all cores, or a first gate at which the cores' modes are in
-- conflict.
-- [AUTOSAR SWS OS 4.x, SWS_Os_00608 to SWS_Os_00610, for the conflict; that a core drains and closes is this project's
-- own]
abbrev pub is_end : Item → Bool
is_end (Item.Last shutdown) = true
is_end (Item.Pass1 Agreement.Conflict) = true
is_end item = false

-- The last of the items ends its core.
abbrev pub end_by : List Item → Bool
end_by [] = false
end_by (item ∷ []) = is_end item
end_by (item ∷ items) = end_by items

-- The report of a core with these items: the marks that the core prints by them in its own view, and whether the last
-- item ends the core.
abbrev pub report_by : Plan → CoreId → List Item → Report
report_by plan id items = record {
  core = id;
  items = items;
  clocks = [];
  marks = marks_of (history_by plan id items);
  ended = end_by items;
}

-- A report without the clocks of its items.
abbrev pub unclocked : Report → Report
unclocked report = record report { clocks = [] }

-- Without its clocks, the report is that of its own items (`report_by`). Nothing is said of the clocks.
abbrev pub IsOwn : Plan → Report → Type 0
IsOwn plan report = unclocked report ≡ report_by plan report.core report.items
