-- Whether a run ended, by its reports.
use Rattle.std.specs.Prelude.{Bool, false, not, ◌||◌, List}
use Rattle.std.specs.List.{list_all, list_any}
use Rattle.osbase.specs.{declared.statuses.Status.TheVariants.EOk, declared.references.CoreId.CoreId, declared.items.Item.Item, declared.turns.Report.Report, History.same_core}
use Rattle.osplan.specs.declared.plans.Plan.{Plan}

-- The item is a StartCore of this core that returned E_OK.
abbrev pub starts : CoreId → Item → Bool
starts core (Item.Began k EOk) = same_core k core
starts core item = false

-- The core is the master, or an item of some core started it.
abbrev pub was_started : Plan → List Report → CoreId → Bool
was_started plan reports core = same_core core plan.master || list_any (λ (r : Report). list_any (starts core) r.items) reports

-- Every started core has ended, by its report. [own]
abbrev pub have_all_ended : Plan → List Report → Bool
have_all_ended plan reports = list_all (λ (r : Report). r.ended || not (was_started plan reports r.core)) reports
