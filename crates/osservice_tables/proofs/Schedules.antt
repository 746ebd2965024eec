-- What the counter of a schedule table admits.
use Rattle.std.proofs.Common.{◌≡◌, ◌≤◌, Option, Some, ap, sym, IsTrue}
use Rattle.std.specs.Option.{option_map_or}
use Rattle.osbase.specs.declared.references.TableRef.{TableRef}
use Rattle.osplan.specs.{declared.plans.Core.Core, declared.plans.Counter.Counter, declared.plans.Table.Table, Clocked.are_clocks_within, View.own_counter, View.own_table}
use Rattle.osplan.proofs.Timing.{own-counter-there, own-table-attached}
use Rattle.osclock.specs.Clocks.{max_of}

-- A table's counter has no value above 1,000,000,000.
pub max-most : (core : Core) (s : TableRef) (table : Table) → IsTrue (are_clocks_within core) → Some table ≡ own_table core s → max_of core table.counter ≤ 1000000000
max-most core s table within is =
    let there = own-counter-there core table.counter within (own-table-attached core s table within (sym is)) in
    rw (there.found) there.most

pub counter-most : (core : Core) (s : TableRef) (table : Table) (counter : Counter) → IsTrue (are_clocks_within core) → Some table ≡ own_table core s → Some counter ≡ own_counter core table.counter → counter.max ≤ 1000000000
counter-most core s table counter within is found = rw (ap (λ (o : Option Counter). option_map_or (λ (x : Counter). x.max) o 0) found) (max-most core s table within is)
