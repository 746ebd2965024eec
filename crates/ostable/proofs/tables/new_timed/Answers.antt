use Rattle.std.proofs.Common.{ℕ, ap, length, rules, ◌∙◌}
use Rattle.osattached.specs.Attached.{firsts_by}
use Rattle.osbase.specs.Families.{goes_by}
use Rattle.osattached.proofs.Own.{member}
use Rattle.ostable.specs.Tables.{table_family, table_ref}
use Rattle.ostable.proofs.tables.new_timed.Goals as goal

pub returns : goal.returns
returns c =
    let core = c.args.core.now in
    c.new.ensures core.id (goes_by (table_family core)) (table_ref core) (λ n x inside call. member core.id (length core.counters) (table_family core) n x.0 x.1 (search rules))
    ∙ ap (λ (n : ℕ). firsts_by core.id n (goes_by (table_family core)) (table_ref core) c.len.result) c.len-counters.ensures
    ∙ ap (firsts_by core.id (length core.counters) (goes_by (table_family core)) (table_ref core)) c.len.ensures
