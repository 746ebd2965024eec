use Rattle.std.proofs.Common.{ℕ, ap, length, rules, ◌∙◌}
use Rattle.osattached.specs.Attached.{firsts_by}
use Rattle.osbase.specs.Families.{goes_by}
use Rattle.osattached.proofs.Own.{member}
use Rattle.osclock.specs.Clocks.{alarm_family, alarm_ref}
use Rattle.osclock.proofs.clocks.new_attached.Goals as goal

pub returns : goal.returns
returns c =
    let core = c.args.core.now in
    c.new.ensures core.id (goes_by (alarm_family core)) (alarm_ref core) (λ n x inside call. member core.id (length core.counters) (alarm_family core) n x.0 x.1 (search rules))
    ∙ ap (λ (n : ℕ). firsts_by core.id n (goes_by (alarm_family core)) (alarm_ref core) c.len.result) c.len-counters.ensures
    ∙ ap (firsts_by core.id (length core.counters) (goes_by (alarm_family core)) (alarm_ref core)) c.len.ensures
