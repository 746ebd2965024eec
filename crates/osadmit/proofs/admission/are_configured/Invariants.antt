use Rattle.std.proofs.Common.{◌≡◌, ◌||◌, ◌-◌, ℕ, not, map}
use Rattle.std.specs.List.{list_all}
use Rattle.osbase.specs.{declared.references.CoreId.CoreId, declared.limits.TheConstants.CORES, Sets.core_ids, Sets.has_core, Sets.numbers_from}
use Rattle.osplan.specs.View.{is_configured}
use Rattle.osadmit.proofs.admission.are_configured.Given as goal

-- each core that was passed is configured, if it is in the set
abbrev pub invariant-loop-number : goal.invariant-loop-number
invariant-loop-number g l =
    list_all (λ id. not (has_core l.cores id) || is_configured l.state.view id) core_ids
    ≡ list_all (λ id. not (has_core l.cores id) || is_configured l.state.view id) (map (λ (n : ℕ). let id : CoreId = record { number = n } in id) (numbers_from l.number (CORES - l.number)))
