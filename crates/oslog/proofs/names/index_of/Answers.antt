use Rattle.std.proofs.Common.{◌≡◌, ℕ, ◌+◌, ◌-◌, ◌<◌, length, drop, subst, arith}
use Rattle.std.proofs.lemmas.Map.Text.{hash_map_updates_str}
use Rattle.oslog.specs.Naming.{Indexes}
use Rattle.oslog.proofs.Naming.{one-more}
use Rattle.oslog.proofs.names.index_of.Goals as goal

pub loop-place-preserved : goal.loop-place-preserved
loop-place-preserved c =
    let named = c.args.named.now in
    let plan = c.args.names.now.plan.now in
    let place = c.loop-place.place - 1 in
    let within : place < length named = omega arith in
    let back : c.loop-place.place ≡ place + 1 = omega arith in
    let so_far : Indexes plan c.loop-place.index (drop (place + 1) named) = subst (λ (n : ℕ). Indexes plan c.loop-place.index (drop n named)) back c.loop-place.invariant.indexed in
    let updates = hash_map_updates_str c.name_of.result.now c.loop-place.index c.insert.new.self _ c.in_ok-_later.ensures.updates in
    record {
      within = omega arith;
      indexed = one-more plan named _ place c.loop-place.index c.insert.new.self within so_far (rw c.name_of.ensures at updates);
    }
