use Rattle.std.proofs.Common.{◌≡◌, ◌-◌, not, is_some, ap, sym, ◌∙◌, arith}
use Rattle.std.proofs.lemmas.Map.Text.{hash_map_updates_str}
use Rattle.osschema.specs.{declared.declarations.Declaration.Declaration, Index.index_in}
use Rattle.osschema.proofs.Indexing.{one_more}
use Rattle.osschema.proofs.places.index_of.Goals as goal

pub loop-place-preserved : goal.loop-place-preserved
loop-place-preserved c =
    let named : c.as_str.result.now ≡ c.index-declared-place.result.name = c.as_str.ensures ∙ ap (λ (d : Declaration). d.name) (sym c.index-declared-place.is) in
    let stood : is_some (index_in c.loop-place.first c.as_str.result.now) ≡ not c.is_none.result = ap is_some (sym c.in_ok-later.ensures.old) ∙ c.is_none.ensures in
    let updates = hash_map_updates_str c.as_str.result.now c.loop-place.first c.insert.new.self _ c.in_ok-later.ensures.updates in
    record {
      within = omega arith;
      indexed = one_more c.index-declared-place.result (c.loop-place.place - 1) c.loop-place.first c.insert.new.self c.loop-place.are_apart c.is_none.result (rw named at stood) (rw named at updates)
          c.args.declared.now c.loop-place.place (omega arith) (omega arith) c.index-declared-place.is c.loop-place.invariant.indexed;
    }
