use Rattle.std.proofs.Common.{Some, ap, refl, sym, ◌∙◌}
use Rattle.oskernel.specs.Wants.{front_of}
use Rattle.osworld.proofs.Places.{place_by-set}
use Rattle.osworld.proofs.Turned.{next-placed, nothing-played, on_err, refused-played, stopped-short, taken-played}
use Rattle.osworld.proofs.worlds.World.take_turn.Goals as goal

pub returns-in_default-clause-ok : goal.returns-in_default-clause-ok
returns-in_default-clause-ok c core sits stimuli w plays =
    nothing-played c.args.self.now.config.now stimuli w c.args.self.now.core_runs.items c.args.self.now.shared plays core c.args.choice c.args.at c.index_mut-core_run.result.now
    sits c.index_mut-core_run.ensures.value
    (sym c.next_item.ensures ∙ c.in_default.is)
    c.index_mut-core_run.result.now (record { id = refl; plan = refl; left = refl; items = refl; marks = refl; kernel = refl })

pub returns-then-not-may_take-clause-ok : goal.returns-then-not-may_take-clause-ok
returns-then-not-may_take-clause-ok c core sits stimuli w plays =
    refused-played c.args.self.now.config.now stimuli w c.args.self.now.core_runs.items c.args.self.now.shared plays core c.args.choice c.args.at c.index_mut-core_run.result.now
    sits c.index_mut-core_run.ensures.value c.in-Some.request c.in-Some.item
    (sym c.next_item.ensures ∙ c.in-Some.is)
    c.may_take.result c.may_take.ensures.reads c.if-not-may_take.true
    c.index_mut-core_run.result.now (record { id = refl; plan = refl; left = refl; items = refl; marks = refl; kernel = refl })

pub returns-in_err-make_room-clause-err : goal.returns-in_err-make_room-clause-err
returns-in_err-make_room-clause-err c =
    on_err c.from_residual.result (λ core sits stimuli w plays.
    stopped-short c.args.self.now.config.now stimuli w c.args.self.now.core_runs.items c.args.self.now.shared plays core c.args.choice c.args.at c.index_mut-core_run.result.now
    sits c.index_mut-core_run.ensures.value c.in-Some.request c.in-Some.item
    (sym c.next_item.ensures ∙ c.in-Some.is)
    c.may_take.result c.may_take.ensures.reads c.if-not-may_take.false
    c.make_room.new.self c.make_room.ensures.keeps)

pub deliver-requires : goal.deliver-requires
deliver-requires c =
    rw (c.apply.ensures, c.make_room.ensures.keeps.id) (next-placed c.args.self.now.shared c.index_mut-core_run.result.now c.args.choice c.in-Some.request c.in-Some.item (sym c.next_item.ensures ∙ c.in-Some.is))

pub returns-clause-ok : goal.returns-clause-ok
returns-clause-ok c core sits stimuli w plays =
    taken-played c.args.self.now.config.now stimuli w c.args.self.now.core_runs.items c.args.self.now.shared plays core c.args.choice c.args.at c.index_mut-core_run.result.now
    sits c.index_mut-core_run.ensures.value c.in-Some.request c.in-Some.item
    (sym c.next_item.ensures ∙ c.in-Some.is)
    c.may_take.result c.may_take.ensures.reads c.if-not-may_take.false
    c.make_room.new.self c.take.new.self
    c.make_room.ensures.keeps
    c.take.ensures
    (next-placed c.args.self.now.shared c.index_mut-core_run.result.now c.args.choice c.in-Some.request c.in-Some.item (sym c.next_item.ensures ∙ c.in-Some.is))
    (front_of c.make_room.new.self.kernel.border.outbox) c.apply.new.self c.deliver.new.self refl c.apply.ensures c.deliver.ensures

pub invariant_of-self-in-Break-1 : goal.invariant_of-self-in-Break-1
invariant_of-self-in-Break-1 c = record {
  placed = λ core below. c.args.self.now.placed core below
      ∙ ap Some (sym (place_by-set c.args.self.now.core_runs.items c.args.at c.index_mut-core_run.result.now c.make_room.new.self core c.index_mut-core_run.ensures.value c.make_room.ensures.keeps.id));
}

pub invariant_of-self-2 : goal.invariant_of-self-2
invariant_of-self-2 c = record {
  placed = λ core below. c.args.self.now.placed core below
      ∙ ap Some (sym (place_by-set c.args.self.now.core_runs.items c.args.at c.index_mut-core_run.result.now c.take.new.self core c.index_mut-core_run.ensures.value (c.take.ensures.id ∙ c.make_room.ensures.keeps.id)));
}
