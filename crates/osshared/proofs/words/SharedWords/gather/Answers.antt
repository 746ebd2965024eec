use Rattle.std.proofs.Common.{◌≡◌, [], ◌∷◌, ap, sym, ◌∙◌, append_assoc}
use Rattle.std.proofs.lemmas.List.{nil_from_length}
use Rattle.osshared.specs.Seats.{Held, Place, AllApart, cores_of}
use Rattle.osshared.specs.Views.{held_at}
use Rattle.osshared.proofs.Moves.{joins, looks}
use Rattle.osshared.proofs.Gathers.{all_at_last, gathers_one, gathers_more, finishes, no_seats}
use Rattle.osshared.proofs.words.SharedWords.gather.Goals as goal

pub returns-in_default : goal.returns-in_default
returns-in_default g c = no_seats g.O.SharedObject.object c.args.self.now.plan c.args.seats.items (nil_from_length c.args.seats.items (sym c.args.seats.ok.0 ∙ c.in_default.ensures.cases.0))

pub loop-next-init : goal.loop-next-init
loop-next-init g c =
    let seat = c.last.inside.seat in
    let at = all_at_last _ _ _ _ c.in-Some.ensures.items c.requires.places in
    let place = ap (λ (h : Held _ _ _). h.place) c.last.view_is ∙ at.1 in (
      held_at seat.table_id c.last.inside.core seat.me ∷ [],
      rw (c.last.view_is) c.in-Some.ensures.items,
      gathers_one seat.table_id c.last.inside.core seat.me c.last.invariant,
      at.0,
      ap (λ (p : Place _). p.table) place,
      ap (λ (p : Place _). p.plan) place,
    )

pub join_seat-requires : goal.join_seat-requires
join_seat-requires g c =
    let inv = c.loop-next.invariant in
    let at = all_at_last _ _ _ _ c.in-Some-pop.ensures.items inv.3 in
    let here = sym (ap (λ (p : Place _). p.table) c.self.view_is) in (
      inv.4 ∙ here,
      ap (λ (p : Place _). p.table) (ap (λ (h : Held _ _ _). h.place) c.next.view_is ∙ at.1) ∙ here,
      c.next.invariant.slots,
      c.self.invariant.0,
      joins g.O.SharedObject.object g.O.SharedObject.stands c.self.inside.table.shared.key g.O.SharedObject.blank c.loop-next.seat.id c.loop-next.seat.me.0 c.next.inside.seat.id c.next.inside.seat.me.0,
    )

pub loop-next-preserved : goal.loop-next-preserved
loop-next-preserved g c =
    let inv = c.loop-next.invariant in
    let j = c.join_seat.ensures in
    let view = ap (λ m. m.0) j.2 in
    let other = c.next.inside.seat in
    let at = all_at_last _ _ _ _ c.in-Some-pop.ensures.items inv.3 in (
      held_at other.table_id c.next.inside.core other.me ∷ inv.0,
      rw (inv.1, c.in-Some-pop.ensures.items, c.next.view_is) (append_assoc c.pop-in-loop-next.new.self.items _ inv.0),
      rw view (gathers_more other.table_id c.next.inside.core c.loop-next.seat.me.0 other.me inv.0 inv.2 c.next.invariant),
      at.0,
      j.0 ∙ inv.4,
      rw view inv.5,
    )

pub load-requires : goal.load-requires
load-requires g c =
    let words = c.self.inside.table.shared in
    let seat = c.loop-next.seat in (
      c.loop-next.invariant.4 ∙ sym (ap (λ (p : Place _). p.table) c.self.view_is),
      c.self.invariant.0,
      looks g.O.SharedObject.object g.O.SharedObject.stands words.key words.table_id.slots seat.id seat.me 0,
    )

pub returns : goal.returns
returns g c =
    let inv = c.loop-next.invariant in
    let none_left : c.loop-next.seats.items ≡ [] = nil_from_length c.loop-next.seats.items (sym c.loop-next.seats.ok.0 ∙ c.in_default-pop.ensures.cases.0) in
    let all : c.args.seats.items ≡ inv.0 = rw none_left at inv.1 in
    let apart : AllApart c.args.self.now.plan.cores = rw (← c.self.view_is) c.self.invariant.1 in
    rw all (finishes g.O.SharedObject.object c.args.self.now.plan c.loop-next.seat.me.0 c.load.new.seat.me.0 inv.0 inv.2 c.load.ensures.2 inv.5 (ap cores_of (sym all) ∙ c.requires.cores) apart)
