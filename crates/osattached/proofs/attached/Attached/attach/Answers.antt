use Rattle.std.proofs.Common.{◌<◌, length, arith, ap}
use Rattle.std.proofs.{lemmas.Bool.false≢true, lemmas.List.length-map}
use Rattle.osattached.proofs.{Ranges.added, attached.Attached.attach.Goals.in-Some, attached.Attached.attach.Goals.in_default}
use Rattle.osattached.proofs.attached.Attached.attach.Goals as goal

pub returns : goal.returns
returns g c =
    elim c.match-get_mut.branch [
      | in-Some w ↦
          rw w.self-inside-is (added c.self.inside.lists.items c.args.self.now c.from.result c.args.counter.index w.in-Some.list.now w.push.new.self c.args.object c.self.view_is c.from.ensures c.requires.known w.in-Some.ensures.value w.push.ensures.items)
      | in_default w ↦
          let known : c.from.result < length c.self.inside.lists.items = omega (arith, c.from.ensures, c.requires.known, ap length c.self.view_is, length-map c.self.inside.lists.items (λ x. x.items)) in
          absurd (false≢true (w.in_default.ensures.variant.1 known))
    ]
