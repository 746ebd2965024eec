use Rattle.std.proofs.Common.{◌≡◌, ℕ, Bool, cond, arith, ap, sym, subst, ◌∙◌}
use Rattle.std.specs.{Int.bit_at, List.All}
use Rattle.osqueue.specs.Ordered.{ComesAfter, ordered, placed}
use Rattle.osqueue.proofs.Bits.{changed-here, changed-others}
use Rattle.osqueue.proofs.Queueing.{ahead, alone, listed, newer-all}
use Rattle.osqueue.proofs.queue.ReadyQueue.push_front.Goals as goal

pub invariant_of-self : goal.invariant_of-self
invariant_of-self g c =
    let mark : bit_at c.self.inside.fronts.word c.args.ready.priority ≡ 1 = rw c.word-word.ensures.word at (c.is_marked.ensures ∙ ap (λ (b : Bool). cond b 1 0) c.if-is_marked.true) in
    let oldest : All (ComesAfter c.args.ready) (ordered c.self.inside.pool) = subst (All (ComesAfter c.args.ready)) (sym c.self.view_is) c.requires.oldest in
    rw (c.put_place.ensures, c.place-first.ensures.place, c.put-place.ensures.pool) (ahead g.row.P g.row.J _ _ _ _ _ c.self.invariant c.self.told c.self.told2 c.put-place.result c.args.ready c.put-place.ensures.within c.put-place.ensures.blank c.requires.place.priority c.requires.place.marked mark oldest)

pub invariant_of-self-else-is_marked : goal.invariant_of-self-else-is_marked
invariant_of-self-else-is_marked g c =
    let none : bit_at c.self.inside.fronts.word c.args.ready.priority ≡ 0 = rw c.word-word.ensures.word at (c.is_marked.ensures ∙ ap (λ (b : Bool). cond b 1 0) c.if-is_marked.false) in
    let others : (q : ℕ) → (q ≡ c.args.ready.priority → ⊥) → bit_at c.marked.result q ≡ bit_at c.self.inside.fronts.word q = (λ q other. changed-others c.word-word.result c.marked.result c.args.ready.priority 1 c.marked.ensures q other ∙ ap (λ (w : ℕ). bit_at w q) c.word-word.ensures.word) in
    rw (c.put_word.ensures, c.put_place-else-is_marked.ensures, c.from.ensures, c.put-place.ensures.pool) (alone g.row.P g.row.J _ _ _ _ _ c.self.invariant c.self.told c.self.told2 c.put-place.result c.args.ready c.put-place.ensures.within c.put-place.ensures.blank c.requires.place.priority c.requires.place.marked c.marked.result none (changed-here c.word-word.result c.marked.result c.args.ready.priority 1 c.marked.ensures) others)

pub returns-then-is_marked-clause-list : goal.returns-then-is_marked-clause-list
returns-then-is_marked-clause-list g c =
    let oldest : All (ComesAfter c.args.ready) (ordered c.self.inside.pool) = subst (All (ComesAfter c.args.ready)) (sym c.self.view_is) c.requires.oldest in
    ap ordered c.put-place.ensures.pool
    ∙ listed g.row.P g.row.J _ _ _ _ _ c.self.invariant c.self.told c.self.told2 c.put-place.result c.args.ready c.put-place.ensures.within c.put-place.ensures.blank c.requires.place.priority c.requires.place.marked (λ i used p s. omega (arith, s, newer-all g.row.P g.row.J _ _ _ _ _ c.self.invariant c.self.told c.self.told2 c.put-place.result c.args.ready c.put-place.ensures.within c.put-place.ensures.blank c.requires.place.priority c.requires.place.marked oldest i used p))
    ∙ ap (placed c.args.ready) c.self.view_is

pub returns-else-is_marked-clause-list : goal.returns-else-is_marked-clause-list
returns-else-is_marked-clause-list g c =
    let oldest : All (ComesAfter c.args.ready) (ordered c.self.inside.pool) = subst (All (ComesAfter c.args.ready)) (sym c.self.view_is) c.requires.oldest in
    ap ordered c.put-place.ensures.pool
    ∙ listed g.row.P g.row.J _ _ _ _ _ c.self.invariant c.self.told c.self.told2 c.put-place.result c.args.ready c.put-place.ensures.within c.put-place.ensures.blank c.requires.place.priority c.requires.place.marked (λ i used p s. omega (arith, s, newer-all g.row.P g.row.J _ _ _ _ _ c.self.invariant c.self.told c.self.told2 c.put-place.result c.args.ready c.put-place.ensures.within c.put-place.ensures.blank c.requires.place.priority c.requires.place.marked oldest i used p))
    ∙ ap (placed c.args.ready) c.self.view_is
