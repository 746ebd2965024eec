use Rattle.std.proofs.Common.{◌≡◌, ◌<◌, ℕ, List, ap, sym, subst, ◌∙◌}
use Rattle.std.specs.{Int.bit_at, List.slice_get}
use Rattle.std.proofs.lemmas.Nat.Bits.{bit_at-zero}
use Rattle.osqueue.specs.{declared.ready.Ready.Ready, Ordered.IsBest}
use Rattle.osqueue.proofs.Queueing.{empty, pop-best, pop-list}
use Rattle.osqueue.proofs.queue.ReadyQueue.best.Goals as goal

pub returns-then-word-eq0-clause-none : goal.returns-then-word-eq0-clause-none
returns-then-word-eq0-clause-none g c =
    let none : c.self.inside.fronts.word ≡ 0 = sym c.word-word.ensures.word ∙ c.if-word-eq0.true in
    sym c.self.view_is ∙ empty g.row.P g.row.J _ _ _ _ _ c.self.invariant c.self.told c.self.told2 none (λ p. ap (λ (w : ℕ). bit_at w p) none ∙ bit_at-zero p)

pub returns-then-word-eq0-clause-first : goal.returns-then-word-eq0-clause-first
returns-then-word-eq0-clause-first g c = sym (ap (λ (l : List Ready). slice_get l 0) (returns-then-word-eq0-clause-none g c))

pub returns-clause-best : goal.returns-clause-best
returns-clause-best g c =
    let mark : bit_at c.self.inside.fronts.word c.greatest.result ≡ 1 = rw c.word-word.ensures.word at c.greatest.ensures.marked in
    let top : (q : ℕ) → c.greatest.result < q → bit_at c.self.inside.fronts.word q ≡ 0 = (λ q above. ap (λ (w : ℕ). bit_at w q) (sym c.word-word.ensures.word) ∙ c.greatest.ensures.above q above) in
    subst (λ (l : List Ready). IsBest c.get.result l) c.self.view_is (pop-best g.row.P g.row.J _ _ _ _ _ c.self.invariant c.self.told c.self.told2 c.greatest.result c.place-place.result c.get.result mark c.place-place.ensures.place c.get.ensures top)

pub returns-clause-first : goal.returns-clause-first
returns-clause-first g c =
    let mark : bit_at c.self.inside.fronts.word c.greatest.result ≡ 1 = rw c.word-word.ensures.word at c.greatest.ensures.marked in
    let top : (q : ℕ) → c.greatest.result < q → bit_at c.self.inside.fronts.word q ≡ 0 = (λ q above. ap (λ (w : ℕ). bit_at w q) (sym c.word-word.ensures.word) ∙ c.greatest.ensures.above q above) in
    sym (ap (λ (l : List Ready). slice_get l 0) (sym c.self.view_is ∙ pop-list g.row.P g.row.J _ _ _ _ _ c.self.invariant c.self.told c.self.told2 c.greatest.result c.place-place.result c.get.result mark c.place-place.ensures.place c.get.ensures top))
