use Rattle.std.proofs.Common.{◌≡◌, ◌<◌, ℕ, List, drop, ap, sym, subst, ◌∙◌}
use Rattle.std.specs.{Int.bit_at, List.All, List.slice_get, List.slice_index}
use Rattle.std.proofs.lemmas.Nat.Bits.{bit_at-zero}
use Rattle.osqueue.specs.{declared.ready.Ready.Ready, Ordered.ComesAfter, Ordered.IsBest, Ordered.ordered}
use Rattle.osqueue.proofs.Bits.{changed-here, changed-others}
use Rattle.osqueue.proofs.Queueing.{empty, pop-ahead, pop-best, pop-first, pop-list, pop-only}
use Rattle.osqueue.proofs.queue.ReadyQueue.pop_best.Goals as goal

pub returns-then-word-eq0-clause-none : goal.returns-then-word-eq0-clause-none
returns-then-word-eq0-clause-none g c =
    let none : c.self.inside.fronts.word ≡ 0 = sym c.word-word.ensures.word ∙ c.if-word-eq0.true in
    sym c.self.view_is ∙ empty g.row.P g.row.J _ _ _ _ _ c.self.invariant c.self.told c.self.told2 none (λ p. ap (λ (w : ℕ). bit_at w p) none ∙ bit_at-zero p)

pub returns-then-word-eq0-clause-first : goal.returns-then-word-eq0-clause-first
returns-then-word-eq0-clause-first g c = sym (ap (λ (l : List Ready). slice_get l 0) (returns-then-word-eq0-clause-none g c))

pub returns-then-word-eq0-clause-rest : goal.returns-then-word-eq0-clause-rest
returns-then-word-eq0-clause-rest g c = returns-then-word-eq0-clause-none g c ∙ sym (ap (λ (l : List Ready). drop 1 l) (returns-then-word-eq0-clause-none g c))

pub invariant_of-self : goal.invariant_of-self
invariant_of-self g c =
    let mark : bit_at c.self.inside.fronts.word c.greatest-priority.result ≡ 1 = rw c.word-word.ensures.word at c.greatest-priority.ensures.marked in
    let others : (q : ℕ) → (q ≡ c.greatest-priority.result → ⊥) → bit_at c.unmarked.result q ≡ bit_at c.self.inside.fronts.word q = (λ q other. changed-others c.word-word.result c.unmarked.result c.greatest-priority.result 0 c.unmarked.ensures.bits q other ∙ ap (λ (w : ℕ). bit_at w q) c.word-word.ensures.word) in
    rw (c.put_word.ensures, c.clear.ensures) (pop-only g.row.P g.row.J _ _ _ _ _ c.self.invariant c.self.told c.self.told2 c.greatest-priority.result c.place-place.result c.get-ready.result mark c.place-place.ensures.place c.get-ready.ensures c.unmarked.result (c.if-place-end.true ∙ ap (slice_index c.self.inside.ends) c.from.ensures) (changed-here c.word-word.result c.unmarked.result c.greatest-priority.result 0 c.unmarked.ensures.bits) others)

pub invariant_of-self-else-place-end : goal.invariant_of-self-else-place-end
invariant_of-self-else-place-end g c =
    let mark : bit_at c.self.inside.fronts.word c.greatest-priority.result ≡ 1 = rw c.word-word.ensures.word at c.greatest-priority.ensures.marked in
    rw (c.put_place.ensures, c.clear-else-place-end.ensures) (pop-first g.row.P g.row.J _ _ _ _ _ c.self.invariant c.self.told c.self.told2 c.greatest-priority.result c.place-place.result c.get-ready.result mark c.place-place.ensures.place c.get-ready.ensures (λ e. c.if-place-end.false (e ∙ sym (ap (slice_index c.self.inside.ends) c.from.ensures))))

pub returns-then-place-end-clause-best : goal.returns-then-place-end-clause-best
returns-then-place-end-clause-best g c =
    let mark : bit_at c.self.inside.fronts.word c.greatest-priority.result ≡ 1 = rw c.word-word.ensures.word at c.greatest-priority.ensures.marked in
    let top : (q : ℕ) → c.greatest-priority.result < q → bit_at c.self.inside.fronts.word q ≡ 0 = (λ q above. ap (λ (w : ℕ). bit_at w q) (sym c.word-word.ensures.word) ∙ c.greatest-priority.ensures.above q above) in
    subst (λ (l : List Ready). IsBest c.get-ready.result l) c.self.view_is (pop-best g.row.P g.row.J _ _ _ _ _ c.self.invariant c.self.told c.self.told2 c.greatest-priority.result c.place-place.result c.get-ready.result mark c.place-place.ensures.place c.get-ready.ensures top)

pub returns-then-place-end-clause-ahead : goal.returns-then-place-end-clause-ahead
returns-then-place-end-clause-ahead g c =
    let mark : bit_at c.self.inside.fronts.word c.greatest-priority.result ≡ 1 = rw c.word-word.ensures.word at c.greatest-priority.ensures.marked in
    let top : (q : ℕ) → c.greatest-priority.result < q → bit_at c.self.inside.fronts.word q ≡ 0 = (λ q above. ap (λ (w : ℕ). bit_at w q) (sym c.word-word.ensures.word) ∙ c.greatest-priority.ensures.above q above) in
    subst (All (ComesAfter c.get-ready.result)) (sym (ap ordered c.clear.ensures)) (pop-ahead g.row.P g.row.J _ _ _ _ _ c.self.invariant c.self.told c.self.told2 c.greatest-priority.result c.place-place.result c.get-ready.result mark c.place-place.ensures.place c.get-ready.ensures top)

pub returns-then-place-end-clause-first : goal.returns-then-place-end-clause-first
returns-then-place-end-clause-first g c =
    let mark : bit_at c.self.inside.fronts.word c.greatest-priority.result ≡ 1 = rw c.word-word.ensures.word at c.greatest-priority.ensures.marked in
    let top : (q : ℕ) → c.greatest-priority.result < q → bit_at c.self.inside.fronts.word q ≡ 0 = (λ q above. ap (λ (w : ℕ). bit_at w q) (sym c.word-word.ensures.word) ∙ c.greatest-priority.ensures.above q above) in
    sym (ap (λ (l : List Ready). slice_get l 0) (sym c.self.view_is ∙ pop-list g.row.P g.row.J _ _ _ _ _ c.self.invariant c.self.told c.self.told2 c.greatest-priority.result c.place-place.result c.get-ready.result mark c.place-place.ensures.place c.get-ready.ensures top))

pub returns-then-place-end-clause-rest : goal.returns-then-place-end-clause-rest
returns-then-place-end-clause-rest g c =
    let mark : bit_at c.self.inside.fronts.word c.greatest-priority.result ≡ 1 = rw c.word-word.ensures.word at c.greatest-priority.ensures.marked in
    let top : (q : ℕ) → c.greatest-priority.result < q → bit_at c.self.inside.fronts.word q ≡ 0 = (λ q above. ap (λ (w : ℕ). bit_at w q) (sym c.word-word.ensures.word) ∙ c.greatest-priority.ensures.above q above) in
    ap ordered c.clear.ensures ∙ sym (ap (λ (l : List Ready). drop 1 l) (sym c.self.view_is ∙ pop-list g.row.P g.row.J _ _ _ _ _ c.self.invariant c.self.told c.self.told2 c.greatest-priority.result c.place-place.result c.get-ready.result mark c.place-place.ensures.place c.get-ready.ensures top))

pub returns-else-place-end-clause-best : goal.returns-else-place-end-clause-best
returns-else-place-end-clause-best g c =
    let mark : bit_at c.self.inside.fronts.word c.greatest-priority.result ≡ 1 = rw c.word-word.ensures.word at c.greatest-priority.ensures.marked in
    let top : (q : ℕ) → c.greatest-priority.result < q → bit_at c.self.inside.fronts.word q ≡ 0 = (λ q above. ap (λ (w : ℕ). bit_at w q) (sym c.word-word.ensures.word) ∙ c.greatest-priority.ensures.above q above) in
    subst (λ (l : List Ready). IsBest c.get-ready.result l) c.self.view_is (pop-best g.row.P g.row.J _ _ _ _ _ c.self.invariant c.self.told c.self.told2 c.greatest-priority.result c.place-place.result c.get-ready.result mark c.place-place.ensures.place c.get-ready.ensures top)

pub returns-else-place-end-clause-ahead : goal.returns-else-place-end-clause-ahead
returns-else-place-end-clause-ahead g c =
    let mark : bit_at c.self.inside.fronts.word c.greatest-priority.result ≡ 1 = rw c.word-word.ensures.word at c.greatest-priority.ensures.marked in
    let top : (q : ℕ) → c.greatest-priority.result < q → bit_at c.self.inside.fronts.word q ≡ 0 = (λ q above. ap (λ (w : ℕ). bit_at w q) (sym c.word-word.ensures.word) ∙ c.greatest-priority.ensures.above q above) in
    subst (All (ComesAfter c.get-ready.result)) (sym (ap ordered c.clear-else-place-end.ensures)) (pop-ahead g.row.P g.row.J _ _ _ _ _ c.self.invariant c.self.told c.self.told2 c.greatest-priority.result c.place-place.result c.get-ready.result mark c.place-place.ensures.place c.get-ready.ensures top)

pub returns-else-place-end-clause-first : goal.returns-else-place-end-clause-first
returns-else-place-end-clause-first g c =
    let mark : bit_at c.self.inside.fronts.word c.greatest-priority.result ≡ 1 = rw c.word-word.ensures.word at c.greatest-priority.ensures.marked in
    let top : (q : ℕ) → c.greatest-priority.result < q → bit_at c.self.inside.fronts.word q ≡ 0 = (λ q above. ap (λ (w : ℕ). bit_at w q) (sym c.word-word.ensures.word) ∙ c.greatest-priority.ensures.above q above) in
    sym (ap (λ (l : List Ready). slice_get l 0) (sym c.self.view_is ∙ pop-list g.row.P g.row.J _ _ _ _ _ c.self.invariant c.self.told c.self.told2 c.greatest-priority.result c.place-place.result c.get-ready.result mark c.place-place.ensures.place c.get-ready.ensures top))

pub returns-else-place-end-clause-rest : goal.returns-else-place-end-clause-rest
returns-else-place-end-clause-rest g c =
    let mark : bit_at c.self.inside.fronts.word c.greatest-priority.result ≡ 1 = rw c.word-word.ensures.word at c.greatest-priority.ensures.marked in
    let top : (q : ℕ) → c.greatest-priority.result < q → bit_at c.self.inside.fronts.word q ≡ 0 = (λ q above. ap (λ (w : ℕ). bit_at w q) (sym c.word-word.ensures.word) ∙ c.greatest-priority.ensures.above q above) in
    ap ordered c.clear-else-place-end.ensures ∙ sym (ap (λ (l : List Ready). drop 1 l) (sym c.self.view_is ∙ pop-list g.row.P g.row.J _ _ _ _ _ c.self.invariant c.self.told c.self.told2 c.greatest-priority.result c.place-place.result c.get-ready.result mark c.place-place.ensures.place c.get-ready.ensures top))
