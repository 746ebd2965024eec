use Rattle.std.proofs.Common.{◌≡◌, ◌<◌, ℕ, Some, true, is_some, List, refl, rules, ap, sym, subst, ◌∙◌}
use Rattle.std.specs.{Int.bit_at, List.Contains, List.slice_index}
use Rattle.osqueue.specs.{declared.ready.Ready.Ready, Ordered.ordered, Ordered.without, Links.IsOnTheWay, Links.IsReachable, Links.at}
use Rattle.osqueue.proofs.Bits.{changed-here, changed-others}
use Rattle.osqueue.proofs.Queueing.{asked-behind, asked-front, asked-low, asked-mark, asked-narrow, asked-start, asked-way, front-used, out, without-first, without-last, without-middle, without-only}
use Rattle.osqueue.proofs.queue.ReadyQueue.remove.Goals as goal

pub bounds-self-inside-from : goal.bounds-self-inside-from
bounds-self-inside-from g c =
    let there : Contains (ordered c.self.inside.pool) c.args.ready = subst (λ (l : List Ready). Contains l c.args.ready) (sym c.self.view_is) c.requires.there in
    rw c.from.ensures (asked-low g.row.P g.row.J _ _ _ _ _ c.self.invariant c.self.told c.self.told2 c.args.ready there)

pub place-first-requires : goal.place-first-requires
place-first-requires g c =
    let there : Contains (ordered c.self.inside.pool) c.args.ready = subst (λ (l : List Ready). Contains l c.args.ready) (sym c.self.view_is) c.requires.there in
    let low : c.args.ready.priority < g.row.P = asked-low g.row.P g.row.J _ _ _ _ _ c.self.invariant c.self.told c.self.told2 c.args.ready there in
    search rules

pub get-oldest-requires : goal.get-oldest-requires
get-oldest-requires g c =
    let there : Contains (ordered c.self.inside.pool) c.args.ready = subst (λ (l : List Ready). Contains l c.args.ready) (sym c.self.view_is) c.requires.there in
    let mark = asked-mark g.row.P g.row.J _ _ _ _ _ c.self.invariant c.self.told c.self.told2 c.args.ready there in
    let used : is_some (at c.self.inside.pool c.place-first.result) ≡ true = rw c.place-first.ensures.place (front-used g.row.P g.row.J _ _ _ _ _ c.self.invariant c.self.told c.self.told2 c.args.ready.priority mark) in
    search rules

pub place_before-before-requires : goal.place_before-before-requires
place_before-before-requires g c =
    let there : Contains (ordered c.self.inside.pool) c.args.ready = subst (λ (l : List Ready). Contains l c.args.ready) (sym c.self.view_is) c.requires.there in
    let first-is : at c.self.inside.pool (slice_index c.self.inside.fronts.places c.args.ready.priority) ≡ Some c.get-oldest.result = ap (at c.self.inside.pool) (sym c.place-first.ensures.place) ∙ c.get-oldest.ensures in
    let first : IsOnTheWay c.self.inside.pool c.args.ready c.place-first.result = rw c.place-first.ensures.place (asked-start g.row.P g.row.J _ _ _ _ _ c.self.invariant c.self.told c.self.told2 c.args.ready there c.get-oldest.result first-is c.if-oldest-ready.true) in
    let reachable : IsReachable g.row.J c.self.inside.pool c.self.inside.next c.args.ready c.place-first.result = record { size = c.self.invariant.size; first = first; way = asked-way g.row.P g.row.J _ _ _ _ _ c.self.invariant c.self.told c.self.told2 c.args.ready there } in
    search rules

pub invariant_of-self : goal.invariant_of-self
invariant_of-self g c =
    let there : Contains (ordered c.self.inside.pool) c.args.ready = subst (λ (l : List Ready). Contains l c.args.ready) (sym c.self.view_is) c.requires.there in
    let place-is : at c.self.inside.pool (slice_index c.self.inside.next c.place_before-before.result) ≡ Some c.args.ready = asked-behind g.row.P g.row.J _ _ _ _ _ c.self.invariant c.self.told c.self.told2 c.args.ready there c.place_before-before.result c.place_before-before.ensures in
    rw (c.from-then-place-end.ensures, c.clear.ensures) (without-last g.row.P g.row.J _ _ _ _ _ c.self.invariant c.self.told c.self.told2 (slice_index c.self.inside.next c.place_before-before.result) c.args.ready place-is c.place_before-before.result c.place_before-before.ensures refl (c.if-place-end.true ∙ ap (slice_index c.self.inside.ends) c.from.ensures))

pub invariant_of-self-else-place-end : goal.invariant_of-self-else-place-end
invariant_of-self-else-place-end g c =
    let there : Contains (ordered c.self.inside.pool) c.args.ready = subst (λ (l : List Ready). Contains l c.args.ready) (sym c.self.view_is) c.requires.there in
    let place-is : at c.self.inside.pool (slice_index c.self.inside.next c.place_before-before.result) ≡ Some c.args.ready = asked-behind g.row.P g.row.J _ _ _ _ _ c.self.invariant c.self.told c.self.told2 c.args.ready there c.place_before-before.result c.place_before-before.ensures in
    rw c.clear-else-place-end.ensures (without-middle g.row.P g.row.J _ _ _ _ _ c.self.invariant c.self.told c.self.told2 (slice_index c.self.inside.next c.place_before-before.result) c.args.ready place-is c.place_before-before.result c.place_before-before.ensures refl (λ e. c.if-place-end.false (e ∙ sym (ap (slice_index c.self.inside.ends) c.from.ensures))))

pub unmarked-rest-requires : goal.unmarked-rest-requires
unmarked-rest-requires g c =
    let there : Contains (ordered c.self.inside.pool) c.args.ready = subst (λ (l : List Ready). Contains l c.args.ready) (sym c.self.view_is) c.requires.there in
    asked-narrow g.row.P g.row.J _ _ _ _ _ c.self.invariant c.self.told c.self.told2 c.args.ready there

pub invariant_of-self-then-first-end : goal.invariant_of-self-then-first-end
invariant_of-self-then-first-end g c =
    let there : Contains (ordered c.self.inside.pool) c.args.ready = subst (λ (l : List Ready). Contains l c.args.ready) (sym c.self.view_is) c.requires.there in
    let first-is : at c.self.inside.pool (slice_index c.self.inside.fronts.places c.args.ready.priority) ≡ Some c.get-oldest.result = ap (at c.self.inside.pool) (sym c.place-first.ensures.place) ∙ c.get-oldest.ensures in
    let place-is : at c.self.inside.pool c.place-first.result ≡ Some c.args.ready = ap (at c.self.inside.pool) c.place-first.ensures.place ∙ asked-front g.row.P g.row.J _ _ _ _ _ c.self.invariant c.self.told c.self.told2 c.args.ready there c.get-oldest.result first-is c.if-oldest-ready.false in
    let others : (q : ℕ) → (q ≡ c.args.ready.priority → ⊥) → bit_at c.unmarked-rest.result q ≡ bit_at c.self.inside.fronts.word q = (λ q other. changed-others c.word-word.result c.unmarked-rest.result c.args.ready.priority 0 c.unmarked-rest.ensures.bits q other ∙ ap (λ (w : ℕ). bit_at w q) c.word-word.ensures.word) in
    rw (c.put_word.ensures, c.clear-then-first-end.ensures) (without-only g.row.P g.row.J _ _ _ _ _ c.self.invariant c.self.told c.self.told2 c.place-first.result c.args.ready place-is c.unmarked-rest.result c.place-first.ensures.place (c.if-first-end.true ∙ ap (slice_index c.self.inside.ends) c.from.ensures) (changed-here c.word-word.result c.unmarked-rest.result c.args.ready.priority 0 c.unmarked-rest.ensures.bits) others)

pub invariant_of-self-else-first-end : goal.invariant_of-self-else-first-end
invariant_of-self-else-first-end g c =
    let there : Contains (ordered c.self.inside.pool) c.args.ready = subst (λ (l : List Ready). Contains l c.args.ready) (sym c.self.view_is) c.requires.there in
    let first-is : at c.self.inside.pool (slice_index c.self.inside.fronts.places c.args.ready.priority) ≡ Some c.get-oldest.result = ap (at c.self.inside.pool) (sym c.place-first.ensures.place) ∙ c.get-oldest.ensures in
    let place-is : at c.self.inside.pool c.place-first.result ≡ Some c.args.ready = ap (at c.self.inside.pool) c.place-first.ensures.place ∙ asked-front g.row.P g.row.J _ _ _ _ _ c.self.invariant c.self.told c.self.told2 c.args.ready there c.get-oldest.result first-is c.if-oldest-ready.false in
    rw (c.put_place.ensures, c.clear-else-first-end.ensures) (without-first g.row.P g.row.J _ _ _ _ _ c.self.invariant c.self.told c.self.told2 c.place-first.result c.args.ready place-is c.place-first.ensures.place (λ e. c.if-first-end.false (e ∙ sym (ap (slice_index c.self.inside.ends) c.from.ensures))))

pub returns-then-place-end-clause-list : goal.returns-then-place-end-clause-list
returns-then-place-end-clause-list g c =
    let there : Contains (ordered c.self.inside.pool) c.args.ready = subst (λ (l : List Ready). Contains l c.args.ready) (sym c.self.view_is) c.requires.there in
    let place-is : at c.self.inside.pool (slice_index c.self.inside.next c.place_before-before.result) ≡ Some c.args.ready = asked-behind g.row.P g.row.J _ _ _ _ _ c.self.invariant c.self.told c.self.told2 c.args.ready there c.place_before-before.result c.place_before-before.ensures in
    ap ordered c.clear.ensures ∙ out g.row.P g.row.J _ _ _ _ _ c.self.invariant c.self.told c.self.told2 (slice_index c.self.inside.next c.place_before-before.result) c.args.ready place-is ∙ ap (without c.args.ready) c.self.view_is

pub returns-else-place-end-clause-list : goal.returns-else-place-end-clause-list
returns-else-place-end-clause-list g c =
    let there : Contains (ordered c.self.inside.pool) c.args.ready = subst (λ (l : List Ready). Contains l c.args.ready) (sym c.self.view_is) c.requires.there in
    let place-is : at c.self.inside.pool (slice_index c.self.inside.next c.place_before-before.result) ≡ Some c.args.ready = asked-behind g.row.P g.row.J _ _ _ _ _ c.self.invariant c.self.told c.self.told2 c.args.ready there c.place_before-before.result c.place_before-before.ensures in
    ap ordered c.clear-else-place-end.ensures ∙ out g.row.P g.row.J _ _ _ _ _ c.self.invariant c.self.told c.self.told2 (slice_index c.self.inside.next c.place_before-before.result) c.args.ready place-is ∙ ap (without c.args.ready) c.self.view_is

pub returns-then-first-end-clause-list : goal.returns-then-first-end-clause-list
returns-then-first-end-clause-list g c =
    let there : Contains (ordered c.self.inside.pool) c.args.ready = subst (λ (l : List Ready). Contains l c.args.ready) (sym c.self.view_is) c.requires.there in
    let first-is : at c.self.inside.pool (slice_index c.self.inside.fronts.places c.args.ready.priority) ≡ Some c.get-oldest.result = ap (at c.self.inside.pool) (sym c.place-first.ensures.place) ∙ c.get-oldest.ensures in
    let place-is : at c.self.inside.pool c.place-first.result ≡ Some c.args.ready = ap (at c.self.inside.pool) c.place-first.ensures.place ∙ asked-front g.row.P g.row.J _ _ _ _ _ c.self.invariant c.self.told c.self.told2 c.args.ready there c.get-oldest.result first-is c.if-oldest-ready.false in
    ap ordered c.clear-then-first-end.ensures ∙ out g.row.P g.row.J _ _ _ _ _ c.self.invariant c.self.told c.self.told2 c.place-first.result c.args.ready place-is ∙ ap (without c.args.ready) c.self.view_is

pub returns-else-first-end-clause-list : goal.returns-else-first-end-clause-list
returns-else-first-end-clause-list g c =
    let there : Contains (ordered c.self.inside.pool) c.args.ready = subst (λ (l : List Ready). Contains l c.args.ready) (sym c.self.view_is) c.requires.there in
    let first-is : at c.self.inside.pool (slice_index c.self.inside.fronts.places c.args.ready.priority) ≡ Some c.get-oldest.result = ap (at c.self.inside.pool) (sym c.place-first.ensures.place) ∙ c.get-oldest.ensures in
    let place-is : at c.self.inside.pool c.place-first.result ≡ Some c.args.ready = ap (at c.self.inside.pool) c.place-first.ensures.place ∙ asked-front g.row.P g.row.J _ _ _ _ _ c.self.invariant c.self.told c.self.told2 c.args.ready there c.get-oldest.result first-is c.if-oldest-ready.false in
    ap ordered c.clear-else-first-end.ensures ∙ out g.row.P g.row.J _ _ _ _ _ c.self.invariant c.self.told c.self.told2 c.place-first.result c.args.ready place-is ∙ ap (without c.args.ready) c.self.view_is
