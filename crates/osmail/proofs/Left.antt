-- What was taken and then what is left, beside what was sent.
use Rattle.std.proofs.Common.{◌≡◌, ◌↔◌, List, [], ◌++◌, ap, sym, ◌∙◌, append-nil}
use Rattle.std.proofs.lemmas.List.{append_cancel_left}
use Rattle.osbase.specs.declared.messages.Letter.{Letter}

-- If the rest of what was sent does not begin with what is left, taken and left together are not what was sent.
pub left_differs : (taken left sent rest : List Letter) → sent ≡ taken ++ rest → ((more : List Letter) → left ++ more ≡ rest → ⊥) → taken ++ left ≡ sent → ⊥
left_differs taken left sent rest is differs same = differs [] (append-nil left ∙ append_cancel_left taken left rest (same ∙ is))

-- What was taken and then what is left is what was sent exactly if nothing was sent after both.
pub left_whole : (taken left sent rest more : List Letter) → sent ≡ taken ++ rest → rest ≡ left ++ more → taken ++ left ≡ sent ↔ more ≡ []
left_whole taken left sent rest more is behind = (
  λ (same : taken ++ left ≡ sent). append_cancel_left left more [] (sym (append-nil left ∙ append_cancel_left taken left rest (same ∙ is) ∙ behind)),
  λ (none : more ≡ []). ap (λ (l : List Letter). taken ++ l) (sym (behind ∙ ap (λ (l : List Letter). left ++ l) none ∙ append-nil left)) ∙ sym is,
)
