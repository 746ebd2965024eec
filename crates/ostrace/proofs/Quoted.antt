-- A text that needs no escape is read, in quotes, as the string of that text.
use Rattle.std.proofs.Common.{◌≡◌, ℕ, true, Some, option_and_then, List, [], ◌∷◌, ◌++◌, sym, ap, ◌∙◌, arith}
use Rattle.std.specs.List.{list_all}
use Rattle.std.proofs.lemmas.List.Sums.{AllPass-from_list_all}
use Rattle.json.specs.Json as json
use Rattle.json.specs.{Lex.tokens, Print.escape, Run.is_plain, Token.Token}
use Rattle.json.proofs.{Printed.Plain.escape_on_plain, Printed.Tokens.tokens-print, Printed.Trees.ArePrintable-json_tokens, Printed.Trees.value-json_tokens}
use Rattle.serde_json.specs.{Data.string, Read.max_depth, Read.of_json, Read.read}
use Rattle.serde_json.proofs.Texts.{print-outline}

escape-plain : (text : List ℕ) → list_all is_plain text ≡ true → escape text ≡ text
escape-plain text plain = escape_on_plain true text (λ k _ lt. AllPass-from_list_all is_plain text plain k 0 lt)

pub read-quoted : (text : List ℕ) → list_all is_plain text ≡ true → read (34 ∷ (text ++ 34 ∷ [])) ≡ Some (string text)
read-quoted text plain =
    let token : tokens (34 ∷ (text ++ 34 ∷ [])) ≡ Token.string text ∷ []
    = ap (λ (t : List ℕ). tokens (34 ∷ (t ++ 34 ∷ []))) (sym (escape-plain text plain)) ∙ ap tokens (sym (print-outline (string text)))
    ∙ tokens-print (Token.string text ∷ []) (ArePrintable-json_tokens (json.string text) tt) in
    ap (λ o. option_and_then of_json (option_and_then (λ p. json.if_last p.0 p.1) o))
    (ap (json.value max_depth) token ∙ value-json_tokens (json.string text) max_depth [] (omega arith))
