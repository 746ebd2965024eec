use Rattle.std.proofs.Common.{rules, ◌≡◌, ◌++◌, [], Some, None, lit<, sym, ap, ◌∙◌}
use Rattle.std.proofs.{lemmas.List.nil_from_length, lemmas.Str.Pattern.strip_prefix_char}
use Rattle.oscript.specs.Rows.{word_of}
use Rattle.ossyntax.proofs.FirstWord.{goes_astray, goes_no_further, goes_on, lacks}
use Rattle.ossyntax.proofs.parsing.rest_of.Goals as goal

pub returns-in-Some : goal.returns-in-Some
returns-in-Some c =
    let word : c.row_of.result.word.now ≡ word_of c.args.verb = ap (λ row. row.0) c.row_of.ensures in
    let found = c.in-Some.ensures.cases in
    let none : c.in-Some.rest.now ≡ [] = nil_from_length c.in-Some.rest.now (search rules) in
    sym (goes_no_further c.args.verb c.args.text.now (cc (found.1.1, found.2, word, none)))

pub returns-in-Some-strip_prefix : goal.returns-in-Some-strip_prefix
returns-in-Some-strip_prefix c =
    let word : c.row_of.result.word.now ≡ word_of c.args.verb = ap (λ row. row.0) c.row_of.ensures in
    let found = c.in-Some.ensures.cases in
    let spaced = strip_prefix_char 32 c.in-Some.rest.now (Some c.in-Some-strip_prefix.rest) c.in-Some-strip_prefix.ensures.cases (lit< tt) in
    sym (goes_on c.args.verb c.args.text.now c.in-Some-strip_prefix.rest.now (cc (found.1.1, found.2, word, spaced)))

pub returns-in-None-strip_prefix : goal.returns-in-None-strip_prefix
returns-in-None-strip_prefix c =
    let word : c.row_of.result.word.now ≡ word_of c.args.verb = ap (λ row. row.0) c.row_of.ensures in
    let found = c.in-Some.ensures.cases in
    let no_space = strip_prefix_char 32 c.in-Some.rest.now None c.in-None-strip_prefix.ensures.cases (lit< tt) in
    sym (goes_astray (word_of c.args.verb) c.args.text.now c.in-Some.rest.now (cc (found.1.1, found.2, word)) (search rules) no_space)

pub returns-in-None : goal.returns-in-None
returns-in-None c =
    let word : c.row_of.result.word.now ≡ word_of c.args.verb = ap (λ row. row.0) c.row_of.ensures in
    sym (lacks (word_of c.args.verb) c.args.text.now (λ rest e. c.in-None.ensures.cases rest (e ∙ ap (λ w. w ++ rest) (sym word))))
