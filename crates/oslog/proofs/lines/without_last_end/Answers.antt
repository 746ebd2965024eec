use Rattle.std.proofs.Common.{rules, ◌≡◌, ◌==◌, true, not, length, Some, None, lit<, sym, ap, ◌∙◌}
use Rattle.std.proofs.lemmas.Str.Pattern.{strip_suffix_char}
use Rattle.oslog.specs.Logs.{without_last_end}
use Rattle.oslog.proofs.Texts.{last-goes, last-stays}
use Rattle.oslog.proofs.lines.without_last_end.Goals as goal

pub returns-in-Some : goal.returns-in-Some
returns-in-Some c =
    let some : not (length c.in-Some.rest.now == 0) ≡ true = search rules in
    sym (ap without_last_end (strip_suffix_char 10 c.args.text.now (Some c.in-Some.rest) c.in-Some.ensures.cases (lit< tt)) ∙ last-goes c.in-Some.rest.now some)

pub returns-in_default-2 : goal.returns-in_default-2
returns-in_default-2 c = sym (last-stays c.args.text.now (strip_suffix_char 10 c.args.text.now None (search (rules, c.strip_suffix.ensures.cases, c.in_default.is)) (lit< tt)))
