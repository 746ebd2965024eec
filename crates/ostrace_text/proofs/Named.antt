-- If two configurations agree on the cores whose objects a mark names, the mark's line is the same in both. The check
-- makes a case of each mark and each call, so a new one needs no line here.
use native.Mathlib.Omega.{arith}
use Rattle.std.proofs.Common.{◌≡◌, Bool, true, List, [], ◌∷◌, ◌++◌, ℕ, refl, ap, ◌∙◌}
use Rattle.std.specs.List.{list_all}
use Rattle.std.proofs.lemmas.Bool.{and_parts}
use Rattle.osbase.specs.{declared.references.CoreId.CoreId, declared.references.Runner.Runner, declared.messages.RemoteCall.RemoteCall, declared.marks.Mark.Mark, Marks.core_of_runner, Marks.names_only, Objects.object_of_call}
use Rattle.osplan.specs.{declared.plans.Plan.Plan, Names.runner_name, View.core_of}
use Rattle.ostrace_text.specs.Trace.{call_words, line_end, line_of, lines_of, spaced, words_of}

module _ (p q : Plan) (test : CoreId → Bool) (same : (core : CoreId) → test core ≡ true → core_of p core ≡ core_of q core) where
  call-same : (call : RemoteCall) → test (object_of_call call).place.core ≡ true → call_words p call ≡ call_words q call
  call-same call n = grind arith

  runner-same : (r : Runner) → test (core_of_runner r) ≡ true → runner_name p r ≡ runner_name q r
  runner-same r n = grind arith

  words-same : (m : Mark) → names_only test m ≡ true → words_of p m ≡ words_of q m
  words-same m n = grind (arith, call-same, runner-same)

  -- The same holds for lists of such marks.
  pub lines-same : (marks : List Mark) → list_all (names_only test) marks ≡ true → lines_of p marks ≡ lines_of q marks
  lines-same [] all = refl
  lines-same (m ∷ ms) all =
      let parts = and_parts (names_only test m) (list_all (names_only test) ms) all in
      ap (λ (words : List (List ℕ)). (spaced words ++ line_end) ++ lines_of p ms) (words-same m parts.0)
      ∙ ap (λ (rest : List ℕ). (line_of q m ++ line_end) ++ rest) (lines-same ms parts.1)
