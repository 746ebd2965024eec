-- The stimuli that are read are known to their cores, and no core has too many.
use Rattle.std.proofs.Common.{◌≡◌, ℕ, ◌≤◌, ◌^◌, Bool, true, false, nat_le, cond, Option, Some, None, option_map, List, [], ◌∷◌, length, refl, sym, ap, subst, ◌∙◌, arith}
use Rattle.std.specs.{List.list_all, Option.option_map_or, Str.bytes_eq}
use Rattle.std.specs.Prelude.{codes, drop, find, is_some, take, unwrap_or}
use Rattle.std.proofs.{lemmas.Bool.and_parts, lemmas.Bool.leb-true, lemmas.Option.option_and_then_some, lemmas.Option.same_Some}
use Rattle.osbase.specs.{declared.references.CoreId.CoreId, declared.references.IsrRef.IsrRef, declared.items.Stimulus.Stimulus, declared.items.Stimulus.TheVariants.Irq, declared.items.Stimulus.TheVariants.Op, declared.items.Stimulus.TheVariants.Tick, declared.turns.CoreStimuli.CoreStimuli, History.same_core, Runs.stimuli_of}
use Rattle.osbase.proofs.Same.{same_core-true}
use Rattle.osplan.specs.{declared.plans.Core.Core, declared.plans.Plan.Plan, Stimuli.AreKnown, Stimuli.knows_stimulus}
use Rattle.osplan.specs.View.{core_of, no_core, own_isr, view_of}
use Rattle.osplan.proofs.Tests.{find-holds}
use Rattle.serde_json.specs.{Data.Data, Find.as_str, Find.as_object}
use Rattle.osinput.specs.Given.{are_stimuli_within, core_named, core_stimuli_of, has_words_within, is_isr_named, isr_named, stimuli_of_data, stimuli_of_words, stimulus_of}
use Rattle.osinput.specs.Word.{core_number}
use Rattle.osinput.proofs.Interrupts.{refs_from}
use Rattle.osjson.specs.{Reading.each, Reading.parts_of, Json.entries}

-- each element was read
each-parts : {X Y P : Type 0} (f : X → Option Y) (x : X) (xs : List X) (ys : List Y) → each f (x ∷ xs) ≡ Some ys → ((z : Y) (zs : List Y) → f x ≡ Some z → each f xs ≡ Some zs → ys ≡ z ∷ zs → P) → P
each-parts {X} {Y} {P} f x xs ys e then = option_and_then_some (λ (y : Y). option_map (λ (zs : List Y). y ∷ zs) (each f xs)) (f x) ys e (λ z first rest. by z first (each f xs) refl rest)
  where
    by : (z : Y) → f x ≡ Some z → (o : Option (List Y)) → each f xs ≡ o → option_map (λ (zs : List Y). z ∷ zs) o ≡ Some ys → P
    by z first None others rest = cc
    by z first (Some zs) others rest = then z zs first others (sym (same_Some _ _ rest))

-- a core that is found by its digits is the core that the plan has under its number
own-named : (plan : Plan) (digits : List ℕ) (core : Core) → core_named plan digits ≡ Some core → core_of plan core.id ≡ Some core
own-named plan digits core e = option_and_then_some _ (core_number digits) core e (λ number is found.
    subst (λ (id : CoreId). core_of plan id ≡ Some core) (sym (same_core-true core.id (record { number = number }) (find-holds (λ (k : Core). same_core k.id (record { number = number })) plan.cores core found))) found)

known-isr : (core : Core) (name : List ℕ) (i : IsrRef) → isr_named core name ≡ Some i → is_some (own_isr core i) ≡ true
known-isr core name i found = let named = find-holds (is_isr_named core name) (refs_from core 0) i found in grind arith

known-by : (core : Core) (op tick irq : Bool) (isr : Option IsrRef) (s : Stimulus) → ((i : IsrRef) → isr ≡ Some i → is_some (own_isr core i) ≡ true) → cond op (Some Op) (cond tick (Some Tick) (cond irq (option_map Irq isr) None)) ≡ Some s → knows_stimulus core s ≡ true
known-by core op tick irq isr s own e = grind arith

known-word : (core : Core) (word : List ℕ) (s : Stimulus) → stimulus_of core word ≡ Some s → knows_stimulus core s ≡ true
known-word core word s = known-by core (bytes_eq word (codes "op")) (bytes_eq word (codes "tick")) (bytes_eq (take 4 word) (codes "irq=")) (isr_named core (drop 4 word)) s (known-isr core (drop 4 word))

abbrev AreWords : Core → List Stimulus → ℕ → Type 0
AreWords core ss n = (list_all (knows_stimulus core) ss ≡ true) × (length ss ≡ n)

known-words : (core : Core) (words : List (List ℕ)) (ss : List Stimulus) → each (stimulus_of core) words ≡ Some ss → AreWords core ss (length words)
known-words core [] ss e = subst (λ (xs : List Stimulus). AreWords core xs 0) (same_Some _ _ e) (refl, refl)
known-words core (w ∷ ws) ss e = each-parts (stimulus_of core) w ws ss e (λ z zs first others is.
    let rest = known-words core ws zs others in
    rw is (rw (known-word core w z first, rest.0, rest.1) (refl, refl)))

abbrev AreFew : Plan → CoreId → List Stimulus → Type 0
AreFew plan id ss = (list_all (knows_stimulus (view_of plan id).own) ss ≡ true) × (length ss ≤ 2 ^ 47)

entry-few : (plan : Plan) (entry : List ℕ × Data) (s : CoreStimuli) → has_words_within 100000 entry.1 ≡ true → core_stimuli_of plan entry ≡ Some s → AreFew plan s.core s.words
unfolding core_stimuli_of
entry-few plan entry s within e =
    option_and_then_some _ (core_named plan entry.0) s e (λ core c e1. option_and_then_some _ (as_str entry.1) s e1 (λ text t e2. option_and_then_some _ (stimuli_of_words core text) s e2 (λ words w e3.
    let known = known-words core (parts_of 32 text) words w in
    let few = leb-true (length (parts_of 32 text)) 100000 (sym (ap (λ (o : Option (List ℕ)). option_map_or (λ (x : List ℕ). nat_le (length (parts_of 32 x)) 100000) o true) t) ∙ within) in
    let there : list_all (knows_stimulus (view_of plan core.id).own) words ≡ true = ap (λ (o : Option Core). list_all (knows_stimulus (unwrap_or o (no_core core.id))) words) (own-named plan entry.0 core c) ∙ known.0 in
    subst (λ (x : CoreStimuli). AreFew plan x.core x.words) (same_Some _ _ e3) (there, omega (arith, known.1, few)))))

entries-few : (plan : Plan) (ms : List (List ℕ × Data)) (ss : List CoreStimuli) → list_all (λ (entry : List ℕ × Data). has_words_within 100000 entry.1) ms ≡ true → each (core_stimuli_of plan) ms ≡ Some ss → (id : CoreId) → AreFew plan id (stimuli_of ss id)
entries-few plan [] ss within e id = subst (λ (xs : List CoreStimuli). AreFew plan id (stimuli_of xs id)) (same_Some _ _ e) (refl, omega arith)
entries-few plan (m ∷ ms) ss within e id = each-parts (core_stimuli_of plan) m ms ss e (λ z zs first others is.
    let parts = and_parts (has_words_within 100000 m.1) (list_all (λ (entry : List ℕ × Data). has_words_within 100000 entry.1) ms) within in
    rw is (by z zs (same_core z.core id) refl (entry-few plan m z parts.0 first) (entries-few plan ms zs parts.1 others id)))
  where
    by : (z : CoreStimuli) (zs : List CoreStimuli) (b : Bool) → same_core z.core id ≡ b → AreFew plan z.core z.words → AreFew plan id (stimuli_of zs id) → AreFew plan id (option_map_or (λ (entry : CoreStimuli). entry.words) (cond b (Some z) (find (λ (entry : CoreStimuli). same_core entry.core id) zs)) [])
    by z zs true same here rest = subst (λ (core : CoreId). AreFew plan core z.words) (same_core-true z.core id same) here
    by z zs false same here rest = rest

-- If a JSON value is within the limit, its stimuli are known and few enough.
pub known_data : (plan : Plan) (d : Data) (ss : List CoreStimuli) → are_stimuli_within d ≡ true → stimuli_of_data plan d ≡ Some ss → AreKnown plan ss
known_data plan d ss within is =
    let each_core : (id : CoreId) → AreFew plan id (stimuli_of ss id) = λ id. option_and_then_some _ (as_object d) ss is (λ ms object read_each.
    entries-few plan (entries ms) ss (sym (ap (λ o. option_map_or (λ ns. list_all (λ (entry : List ℕ × Data). has_words_within 100000 entry.1) (entries ns)) o true) object) ∙ within) read_each id) in
    record { there = λ id. (each_core id).0; few = λ id. (each_core id).1 }
