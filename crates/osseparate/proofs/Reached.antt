-- The started cores are closed under start lists: as many rounds as there are cores are enough.
use Rattle.std.proofs.Common.{◌≡◌, ℕ, zero, suc, Bool, true, ◌&&◌, ◌||◌, Some, List, [], ◌∷◌, length, map, is_some, refl, sym, ap, subst, ◌∙◌}
use Rattle.std.specs.List.{AllByRecursion, list_any}
use Rattle.std.proofs.{lemmas.Bool.and_from, lemmas.Bool.or_left, lemmas.Bool.or_right, lemmas.List.length-map, lemmas.List.Elements.All-from_recursion, lemmas.List.Folds.Any-from_list_any}
use Rattle.osbase.specs.{declared.references.CoreId.CoreId, History.same_core}
use Rattle.osbase.proofs.Same.{same_core-true, same_core-refl}
use Rattle.osplan.specs.{declared.plans.Plan.Plan, declared.plans.Core.Core, View.core_of}
use Rattle.osseparate.specs.Separate.{configured_ids, is_among, is_named_by, is_started, started_within}
use Rattle.osplan.proofs.{Tests.any-found, Tests.find-holds, Rounds.Stays, Rounds.settled}
use Rattle.osseparate.proofs.Starting.{among-configured, kept, within-known}

module _ (plan : Plan) where
  abbrev ids : List CoreId
  ids = configured_ids plan

  abbrev within : ℕ → CoreId → Bool
  within n id = is_among (started_within plan n) id

  next-round : (n : ℕ) (id : CoreId) → within (suc n) id ≡ ((within n id || is_named_by plan (started_within plan n) id) && is_among ids id)
  next-round n id = kept (λ i. within n i || is_named_by plan (started_within plan n) i) ids id

  within-more : (n : ℕ) (id : CoreId) → within n id ≡ true → within (suc n) id ≡ true
  within-more n id e = next-round n id ∙ and_from _ _ (or_left (within n id) _ e) (within-known plan n id e)

  -- if a round changes nothing, the started cores name the same cores
  named-same : (n : ℕ) (id : CoreId) (cores : List Core) → AllByRecursion (λ (i : CoreId). within (suc n) i ≡ within n i) (map (λ (c : Core). c.id) cores)
      → list_any (λ (c : Core). within (suc n) c.id && is_among c.start id) cores ≡ list_any (λ (c : Core). within n c.id && is_among c.start id) cores
  named-same n id [] stays = refl
  named-same n id (c ∷ cs) stays = rw (stays.0, named-same n id cs stays.1) refl

  stays-on : (n : ℕ) → Stays within ids n → (id : CoreId) → within (suc n) id ≡ within n id → within (suc (suc n)) id ≡ within (suc n) id
  stays-on n stays id same = rw (next-round (suc n) id, same, named-same n id plan.cores stays) (sym (next-round n id) ∙ same)

  abbrev Same : CoreId → Type 0
  Same id = within (suc (length plan.cores)) id ≡ within (length plan.cores) id

  enough : Stays within ids (length plan.cores)
  enough = subst (λ (n : ℕ). Stays within ids n) (length-map plan.cores (λ (c : Core). c.id)) (settled within ids within-more stays-on)

  -- ---- what starts

  within-later : (n : ℕ) (id : CoreId) → within zero id ≡ true → within n id ≡ true
  within-later zero id e = e
  within-later (suc n) id e = within-more n id (within-later n id e)

  -- the master is started
  pub started-master : is_some (core_of plan plan.master) ≡ true → is_started plan plan.master ≡ true
  started-master there =
      within-later (length plan.cores) plan.master
      (kept (λ i. same_core i plan.master) ids plan.master ∙ and_from _ _ (same_core-refl plan.master) (among-configured plan plan.master ∙ there))

  -- a configured core that a started core names in its start list is started
  pub started-next : (id k : CoreId) (core : Core) → is_started plan id ≡ true → core_of plan id ≡ Some core → is_among core.start k ≡ true → is_some (core_of plan k) ≡ true → is_started plan k ≡ true
  started-next id k core started found named there =
      let same : core.id ≡ id = same_core-true core.id id (find-holds (λ (c : Core). same_core c.id id) plan.cores core found) in
      let named_by : is_named_by plan (started_within plan (length plan.cores)) k ≡ true
      = any-found (λ (c : Core). same_core c.id id) (λ (c : Core). within (length plan.cores) c.id && is_among c.start k) plan.cores core found
      (and_from _ _ (ap (within (length plan.cores)) same ∙ started) named) in
      let known = among-configured plan k ∙ there in
      let (at, found, inside, is, alike) = Any-from_list_any (λ (c : CoreId). same_core c k) ids known in
      let stays : within (suc (length plan.cores)) k ≡ within (length plan.cores) k
      = subst Same (is ∙ same_core-true found k alike) (All-from_recursion Same ids enough at found inside) in
      sym stays ∙ next-round (length plan.cores) k ∙ and_from _ _ (or_right _ _ named_by) known
